-- A table of the next beat of each ID.
use Rattle.std.specs.Prelude.{◌≡◌, ℕ, suc, ◌-◌, ◌≤◌, Bool, List, [], ◌++◌, drop, map, slice_get, Option, None, Some}
use Rattle.axi_burst.specs.declared.transfers.Address.{Address}
use Rattle.axi_burst.specs.declared.turns.Turns.{Turns}
use Rattle.axi_burst.specs.Bursts.{is_last, turns}
use Rattle.axi_burst.specs.Counted.{count_in}
use Rattle.axi_burst.specs.HeadTable.{AreHeads, head_in, one_more}

abbrev pub turns_of : Address → List (ℕ × Bool)
turns_of a = map (λ last. (a.at, last)) (is_last a.beats)

-- the turns of an ID from a burst on, of which so many beats were before
abbrev pub left_in : List Address → ℕ → ℕ → ℕ → Option Address → List (ℕ × Bool)
left_in asks id m used None = []
left_in asks id m used (Some a) = drop used (turns_of a) ++ turns id (drop (suc m) asks)

abbrev pub left_from : List Address → ℕ → ℕ → Option ℕ → List (ℕ × Bool)
left_from asks id used None = []
left_from asks id used (Some m) = left_in asks id m used (slice_get asks m)

-- the table has for each ID the turns behind those that are taken
pub record AreTurns (asks : List Address) (taken : ℕ → ℕ) (t : Turns) : Type 0 where
  pub bursts : ℕ → ℕ
  pub heads : AreHeads asks bursts t.heads
  pub left : (id : ℕ) → drop (taken id) (turns id asks) ≡ left_from asks id (count_in t.used.numbers.entries id) (head_in t.heads.heads.entries id)
  pub within : (id m : ℕ) (a : Address) → head_in t.heads.heads.entries id ≡ Some m → slice_get asks m ≡ Some a
      → count_in t.used.numbers.entries id ≤ a.beats - 1

-- the first turn that isn't taken is the answer, and then taken
abbrev pub TakesTurn : List Address → Turns → ℕ → Turns → Option (ℕ × Bool) → Type 0
TakesTurn asks old id new turn = (taken : ℕ → ℕ) → AreTurns asks taken old
    → (turn ≡ slice_get (turns id asks) (taken id)) × AreTurns asks (one_more taken id) new
