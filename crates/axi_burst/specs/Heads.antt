-- The y-th address with an ID, one after the other: what a pass needs that is linear in the trace.
use Rattle.std.specs.Prelude.{◌≡◌, ℕ, suc, ◌+◌, ◌==◌, ◌&&◌, if◌then◌else◌, nat_le, List, [], ◌∷◌, slice_get, Option, None, Some}
use Rattle.axi_burst.specs.declared.transfers.Address.{Address}
use Rattle.axi_burst.specs.Bursts.{numbers_with}

-- of addresses numbered from n on, the first with this ID from number k on
abbrev pub next_with : ℕ → ℕ → ℕ → List Address → Option ℕ
next_with id k n [] = None
next_with id k n (a ∷ asks) = if (a.id == id) && nat_le k n then Some n else next_with id k (n + 1) asks

-- the first head of an ID, and the head behind a head
pub record HeadsAdvance : Type 0 where
  pub first : (id : ℕ) (asks : List Address) → slice_get (numbers_with id asks) 0 ≡ next_with id 0 0 asks
  pub next : (id y m : ℕ) (asks : List Address) → slice_get (numbers_with id asks) y ≡ Some m
      → slice_get (numbers_with id asks) (suc y) ≡ next_with id (m + 1) 0 asks
