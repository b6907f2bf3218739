-- *Updates*: what a block writes, in the order in which its statements are executed (IEEE 1364-2005, clause 9).
use Rattle.std.specs.Prelude.{◌≡◌, ℕ, ◌+◌, ◌-◌, ◌/◌, ◌%◌, ◌^◌, ◌<◌, ◌≤◌, min, ◌==◌, nat_lt, List, [], ◌∷◌, ◌++◌, length, slice_index}
use Rattle.std.specs.Prelude.{slice_set, if◌then◌else◌}
use Rattle.std.specs.List.{sum_by}
use Rattle.net_design.specs.declared.rhs.Room.{Room}
use Rattle.net_design.specs.declared.act.Place.{Place}
use Rattle.net_design.specs.declared.act.Place.TheVariants.{Bits, BitsFrom, Word, WordFrom}
use Rattle.net_design.specs.declared.act.Guard.{Guard}
use Rattle.net_design.specs.declared.act.Act.{Act, Set, Read, Branch', Row_of-Act, end_of-Act, more_of-Act, Row_of-Guard, end_of-Guard}
use Rattle.net_design.specs.declared.act.Act.{more_of-Guard}
use Rattle.net_design.specs.declared.act.Timing.{Timing}
use Rattle.net_design.specs.declared.act.Timing.TheVariants.{Blocking, Nonblocking}
use Rattle.net_design.specs.declared.values.Target.{Target}
use Rattle.net_design.specs.declared.values.Target.TheVariants.{Net, Word as WordTarget}
use Rattle.net_design.specs.declared.values.Update.{Update}
use Rattle.net_design.specs.declared.values.Values.{Values}
use Rattle.vidi_bits.specs.Number.{put_of}
use Rattle.net_design.specs.Value.{read, value}

-- ---- updates made

-- number k of a list with some of its bits replaced; past the end nothing changes
abbrev pub written : Update → ℕ → List ℕ → List ℕ
written u k xs = slice_set xs k (put_of (slice_index xs k) u.low u.width u.number)

abbrev pub written_to : Target → Update → Values → Values
written_to (Net m) u v = record { nets = written u m v.nets; words = v.words }
written_to (WordTarget i) u v = record { nets = v.nets; words = written u i v.words }

-- v after updates, made in order
abbrev pub apply : List Update → Values → Values
apply [] v = v
apply (u ∷ us) v = apply us (written_to u.target u v)

-- ---- the updates of a target

abbrev pub update : Target → ℕ → ℕ → ℕ → Update
update target low width number = record { target = target; low = low; width = width; number = number }

-- the low bits of x become w bits from bit low on, where there are some
abbrev pub bit_updates : Target → ℕ → ℕ → ℕ → List Update
bit_updates target low w x = if w == 0 then [] else update target low w x ∷ []

-- w bits from place i on of the `size` bits from bit low on, as far as there are that many
abbrev pub part_updates : Target → ℕ → ℕ → ℕ → ℕ → ℕ → List Update
part_updates target low size i w x = if nat_lt i size then update target (low + i) (min w (size - i)) x ∷ [] else []

-- the updates of word i of a memory, where it has that word
abbrev pub word_updates : Room → ℕ → (Target → List Update) → List Update
word_updates r i f = if nat_lt i r.length then f (WordTarget (r.first + i)) else []

-- the updates that give a place the number x; its indexes are read at v
abbrev pub place_updates : Place → ℕ → Values → List Update
place_updates (Bits s n) x v = bit_updates (Net s.net) s.low s.width x
place_updates (BitsFrom s i w) x v = part_updates (Net s.net) s.low s.width (value i v) w x
place_updates (Word r i low w n) x v = word_updates r (value i v) (λ t. bit_updates t low w x)
place_updates (WordFrom r i size j w) x v = word_updates r (value i v) (λ t. part_updates t 0 size (value j v) w x)

-- how many bits of the value a place takes
abbrev pub place_width : Place → ℕ
place_width (Bits s n) = n
place_width (BitsFrom s i w) = w
place_width (Word r i low w n) = n
place_width (WordFrom r i size j w) = w

abbrev pub target_width : List Place → ℕ
target_width places = sum_by place_width places

-- the places of a target from the first, which takes the highest bits of x, to the last; every index is read at v
abbrev pub target_updates : List Place → ℕ → Values → List Update
target_updates [] x v = []
target_updates (p ∷ ps) x v = place_updates p (x / 2 ^ target_width ps) v ++ target_updates ps x v

-- ---- the updates of statements

-- what the next statement sees: the updates before it where they take effect at once (9.2.1), else the old values (9.2.2)
abbrev pub seen : Timing → List Update → Values → Values
seen Blocking us v = apply us v
seen Nonblocking us v = v

-- a statement at v; a row is the list of statements, or of guards, that a statement holds
abbrev mutual
  pub updates : Timing → Act → Values → List Update
  updates t (Set target e) v = target_updates target (value e v) v
  updates t (Read e) v = []
  updates t (Branch' n guards m otherwise) v = guard_row t guards (act_row t otherwise v) v

  -- the first guard that is true, else us (9.4, 9.5)
  pub guard_row : {n : _} → Timing → Row_of-Guard n → List Update → Values → List Update
  guard_row t end_of-Guard us v = us
  guard_row t (more_of-Guard c k body rest) us v = if value c v == 0 then guard_row t rest us v else act_row t body v

  pub act_row : {n : _} → Timing → Row_of-Act n → Values → List Update
  act_row t end_of-Act v = []
  act_row t (more_of-Act a rest) v = updates t a v ++ act_row t rest (seen t (updates t a v) v)

-- *Updates* of a block
abbrev pub block_updates : Timing → List Act → Values → List Update
block_updates t [] v = []
block_updates t (a ∷ rest) v = updates t a v ++ block_updates t rest (seen t (updates t a v) v)

-- the first guard that is true, else us
abbrev pub guard_updates : Timing → List Guard → List Update → Values → List Update
guard_updates t [] us v = us
guard_updates t (g ∷ rest) us v = if value g.condition v == 0 then guard_updates t rest us v else block_updates t g.body v

-- v after a block whose assignments take effect at once
abbrev pub run : List Act → Values → Values
run acts v = apply (block_updates Blocking acts v) v

-- each part of a target has its bits of the number x, where the parts are bits of nets
abbrev pub HasParts : List Place → ℕ → Values → Type 0
HasParts [] x v = Unit {0}
HasParts (Bits s n ∷ ps) x v = (read s v ≡ x / 2 ^ target_width ps % 2 ^ s.width) × HasParts ps x v
HasParts (p ∷ ps) x v = ⊥

-- the parts of a target are bits of nets that are there
abbrev pub ArePlaced : List Place → Values → Type 0
ArePlaced [] v = Unit {0}
ArePlaced (Bits s n ∷ ps) v = (s.net < length v.nets) × (slice_index v.nets s.net < 2 ^ 128) × (s.low + s.width ≤ 128) × ArePlaced ps v
ArePlaced (p ∷ ps) v = ⊥
