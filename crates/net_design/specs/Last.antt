-- What the last of a list of updates makes a bit: the equation of an `always @*` in *Settled map* (this project's profile).
use Rattle.std.specs.Prelude.{◌≡◌, ℕ, ◌+◌, ◌-◌, ◌^◌, ◌<◌, ◌==◌, ◌&&◌, nat_le, nat_lt, Bool, false, if◌then◌else◌}
use Rattle.std.specs.Prelude.{List, [], ◌∷◌, length, slice_index, Option, None, Some}
use Rattle.std.specs.Int.{bit_at}
use Rattle.std.specs.Option.{option_or}
use Rattle.net_design.specs.declared.values.Target.{Target}
use Rattle.net_design.specs.declared.values.Target.TheVariants.{Net, Word}
use Rattle.net_design.specs.declared.values.Update.{Update}
use Rattle.net_design.specs.declared.values.Values.{Values}

abbrev pub same_target : Target → Target → Bool
same_target (Net m) (Net n) = m == n
same_target (Net m) (Word j) = false
same_target (Word i) (Net n) = false
same_target (Word i) (Word j) = i == j

-- whether an update writes bit k of t
abbrev pub touches : Update → Target → ℕ → Bool
touches u t k = same_target u.target t && (nat_le u.low k && nat_lt k (u.low + u.width))

-- what the last of the updates that write bit k of t makes it, where one does
abbrev pub last_bit : List Update → Target → ℕ → Option ℕ
last_bit [] t k = None
last_bit (u ∷ us) t k = option_or (last_bit us t k) (if touches u t k then Some (bit_at u.number (k - u.low)) else None)

-- bit k of a net or word
abbrev pub bit_of : Target → ℕ → Values → ℕ
bit_of (Net m) k v = bit_at (slice_index v.nets m) k
bit_of (Word i) k v = bit_at (slice_index v.words i) k

abbrev pub IsThere : Target → Values → Type 0
IsThere (Net m) v = m < length v.nets
IsThere (Word i) v = i < length v.words

-- each bit that the updates write is in v what the last of them makes it; of other bits nothing is said
abbrev pub HasLast : List Update → Values → Type 0
HasLast us v = (t : Target) (k b : ℕ) → IsThere t v → k < 128 → last_bit us t k ≡ Some b → bit_of t k v ≡ b

-- each number has at most 128 bits
pub record IsNarrow (v : Values) : Type 0 where
  pub nets : (m : ℕ) → slice_index v.nets m < 2 ^ 128
  pub words : (i : ℕ) → slice_index v.words i < 2 ^ 128
