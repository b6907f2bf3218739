-- The places that statements name as targets.
use Rattle.std.specs.Prelude.{ℕ, List, [], ◌∷◌, ◌++◌, map}
use Rattle.std.specs.Borrow.{Bor}
use Rattle.std.specs.List.{count_by, flat_map}
use Rattle.net_design.specs.declared.act.Place.{Place}
use Rattle.net_design.specs.declared.act.Place.TheVariants.{Bits as PlaceBits, BitsFrom, Word as PlaceWord, WordFrom}
use Rattle.net_design.specs.declared.act.Guard.{Guard}
use Rattle.net_design.specs.declared.act.Act.{Act, Set, Read, Branch', Row_of-Act, end_of-Act, more_of-Act, Row_of-Guard, end_of-Guard}
use Rattle.net_design.specs.declared.act.Act.{more_of-Guard}
use Rattle.net_design.specs.Bits.{place_writes}

abbrev mutual
  pub targets : Act → List Place
  targets (Set target e) = target
  targets (Read e) = []
  targets (Branch' n guards l otherwise) = guard_row_targets guards ++ row_targets otherwise

  pub guard_row_targets : {n : _} → Row_of-Guard n → List Place
  guard_row_targets end_of-Guard = []
  guard_row_targets (more_of-Guard c n body rest) = row_targets body ++ guard_row_targets rest

  pub row_targets : {n : _} → Row_of-Act n → List Place
  row_targets end_of-Act = []
  row_targets (more_of-Act a rest) = targets a ++ row_targets rest

-- the targets of a list of statements, in text order
unfoldable pub block_targets : List Act → List Place
block_targets acts = flat_map targets acts

unfoldable pub guard_targets : List Guard → List Place
guard_targets guards = flat_map (λ (g : Guard). block_targets g.body) guards

-- the net that a place names, and the first word of the memory
abbrev pub place_net : Place → List ℕ
place_net (PlaceBits s n) = s.net ∷ []
place_net (BitsFrom s i w) = s.net ∷ []
place_net (PlaceWord r i low w n) = []
place_net (WordFrom r i size j w) = []

abbrev pub place_room : Place → List ℕ
place_room (PlaceBits s n) = []
place_room (BitsFrom s i w) = []
place_room (PlaceWord r i low w n) = r.first ∷ []
place_room (WordFrom r i size j w) = r.first ∷ []

unfoldable pub nets_named : List Place → List ℕ
nets_named places = flat_map place_net places

unfoldable pub rooms_named : List Place → List ℕ
rooms_named places = flat_map place_room places

-- how often places name bit k of net m: one that names it more than once counts so many times
abbrev pub bit_count : List Place → ℕ → ℕ → ℕ
bit_count places m k = count_by (λ (p : Place). place_writes p m k) places

-- places of the code, without pointers
abbrev pub plain_places : List (Bor Place) → List Place
plain_places places = map (λ (p : Bor Place). p.now) places
