-- Moved code is in range where the code is, once moved.
use Rattle.std.proofs.Common.{ℕ, ◌+◌, ◌≤◌, List, [], ◌∷◌, map, sym, subst}
use Rattle.std.specs.List.{AllByRecursion}
use Rattle.net_design.specs.declared.rhs.Span.{Span}
use Rattle.net_design.specs.declared.rhs.Room.{Room}
use Rattle.net_design.specs.declared.rhs.Rhs.{Rhs, Number, Bits, Word', Unary', Binary', Choose', Join', Repeat', Select'}
use Rattle.net_design.specs.declared.act.Place.{Place}
use Rattle.net_design.specs.declared.act.Place.TheVariants.{Bits as PlaceBits, BitsFrom, Word as PlaceWord, WordFrom}
use Rattle.net_design.specs.declared.act.Act.{Act, Set, Read, Branch', Row_of-Act, end_of-Act, more_of-Act, Row_of-Guard, end_of-Guard}
use Rattle.net_design.specs.declared.act.Act.{more_of-Guard}
use Rattle.net_design.specs.Sized.{IsRhs, IsPlace, IsAct, IsGuardRow, IsActRow, IsBlock}
use Rattle.net_code.specs.Moved.{moved_span, moved_room, moved_rhs, moved_place, moved_act, moved_guards, moved_row}
use Rattle.net_code.proofs.MovedValues.{width_moved}

module _ (net word : ℕ) (P Q : Span → Type 0) (R S : Room → ℕ → Type 0) (p : (s : Span) → P s
    → Q (moved_span net word s)) (r : (x : Room) (n : ℕ) → R x n → S (moved_room net word x) n) where
  rhs_in : (e : Rhs) → IsRhs P R e → IsRhs Q S (moved_rhs net word e)
  rhs_in (Number n) h = tt
  rhs_in (Bits s) h = (h.0, p s h.1)
  rhs_in (Word' x q i) h = (r x 0 h.0, rhs_in i h.1)
  rhs_in (Unary' op q a w) h = (h.0, rhs_in a h.1)
  rhs_in (Binary' op q a t b w) h = (h.0, rhs_in a h.1, rhs_in b h.2)
  rhs_in (Choose' q c t a u b) h = (rhs_in c h.0, rhs_in a h.1, rhs_in b h.2)
  rhs_in (Join' q high t low x y) h = (h.0, h.1, h.2, rhs_in high h.3, rhs_in low h.4)
  rhs_in (Repeat' n q a w) h = (h.0, h.1, h.2, rhs_in a h.3)
  rhs_in (Select' q a t i w) h = (h.0, rhs_in a h.1, rhs_in i h.2)

  place_in : (x : Place) → IsPlace P R x → IsPlace Q S (moved_place net word x)
  place_in (PlaceBits s n) h = (h.0, h.1, p s h.2)
  place_in (BitsFrom s i w) h = (h.0, h.1, p s h.2, rhs_in i h.3)
  place_in (PlaceWord x i low w n) h = (h.0, h.1, r x (low + w) h.2, rhs_in i h.3)
  place_in (WordFrom x i size j w) h = (h.0, h.1, r x size h.2, rhs_in i h.3, rhs_in j h.4)

  places_in : (xs : List Place) → AllByRecursion (IsPlace P R) xs → AllByRecursion (IsPlace Q S) (map (moved_place net word) xs)
  places_in [] h = tt
  places_in (x ∷ xs) h = (place_in x h.0, places_in xs h.1)

  mutual
    act_in : (a : Act) → IsAct P R a → IsAct Q S (moved_act net word a)
    act_in (Set target e) h = (subst (λ w. w ≤ 128) (sym (width_moved net word target)) h.0, places_in target h.1, rhs_in e h.2)
    act_in (Read e) h = rhs_in e h
    act_in (Branch' n guards m otherwise) h = (guards_in guards h.0, row_in otherwise h.1)

    guards_in : {n : _} → (row : Row_of-Guard n) → IsGuardRow P R row → IsGuardRow Q S (moved_guards net word row)
    guards_in end_of-Guard h = tt
    guards_in (more_of-Guard c k body rest) h = ((rhs_in c h.0.0, row_in body h.0.1), guards_in rest h.1)

    row_in : {n : _} → (row : Row_of-Act n) → IsActRow P R row → IsActRow Q S (moved_row net word row)
    row_in end_of-Act h = tt
    row_in (more_of-Act a rest) h = (act_in a h.0, row_in rest h.1)

  pub block_in : (acts : List Act) → IsBlock P R acts → IsBlock Q S (map (moved_act net word) acts)
  block_in [] h = tt
  block_in (a ∷ rest) h = (act_in a h.0, block_in rest h.1)
