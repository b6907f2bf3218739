-- The code of a lawful design is sized: what its evaluators ask for.
use Rattle.std.proofs.Common.{◌≡◌, ℕ, zero, suc, ◌+◌, ◌^◌, ◌<◌, ◌≤◌, IsTrue, List, [], ◌∷◌, Some, All, length}
use Rattle.std.proofs.Common.{get_or, take, map, slice_index, slice_get, ap, sym, subst, arith, refl}
use Rattle.std.specs.List.{AllByRecursion, sum_by}
use Rattle.std.proofs.lemmas.Bool.{leb-true, ltb-true, eqb-true, and_parts}
use Rattle.std.proofs.lemmas.List.Folds.{Any-from_list_any}
use Rattle.std.proofs.lemmas.List.Sums.{sum_by_more_le}
use Rattle.net_design.specs.declared.rhs.Span.{Span}
use Rattle.net_design.specs.declared.rhs.Room.{Room}
use Rattle.net_design.specs.declared.rhs.Rhs.{Rhs, Number, Bits, Word', Unary', Binary', Choose', Join', Repeat', Select'}
use Rattle.net_design.specs.declared.act.Place.{Place}
use Rattle.net_design.specs.declared.act.Place.TheVariants.{Bits as PlaceBits, BitsFrom, Word as PlaceWord, WordFrom}
use Rattle.net_design.specs.declared.act.Act.{Act, Set, Read, Branch', Row_of-Act, end_of-Act, more_of-Act, Row_of-Guard, end_of-Guard}
use Rattle.net_design.specs.declared.act.Act.{more_of-Guard}
use Rattle.net_design.specs.declared.act.Code.{Code}
use Rattle.net_design.specs.declared.design.Driver.{Driver}
use Rattle.net_design.specs.declared.design.Net.{Net}
use Rattle.net_design.specs.declared.design.DesignMemory.{DesignMemory}
use Rattle.net_design.specs.declared.design.Design.{Design}
use Rattle.net_design.specs.Sized.{IsRhs, IsPlace, IsAct, IsGuardRow, IsActRow, IsBlock, IsShort, IsCountable, IsSizedBlock}
use Rattle.net_design.specs.Settled.{IsSized, net_width, word_count}
use Rattle.net_design.specs.Lawful.{IsLawful, IsInRange, is_span, is_room}

-- ---- what asks for less of spans and rooms holds of more code
module _ (P Q : Span → Type 0) (R S : Room → ℕ → Type 0) (p : (s : Span) → P s → Q s) (r : (x : Room) (n : ℕ) → R x n → S x n) where
  rhs_more : (e : Rhs) → IsRhs P R e → IsRhs Q S e
  rhs_more (Number n) h = tt
  rhs_more (Bits s) h = (h.0, p s h.1)
  rhs_more (Word' x q i) h = (r x 0 h.0, rhs_more i h.1)
  rhs_more (Unary' op q a w) h = (h.0, rhs_more a h.1)
  rhs_more (Binary' op q a t b w) h = (h.0, rhs_more a h.1, rhs_more b h.2)
  rhs_more (Choose' q c t a u b) h = (rhs_more c h.0, rhs_more a h.1, rhs_more b h.2)
  rhs_more (Join' q high t low x y) h = (h.0, h.1, h.2, rhs_more high h.3, rhs_more low h.4)
  rhs_more (Repeat' n q a w) h = (h.0, h.1, h.2, rhs_more a h.3)
  rhs_more (Select' q a t i w) h = (h.0, rhs_more a h.1, rhs_more i h.2)

  place_more : (x : Place) → IsPlace P R x → IsPlace Q S x
  place_more (PlaceBits s n) h = (h.0, h.1, p s h.2)
  place_more (BitsFrom s i w) h = (h.0, h.1, p s h.2, rhs_more i h.3)
  place_more (PlaceWord x i low w n) h = (h.0, h.1, r x (low + w) h.2, rhs_more i h.3)
  place_more (WordFrom x i size j w) h = (h.0, h.1, r x size h.2, rhs_more i h.3, rhs_more j h.4)

  places_more : (xs : List Place) → AllByRecursion (IsPlace P R) xs → AllByRecursion (IsPlace Q S) xs
  places_more [] h = tt
  places_more (x ∷ xs) h = (place_more x h.0, places_more xs h.1)

  mutual
    act_more : (a : Act) → IsAct P R a → IsAct Q S a
    act_more (Set target e) h = (h.0, places_more target h.1, rhs_more e h.2)
    act_more (Read e) h = rhs_more e h
    act_more (Branch' n guards m otherwise) h = (guards_more guards h.0, row_more otherwise h.1)

    guards_more : {n : _} → (row : Row_of-Guard n) → IsGuardRow P R row → IsGuardRow Q S row
    guards_more end_of-Guard h = tt
    guards_more (more_of-Guard c k body rest) h = ((rhs_more c h.0.0, row_more body h.0.1), guards_more rest h.1)

    row_more : {n : _} → (row : Row_of-Act n) → IsActRow P R row → IsActRow Q S row
    row_more end_of-Act h = tt
    row_more (more_of-Act a rest) h = (act_more a h.0, row_more rest h.1)

  pub block_more : (acts : List Act) → IsBlock P R acts → IsBlock Q S acts
  block_more [] h = tt
  block_more (a ∷ rest) h = (act_more a h.0, block_more rest h.1)

-- ---- nets and memories of a lawful design
pub width_at : (ns : List Net) → All (λ (n : Net). n.width ≤ 128) ns → (m : ℕ) → slice_index (map (λ (n : Net). n.width) ns) m ≤ 128
width_at [] h m = omega arith
width_at (n ∷ ns) h zero = h zero n (omega arith)
width_at (n ∷ ns) h (suc m) = width_at ns (λ k d l. h (suc k) d (omega arith)) m

pub net_width_le : (d : Design) → IsLawful d → (m : ℕ) → net_width d m ≤ 128
net_width_le d law m = width_at d.nets (λ k n l. (law.nets k n l).0.1) m

pub slice_get-at : {X : Type 0} (xs : List X) (k : ℕ) (x : X) → k < length xs → get_or xs k x ≡ x → slice_get xs k ≡ Some x
slice_get-at [] k x l e = absurd (omega arith)
slice_get-at (y ∷ ys) zero x l e = ap Some e
slice_get-at (y ∷ ys) (suc k) x l e = slice_get-at ys k x (omega arith) e

pub room_within : (d : Design) → IsLawful d → (r : Room) (n : ℕ) → IsTrue (is_room d r n) → (r.first + r.length ≤ word_count d) × (n ≤ 128)
room_within d law r n h =
    let found = Any-from_list_any _ d.memories h in
    let k = found.0 in
    let a : DesignMemory = found.1 in
    let at : slice_get d.memories k ≡ Some a = slice_get-at d.memories k a found.2 found.3 in
    let t = and_parts _ _ found.4 in
    let u = and_parts _ _ t.1 in
    let first : a.room.first ≡ r.first = eqb-true _ _ t.0 in
    let size : a.room.length ≡ r.length = eqb-true _ _ u.0 in
    let wide : n ≤ a.width = leb-true _ _ u.1 in
    let before = law.rooms k a at in
    let all : sum_by (λ (x : DesignMemory). x.room.length) (take k d.memories) +
    (get_or d.memories k a).room.length ≤ word_count d = sum_by_more_le (λ (x : DesignMemory). x.room.length) d.memories k a found.2 in
    let item : (get_or d.memories k a).room.length ≡ a.room.length = ap (λ (x : DesignMemory). x.room.length) found.3 in
    let widest : (get_or d.memories k a).width ≤ 128 = (law.memories k a found.2).0.1 in
    let width : (get_or d.memories k a).width ≡ a.width = ap (λ (x : DesignMemory). x.width) found.3 in
    (omega arith, omega arith)

pub span_within : (d : Design) → IsLawful d → (s : Span) → IsTrue (is_span d s)
    → (s.net < length d.nets) × (s.low + s.width ≤ net_width d s.net)
span_within d law s h =
    let t = and_parts _ _ h in
    (ltb-true _ _ t.0, leb-true _ _ t.1)

pub block_sized : (d : Design) → IsLawful d → (acts : List Act) → IsInRange d acts → IsSizedBlock acts
block_sized d law acts h =
    let small : word_count d < 2 ^ 32 = law.small.words in
    let few : length d.nets < 2 ^ 32 = law.small.nets in
    block_more (λ s. IsTrue (is_span d s)) (IsShort (2 ^ 64)) (λ r n. IsTrue (is_room d r n)) (IsCountable (2 ^ 64))
    (λ s x. let w = net_width_le d law s.net in let t = span_within d law s x in (omega (arith, t.0), omega (arith, t.1)))
    (λ r n x. let w = room_within d law r n x in (omega arith, w.1))
    acts h

pub lawful_sized : (d : Design) → IsLawful d → IsSized d
lawful_sized d law = record {
  nets = λ k n l. (law.nets k n l).0.1;
  drivers = λ k x l. block_sized d law (get_or d.drivers k x).code.acts (law.drivers k x l).code.acts;
  blocks = λ k c l. block_sized d law (get_or d.blocks k c).acts (law.blocks k c l).code.acts;
  words = let small : word_count d < 2 ^ 32 = law.small.words in omega arith;
}

-- ---- a sized design
pub net_width_small : (d : Design) → IsSized d → (m : ℕ) → net_width d m ≤ 128
net_width_small d sized m = width_at d.nets sized.nets m

pub clocked_sized : (d : Design) → IsSized d → (k : ℕ) (c : Code) → k < length d.blocks → c ≡ get_or d.blocks k c → IsSizedBlock c.acts
clocked_sized d sized k c l e = subst (λ (x : Code). IsSizedBlock x.acts) (sym e) (sized.blocks k c l)

pub driver_sized : (d : Design) → IsSized d → (k : ℕ) (x : Driver) → k < length d.drivers → x ≡ get_or d.drivers k x
    → IsSizedBlock x.code.acts
driver_sized d sized k x l e = subst (λ (y : Driver). IsSizedBlock y.code.acts) (sym e) (sized.drivers k x l)

pub width_past : (ns : List Net) (m : ℕ) → length ns ≤ m → slice_index (map (λ (n : Net). n.width) ns) m ≡ 0
width_past [] m l = refl
width_past (n ∷ ns) zero l = absurd (omega arith)
width_past (n ∷ ns) (suc m) l = width_past ns m (omega arith)
