-- The machine can take the code of expressions and statements: its widths are 1 to 128.
use Rattle.std.proofs.Common.{◌≡◌, ℕ, zero, suc, ◌+◌, ◌≤◌, ◌==◌, ◌&&◌, not, Bool, true, false, if◌then◌else◌}
use Rattle.std.proofs.Common.{List, [], ◌∷◌, ◌++◌, slice_index, refl, arith}
use Rattle.std.specs.List.{AllByRecursion}
use Rattle.net_design.specs.vidi_bits.Number.{IsWidth}
use Rattle.net_design.specs.vidi_bits.declared.operators.UnaryOp.{UnaryOp}
use Rattle.net_design.specs.vidi_bits.declared.operators.UnaryOp.TheVariants as unary
use Rattle.net_design.specs.vidi_bits.declared.operators.BinaryOp.{BinaryOp}
use Rattle.net_design.specs.vidi_bits.declared.operators.BinaryOp.TheVariants as binary
use Rattle.net_design.specs.declared.rhs.Rhs.{Rhs, Number, Bits, Word', Unary', Binary', Choose', Join', Repeat', Select'}
use Rattle.net_design.specs.declared.act.Place.{Place}
use Rattle.net_design.specs.declared.act.Place.TheVariants.{Bits as PlaceBits, BitsFrom, Word as PlaceWord, WordFrom}
use Rattle.net_design.specs.declared.act.Act.{Act, Set, Read, Branch', Row_of-Act, end_of-Act, more_of-Act, Row_of-Guard, end_of-Guard}
use Rattle.net_design.specs.declared.act.Act.{more_of-Guard}
use Rattle.net_design.specs.Sized.{IsGuardRow, IsActRow}
use Rattle.net_design.specs.Updates.{target_width}
use Rattle.net_instr.specs.declared.instr.Step.{Step}
use Rattle.net_instr.specs.declared.instr.Step.TheVariants as S
use Rattle.net_instr.specs.declared.instr.Instr.{Instr}
use Rattle.net_instr.specs.declared.instr.Instr.TheVariants.{Do}
use Rattle.net_instr.specs.Machine.{IsStep, IsInstr, AreSafe}
use Rattle.net_instr.specs.Layout.{base}
use Rattle.net_instr.specs.Expressions.{unary_step, binary_step, is_whole, stands, slot, step, taken, below, IsThere, HasRoom, IsRhsThere}
use Rattle.net_instr.specs.Statements.{choice, within, index_slots, forced, place_index}
use Rattle.net_instr.specs.Statements.{index_code, place_store, stores, general_code, set_code}
use Rattle.net_instr.specs.Statements.{act_code, guard_row_code, act_row_code, block_code, IsPlaceThere, IsActThere, IsBlockThere}

pub safe_both : (xs ys : List Instr) → AreSafe xs → AreSafe ys → AreSafe (xs ++ ys)
safe_both [] ys f g = g
safe_both (x ∷ xs) ys f g = (f.0, safe_both xs ys f.1 g)

unary_safe : (op : UnaryOp) (a w : ℕ) → IsWidth w → IsStep (unary_step op a w)
unary_safe unary.Negate a w h = h
unary_safe unary.Complement a w h = h
unary_safe unary.LogicalNot a w h = tt
unary_safe unary.ReduceAnd a w h = h
unary_safe unary.ReduceNand a w h = h
unary_safe unary.ReduceOr a w h = h
unary_safe unary.ReduceNor a w h = h
unary_safe unary.ReduceXor a w h = h
unary_safe unary.ReduceXnor a w h = h

binary_safe : (op : BinaryOp) (a b w : ℕ) → IsWidth w → IsStep (binary_step op a b w)
binary_safe binary.Add a b w h = h
binary_safe binary.Subtract a b w h = h
binary_safe binary.Multiply a b w h = h
binary_safe binary.And a b w h = tt
binary_safe binary.Or a b w h = tt
binary_safe binary.Xor a b w h = tt
binary_safe binary.Xnor a b w h = h
binary_safe binary.ShiftLeft a b w h = h
binary_safe binary.ShiftRight a b w h = h
binary_safe binary.Less a b w h = tt
binary_safe binary.LessEqual a b w h = h
binary_safe binary.Greater a b w h = h
binary_safe binary.GreaterEqual a b w h = h
binary_safe binary.Equal a b w h = tt
binary_safe binary.NotEqual a b w h = h
binary_safe binary.LogicalAnd a b w h = h
binary_safe binary.LogicalOr a b w h = h

either_step : (b : Bool) (x y : Step) → IsStep x → IsStep y → IsStep (if b then x else y)
either_step true x y f g = f
either_step false x y f g = g

either_code : (b : Bool) (xs ys : List Instr) → (b ≡ true → AreSafe xs) → (b ≡ false → AreSafe ys) → AreSafe (if b then xs else ys)
either_code true xs ys f g = f refl
either_code false xs ys f g = g refl

either_instr : (b : Bool) (i j : Instr) → IsInstr i → IsInstr j → IsInstr (if b then i else j)
either_instr true i j f g = f
either_instr false i j f g = g

some_width : (w n : ℕ) → (w == 0) ≡ false → w ≤ n → n ≤ 128 → IsWidth w
some_width zero n h l m = absurd cc
some_width (suc w) n h l m = (omega arith, omega (arith, l, m))

module _ (widths : List ℕ) (W : ℕ) (narrow : (m : ℕ) → slice_index widths m ≤ 128) where
  step_safe : (e : Rhs) (t : ℕ) → IsRhsThere widths W e → IsStep (step widths e t)
  step_safe (Number n) t h = tt
  step_safe (Bits s) t h = either_step (is_whole widths s) (S.Copy s.net) (S.Slice s.net s.low s.width) tt h.0
  step_safe (Word' r p i) t h = tt
  step_safe (Unary' op p a w) t h = unary_safe op (slot widths a t) w h.0
  step_safe (Binary' op p a q b w) t h = binary_safe op (slot widths a t) (slot widths b (t + 1)) w h.0
  step_safe (Choose' p c q a r b) t h = tt
  step_safe (Join' p high q low x y) t h = (h.0, h.1, h.2)
  step_safe (Repeat' n p a w) t h = (h.1, h.0, h.2)
  step_safe (Select' p a q i w) t h = h.0

  taken_safe : (e : Rhs) (t : ℕ) → IsRhsThere widths W e → AreSafe (taken widths e t)
  taken_safe e t h = either_code (stands widths e) [] (Do t (step widths e t) ∷ []) (λ b. tt) (λ b. (step_safe e t h, tt))

  mutual
    below_safe : (e : Rhs) (t : ℕ) → IsRhsThere widths W e → AreSafe (below widths e t)
    below_safe (Number n) t h = tt
    below_safe (Bits s) t h = tt
    below_safe (Word' r p i) t h = safe_both _ _ (taken_safe i t h.1) (below_safe i t h.1)
    below_safe (Unary' op p a w) t h = safe_both _ _ (taken_safe a t h.1) (below_safe a t h.1)
    below_safe (Binary' op p a q b w) t h =
        safe_both _ _ (safe_both _ _ (taken_safe b (t + 1) h.2) (below_safe b (t + 1) h.2)) (safe_both _ _ (taken_safe a t h.1)
        (below_safe a t h.1))
    below_safe (Choose' p c q a r b) t h =
        safe_both _ _ (safe_both _ _ (taken_safe b (t + 2) h.2) (below_safe b (t + 2) h.2))
        (safe_both _ _ (safe_both _ _ (taken_safe a (t + 1) h.1) (below_safe a (t + 1) h.1)) (safe_both _ _ (taken_safe c t h.0)
        (below_safe c t h.0)))
    below_safe (Join' p high q low x y) t h =
        safe_both _ _ (safe_both _ _ (taken_safe low (t + 1) h.4) (below_safe low (t + 1) h.4)) (safe_both _ _
        (taken_safe high t h.3) (below_safe high t h.3))
    below_safe (Repeat' n p a w) t h = safe_both _ _ (taken_safe a t h.3) (below_safe a t h.3)
    below_safe (Select' p a q i w) t h =
        safe_both _ _ (safe_both _ _ (taken_safe i (t + 1) h.2) (below_safe i (t + 1) h.2)) (safe_both _ _ (taken_safe a t h.1)
        (below_safe a t h.1))

  test_safe : (e : Rhs) (t : ℕ) → IsRhsThere widths W e → AreSafe (taken widths e t ++ below widths e t)
  test_safe e t h = safe_both _ _ (taken_safe e t h) (below_safe e t h)

  forced_safe : (e : Rhs) (t : ℕ) → IsRhsThere widths W e → AreSafe (forced widths W e t)
  forced_safe e t h = (step_safe e t h, below_safe e t h)

  index_safe : (p : Place) (t : ℕ) → IsPlaceThere widths W p → AreSafe (place_index widths W p t)
  index_safe (PlaceBits s n) t h = tt
  index_safe (BitsFrom s i w) t h = forced_safe i t h.3
  index_safe (PlaceWord r i low w n) t h = forced_safe i t h.3
  index_safe (WordFrom r i size j w) t h = safe_both (forced widths W j (t + 1)) (forced widths W i t) (forced_safe j
      (t + 1) h.4) (forced_safe i t h.3)

  indexes_safe : (ps : List Place) (t : ℕ) → AllByRecursion (IsPlaceThere widths W) ps → AreSafe (index_code widths W ps t)
  indexes_safe [] t h = tt
  indexes_safe (p ∷ ps) t h =
      safe_both (index_code widths W ps (t + index_slots p)) (place_index widths W p t) (indexes_safe ps
      (t + index_slots p) h.1) (index_safe p t h.0)

  store_safe : (o : ℕ) (p : Place) (t rest : ℕ) → IsPlaceThere widths W p → AreSafe (place_store widths W o p t rest)
  store_safe o (PlaceBits s n) t rest h =
      either_code (s.width == 0) [] _ (λ b. tt)
      (λ b. let w = some_width s.width n b h.1 h.0.1 in (either_instr (is_whole widths s) _ _ w w, tt))
  store_safe o (BitsFrom s i w) t rest h = ((h.0, let a = narrow s.net in let b = h.2.1 in omega (arith, a, b)), tt)
  store_safe o (PlaceWord r i low w n) t rest h =
      either_code (w == 0) [] _ (λ b. tt) (λ b. (some_width w n b h.1 h.0.1, tt))
  store_safe o (WordFrom r i size j w) t rest h = ((h.0, h.1.1), tt)

  stores_safe : (o : ℕ) (ps : List Place) (t : ℕ) → AllByRecursion (IsPlaceThere widths W) ps → AreSafe (stores widths W o ps t)
  stores_safe o [] t h = tt
  stores_safe o (p ∷ ps) t h =
      safe_both (stores widths W o ps (t + index_slots p)) (place_store widths W o p t (target_width ps))
      (stores_safe o ps (t + index_slots p) h.1) (store_safe o p t (target_width ps) h.0)

  general_safe : (o : ℕ) (ps : List Place) (e : Rhs) → AllByRecursion (IsPlaceThere widths W) ps → IsRhsThere widths W e
      → AreSafe (general_code widths W o ps e)
  general_safe o ps e h g =
      let t = base widths W + 1 in
      safe_both (stores widths W o ps t) (index_code widths W ps t ++ forced widths W e (base widths W)) (stores_safe o ps t h)
      (safe_both (index_code widths W ps t) (forced widths W e (base widths W)) (indexes_safe ps t h) (forced_safe e (base widths W) g))

  set_safe : (o : ℕ) (ps : List Place) (e : Rhs) → AllByRecursion (IsPlaceThere widths W) ps → IsRhsThere widths W e
      → AreSafe (set_code widths W o ps e)
  set_safe o [] e h g = general_safe o [] e h g
  set_safe o (PlaceBits s n ∷ []) e h g =
      either_code (is_whole widths s && (not (s.width == 0) && within e s.width))
      (Do (o + s.net) (step widths e (base widths W)) ∷ below widths e (base widths W)) (general_code widths W o (PlaceBits s n ∷ []) e)
      (λ b. (step_safe e (base widths W) g, below_safe e (base widths W) g)) (λ b. general_safe o (PlaceBits s n ∷ []) e h g)
  set_safe o (PlaceBits s n ∷ q ∷ ps) e h g = general_safe o (PlaceBits s n ∷ q ∷ ps) e h g
  set_safe o (BitsFrom s i w ∷ ps) e h g = general_safe o (BitsFrom s i w ∷ ps) e h g
  set_safe o (PlaceWord r i low w n ∷ ps) e h g = general_safe o (PlaceWord r i low w n ∷ ps) e h g
  set_safe o (WordFrom r i size j w ∷ ps) e h g = general_safe o (WordFrom r i size j w ∷ ps) e h g

  choice_safe : (c : ℕ) (xs ys : List Instr) → AreSafe xs → AreSafe ys → AreSafe (choice c xs ys)
  choice_safe c xs ys f g = safe_both ys _ g (tt, safe_both xs _ f (tt, tt))

  mutual
    act_safe : (o : ℕ) (a : Act) → IsActThere widths W a → AreSafe (act_code widths W o a)
    act_safe o (Set target e) h = set_safe o target e h.1 h.2
    act_safe o (Read e) h = tt
    act_safe o (Branch' n guards m otherwise) h = guards_safe o guards _ h.0 (row_safe o otherwise h.1)

    guards_safe : {n : _} → (o : ℕ) (row : Row_of-Guard n) (ys : List Instr)
        → IsGuardRow (IsThere widths W) (HasRoom widths W) row → AreSafe ys
        → AreSafe (guard_row_code widths W o row ys)
    guards_safe o end_of-Guard ys h f = f
    guards_safe o (more_of-Guard c k body rest) ys h f =
        safe_both _ _ (choice_safe (slot widths c (base widths W)) (act_row_code widths W o body) (guard_row_code widths W o rest ys)
        (row_safe o body h.0.1) (guards_safe o rest ys h.1 f)) (test_safe c (base widths W) h.0.0)

    row_safe : {n : _} → (o : ℕ) (row : Row_of-Act n) → IsActRow (IsThere widths W) (HasRoom widths W) row
        → AreSafe (act_row_code widths W o row)
    row_safe o end_of-Act h = tt
    row_safe o (more_of-Act a rest) h = safe_both _ _ (row_safe o rest h.1) (act_safe o a h.0)

  pub block_safe : (o : ℕ) (acts : List Act) → IsBlockThere widths W acts → AreSafe (block_code widths W o acts)
  block_safe o [] h = tt
  block_safe o (a ∷ rest) h = safe_both (block_code widths W o rest) (act_code widths W o a) (block_safe o rest h.1) (act_safe o a h.0)
