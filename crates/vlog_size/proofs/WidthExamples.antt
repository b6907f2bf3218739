-- E6 of parts without a lawful width, and of what is judged by itself, computed on examples: nets `q` of 4, `p` of 8 and `a` of 1 bits,
-- and a memory `s` of 4 words of 8 bits.
use Rattle.std.proofs.Common.{◌≡◌, ℕ, false, None, List, [], ◌∷◌, refl}
use Rattle.vlog_tree.specs.declared.expr.NumberKind.TheVariants.{Decimal, Based}
use Rattle.vlog_tree.specs.declared.expr.BinaryOp.TheVariants.{Xor, Equal}
use Rattle.vlog_tree.specs.Tree.{ExprOf, UnaryExpr, BinaryExpr, NumberPrim, RefPrim, ConcatPrim, RepeatPrim, RefWith, IndexOf, NoIndex, Index}
use Rattle.vlog_tree.specs.Tree.{LastOf, Last, PartSel, IndexedSel, NoExprs, MoreExprs}
use Rattle.vlog_size.specs.declared.error.SizeError.TheVariants.{Width}
use Rattle.vlog_size.specs.Names.{Readable}
use Rattle.vlog_size.specs.Size.{sizes_of, number, own, own_width, times}

abbrev scope : Readable
scope = record {
  params = [];
  constants = [];
  nets = record { name = 113 ∷ []; value = record { width = 4 } } ∷ record { name = 112 ∷ []; value = record { width = 8 } }
      ∷ record { name = 97 ∷ []; value = record { width = 1 } } ∷ [];
  memories = record { name = 115 ∷ []; value = record { width = 8; length = 4 } } ∷ [];
  is_checked = false;
}

-- a number without a size, and one with
abbrev decimal : ℕ → List ℕ → ExprOf ℕ
decimal line text = UnaryExpr None (NumberPrim (record { kind = Decimal; text = text; line = line }))

abbrev sized : ℕ → List ℕ → ExprOf ℕ
sized line text = UnaryExpr None (NumberPrim (record { kind = Based; text = text; line = line }))

-- `0`, `1`, `129`, `1'b1`, `32'd1`, `100'd0` and `128'd0`
abbrev zero_at : ℕ → ExprOf ℕ
zero_at line = decimal line (48 ∷ [])

abbrev one_at : ℕ → ExprOf ℕ
one_at line = decimal line (49 ∷ [])

abbrev many_at : ℕ → ExprOf ℕ
many_at line = decimal line (49 ∷ 50 ∷ 57 ∷ [])

abbrev bit_at : ℕ → ExprOf ℕ
bit_at line = sized line (49 ∷ 39 ∷ 98 ∷ 49 ∷ [])

abbrev one32_at : ℕ → ExprOf ℕ
one32_at line = sized line (51 ∷ 50 ∷ 39 ∷ 100 ∷ 49 ∷ [])

abbrev zero100_at : ℕ → ExprOf ℕ
zero100_at line = sized line (49 ∷ 48 ∷ 48 ∷ 39 ∷ 100 ∷ 48 ∷ [])

abbrev zero128_at : ℕ → ExprOf ℕ
zero128_at line = sized line (49 ∷ 50 ∷ 56 ∷ 39 ∷ 100 ∷ 48 ∷ [])

abbrev read : ℕ → ℕ → IndexOf ℕ → LastOf ℕ → ExprOf ℕ
read line name index last = UnaryExpr None (RefPrim (RefWith (record { name = name ∷ []; line = line }) index last))

abbrev pair : ℕ → ExprOf ℕ → ExprOf ℕ → ExprOf ℕ
pair line a b = UnaryExpr None (ConcatPrim line (MoreExprs a (MoreExprs b NoExprs)))

abbrev repeat : ℕ → ExprOf ℕ → ExprOf ℕ → ExprOf ℕ
repeat line count part = UnaryExpr None (RepeatPrim line count (MoreExprs part NoExprs))

-- `{32'd1 ^ e, 100'd0}`
abbrev beside : ExprOf ℕ → ExprOf ℕ
beside e = pair 1 (BinaryExpr (one32_at 2) Xor e) (zero100_at 9)

-- `{0{1'b1}}` and `{100'd0, 100'd0}`
abbrev nothing_at : ℕ → ExprOf ℕ
nothing_at line = repeat line (zero_at line) (bit_at line)

abbrev wide_at : ℕ → ExprOf ℕ
wide_at line = pair line (zero100_at line) (zero100_at line)

-- ---- the whole has no lawful width

-- `{32'd1 ^ q[0:1], 100'd0}`
wrong_order : (sizes_of scope (beside (read 3 113 NoIndex (Last (PartSel (zero_at 4) (one_at 5)))))).width_faults ≡ Width 4 1 ∷ []
unfolding number own own_width
wrong_order = refl

-- `{32'd1 ^ {{0{1'b1}}{a}}, 100'd0}`
count_at_fault : (sizes_of scope (beside (repeat 3 (nothing_at 4) (bit_at 5)))).width_faults ≡ Width 4 0 ∷ []
unfolding number own own_width times
count_at_fault = refl

-- `{32'd1 ^ q[{0{1'b1}}:0], 100'd0}`
bound_at_fault : (sizes_of scope (beside (read 3 113 NoIndex (Last (PartSel (nothing_at 4) (zero_at 5)))))).width_faults ≡ Width 4 0 ∷ []
unfolding number own own_width times
bound_at_fault = refl

-- `{32'd1 ^ q[0 +: 0], 100'd0}`
no_bits : (sizes_of scope (beside (read 3 113 NoIndex (Last (IndexedSel (zero_at 4) (zero_at 5)))))).width_faults ≡ Width 3 0 ∷ []
unfolding number own own_width
no_bits = refl

-- `{{100'd0, 100'd0} == 1'b1, 128'd0}`: a comparison has the lawful width 1
comparison : (sizes_of scope (pair 1 (BinaryExpr (wide_at 2) Equal (bit_at 3)) (zero128_at 4))).width_faults
    ≡ Width 1 129 ∷ Width 2 200 ∷ []
unfolding number own own_width
comparison = refl

-- ---- what is judged by itself

-- `p[{100'd0, 100'd0} +: 129]`
base : (sizes_of scope (read 1 112 NoIndex (Last (IndexedSel (wide_at 2) (many_at 3))))).width_faults ≡ Width 1 129 ∷ Width 2 200 ∷ []
unfolding number own own_width
base = refl

-- `s[{100'd0, 100'd0}][0 +: 129]`
word : (sizes_of scope (read 1 115 (Index (wide_at 2)) (Last (IndexedSel (zero_at 3) (many_at 4))))).width_faults
    ≡ Width 1 129 ∷ Width 2 200 ∷ []
unfolding number own own_width
word = refl
