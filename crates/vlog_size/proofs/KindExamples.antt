-- Names that are unknown or of a wrong kind, computed on examples.
use Rattle.std.proofs.Common.{◌≡◌, ℕ, true, false, ◌==◌, if◌then◌else◌, Option, None, Some, List, [], ◌∷◌, refl}
use Rattle.vlog_tree.specs.declared.expr.NumberKind.TheVariants.{Decimal}
use Rattle.vlog_tree.specs.declared.expr.BinaryOp.TheVariants.{Plus}
use Rattle.vlog_tree.specs.declared.expr.UnaryOp.TheVariants as unary
use Rattle.vlog_tree.specs.Tree.{ExprOf, UnaryExpr, BinaryExpr, ChoiceExpr, NumberPrim, RefPrim, ParenPrim, ConcatPrim, RefWith, NoIndex}
use Rattle.vlog_tree.specs.Tree.{Index, LastOf, NoLast, Last, IndexSel, PartSel, IndexedSel, NoExprs, MoreExprs}
use Rattle.vlog_size.specs.Kinds.{Class, IsParameter, IsScalar, IsVector, IsScalarMemory, IsVectorMemory, IsInstance, is_wrong_kind}
use Rattle.vlog_size.specs.Kinds.{is_wrong_use, unknown_names, wrong_kinds}

-- `1`
abbrev one : ExprOf ℕ
one = UnaryExpr None (NumberPrim (record { kind = Decimal; text = 49 ∷ []; line = 9 }))

-- `[1]`, `[1:1]` and `[1 +: 1]`
abbrev bit : LastOf ℕ
bit = Last (IndexSel one)

abbrev part : LastOf ℕ
part = Last (PartSel one one)

abbrev indexed : LastOf ℕ
indexed = Last (IndexedSel one one)

-- ---- a parameter `p`, a scalar `s` and an instance `u` have no brackets
parameter : is_wrong_kind IsParameter NoIndex NoLast ≡ false
parameter = refl

parameter_bit : is_wrong_kind IsParameter NoIndex bit ≡ true
parameter_bit = refl

scalar : is_wrong_kind IsScalar NoIndex NoLast ≡ false
scalar = refl

scalar_bit : is_wrong_kind IsScalar NoIndex bit ≡ true
scalar_bit = refl

scalar_part : is_wrong_kind IsScalar NoIndex part ≡ true
scalar_part = refl

an_instance : is_wrong_kind IsInstance NoIndex NoLast ≡ true
an_instance = refl

-- ---- a vector has none or one
vector : is_wrong_kind IsVector NoIndex NoLast ≡ false
vector = refl

vector_part : is_wrong_kind IsVector NoIndex part ≡ false
vector_part = refl

vector_indexed : is_wrong_kind IsVector NoIndex indexed ≡ false
vector_indexed = refl

vector_twice : is_wrong_kind IsVector (Index one) bit ≡ true
vector_twice = refl

-- ---- a memory has an index, and brackets after it where its words are vectors
memory : is_wrong_kind IsVectorMemory NoIndex NoLast ≡ true
memory = refl

memory_word : is_wrong_kind IsVectorMemory NoIndex bit ≡ false
memory_word = refl

memory_part : is_wrong_kind IsVectorMemory NoIndex part ≡ true
memory_part = refl

memory_indexed : is_wrong_kind IsVectorMemory NoIndex indexed ≡ true
memory_indexed = refl

word_part : is_wrong_kind IsVectorMemory (Index one) part ≡ false
word_part = refl

scalar_word : is_wrong_kind IsScalarMemory NoIndex bit ≡ false
scalar_word = refl

scalar_memory : is_wrong_kind IsScalarMemory NoIndex NoLast ≡ true
scalar_memory = refl

scalar_word_bit : is_wrong_kind IsScalarMemory (Index one) bit ≡ true
scalar_word_bit = refl

undeclared : is_wrong_use None (Index one) part ≡ false
undeclared = refl

declared : is_wrong_use (Some IsInstance) NoIndex NoLast ≡ true
declared = refl

-- ---- an expression: `-v[q] + (s[0]) + {u, t, m}` has names on lines 1 to 6
-- the name of one letter
abbrev letter_class : ℕ → Option Class
letter_class x =
    if x == 118 then Some IsVector else
    (if x == 115 then Some IsScalar else
    (if x == 117 then Some IsInstance else
    (if x == 109 then Some IsVectorMemory else None)))

abbrev class_of : List ℕ → Option Class
class_of [] = None
class_of (x ∷ xs) = letter_class x

abbrev named : ℕ → ℕ → LastOf ℕ → ExprOf ℕ
named letter line last = UnaryExpr None (RefPrim (RefWith (record { name = letter ∷ []; line = line }) NoIndex last))

abbrev negative : ExprOf ℕ
negative = UnaryExpr (Some (record { op = unary.Minus; line = 1 }))
    (RefPrim (RefWith (record { name = 118 ∷ []; line = 1 }) NoIndex (Last (IndexSel (named 113 2 NoLast)))))

abbrev row : ExprOf ℕ
row = UnaryExpr None (ConcatPrim 4
    (MoreExprs (named 117 4 NoLast) (MoreExprs (named 116 5 NoLast) (MoreExprs (named 109 6 NoLast) NoExprs))))

abbrev whole : ExprOf ℕ
whole = BinaryExpr (BinaryExpr negative Plus (UnaryExpr None (ParenPrim 3 (named 115 3 bit)))) Plus row

-- `q` and `t` aren't declared
whole_unknown : unknown_names class_of whole ≡ ((113 ∷ []) ∷ (116 ∷ []) ∷ [])
whole_unknown = refl

-- `s[0]` is a scalar with an index, `u` an instance, `m` a memory without index
whole_wrong : wrong_kinds class_of whole ≡ (3 ∷ 4 ∷ 6 ∷ [])
whole_wrong = refl

-- in `s ? v[u:1] : v[1 +: q]` also the brackets are looked at
abbrev choice : ExprOf ℕ
choice = ChoiceExpr (named 115 1 NoLast) (named 118 2 (Last (PartSel (named 117 3 NoLast) one)))
    (named 118 4 (Last (IndexedSel one (named 113 5 NoLast))))

choice_unknown : unknown_names class_of choice ≡ ((113 ∷ []) ∷ [])
choice_unknown = refl

choice_wrong : wrong_kinds class_of choice ≡ (3 ∷ [])
choice_wrong = refl
