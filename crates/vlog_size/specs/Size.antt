-- Constants and widths (IEEE 1364-2005, 3.5, 5.1 and 5.4; this project's profile): whether an expression is plain,
-- unsized and constant, its width and its number, and its faults, each from those of its parts. A list of faults is in
-- text order, the whole before its parts. E5 is a fault of a constant, E6 one of a width, an index or a bound.
use Rattle.std.specs.Prelude.{ℕ, ◌+◌, ◌-◌, ◌*◌, ◌%◌, ◌^◌, max, Bool, true, false, ◌==◌, ◌&&◌, ◌||◌, not, nat_lt, nat_le}
use Rattle.std.specs.Prelude.{if◌then◌else◌, List, [], ◌∷◌, ◌++◌, Option, Some, None, option_map, flat_map, sum_by, is_none}
use Rattle.std.specs.List.{list_all}
use Rattle.vlog_tree.specs.declared.expr.NumberKind.{NumberKind}
use Rattle.vlog_tree.specs.declared.expr.NumberKind.TheVariants.{Decimal, Based}
use Rattle.vlog_tree.specs.declared.expr.BinaryOp.{BinaryOp}
use Rattle.vlog_tree.specs.declared.expr.UnaryOp.{UnaryOp}
use Rattle.vlog_tree.specs.Tree.{NumberOf, ExprOf, UnaryExpr, BinaryExpr, ChoiceExpr, ExprsOf, NoExprs, MoreExprs}
use Rattle.vlog_tree.specs.Tree.{PrimOf, NumberPrim, RefPrim, ParenPrim, ConcatPrim, RepeatPrim, RefOf, RefWith, IndexOf, NoIndex}
use Rattle.vlog_tree.specs.Tree.{Index, LastOf, NoLast, Last, SelOf, IndexSel, PartSel, IndexedSel}
use Rattle.vlog_tree.specs.Tree.{TargetOf, RefTarget, ConcatTarget, TargetsOf, NoTargets, MoreTargets}
use Rattle.vlog_size.specs.declared.error.SizeError.{SizeError}
use Rattle.vlog_size.specs.declared.error.SizeError.TheVariants as error
use Rattle.vlog_size.specs.declared.scope.Const.{Const}
use Rattle.vlog_size.specs.declared.scope.Const.TheVariants as const
use Rattle.vlog_tree.specs.vidi_bits.Findings.{first, told_if}
use Rattle.vlog_size.specs.Literal.{is_lawful, literal_width, literal_number, is_bad_literal, is_unsized_literal, digits_from}
use Rattle.vlog_size.specs.declared.names.Meaning.{Meaning}
use Rattle.vlog_size.specs.declared.names.Meaning.TheVariants.{Parameter, Place, Undeclared}
use Rattle.vlog_size.specs.declared.operators.Kind.{Kind}
use Rattle.vlog_size.specs.declared.operators.Kind.TheVariants.{Sum, Comparison, Logic, Shift}
use Rattle.vlog_size.specs.Names.{Readable, meaning_of, fixed}
use Rattle.vlog_size.specs.Operators.{kind_of, in_range, whole_value, is_plain_op, is_plain_shift, binary_value, is_wide, unary_value}
use Rattle.vlog_tree.specs.vidi_bits.Number.{side_by_side, repeated}

-- what is said of an expression
pub record Sizes : Type 0 where
  -- the line of its first token
  pub line : ℕ
  -- a decimal or plain parameter, or made of such by `+ - * << >>` or `?:`
  pub plain : Bool
  -- plain, a `?:` of unsized branches, or `<<` or `>>` with a plain left operand
  pub is_unsized : Bool
  -- a based literal without a size, bare or in parentheses
  pub unsized_literal : Bool
  -- it reads parameters alone
  pub constant : Bool
  -- its self-determined width
  pub width : ℕ
  -- whether each part that makes its width has a lawful one
  pub parts_lawful : Bool
  -- a plain expression's value in whole numbers; none where a part is at fault
  pub whole : Option ℕ
  -- a constant expression's number at a width; none where a width in it is unlawful
  pub value : ℕ → Option ℕ
  -- E5
  pub const_faults : List SizeError
  -- E6
  pub width_faults : List SizeError

-- an expression has a lawful width where its own is one, and so is that of each part that makes it; an index, a bound and a `+:` base
-- make no width
abbrev pub has_width : Sizes → Bool
has_width e = e.parts_lawful && is_lawful e.width

-- a value of no, one or two numbers
abbrev pub of_one : (ℕ → ℕ) → Option ℕ → Option ℕ
of_one f None = None
of_one f (Some a) = Some (f a)

-- what a function makes of two numbers that are there
abbrev pub of_two : (ℕ → ℕ → Option ℕ) → Option ℕ → Option ℕ → Option ℕ
of_two f (Some a) (Some b) = f a b
of_two f _ _ = None

-- nothing is found
abbrev pub is_sound : Sizes → Bool
is_sound e = is_none (first e.const_faults) && is_none (first e.width_faults)

-- the width of a constant expression, where it is lawful
unfoldable pub own_width : Sizes → Option ℕ
own_width e = if e.constant && is_lawful e.width then Some e.width else None

-- the value at a width that is there
abbrev pub at_width : (ℕ → Option ℕ) → Option ℕ → Option ℕ
at_width value None = None
at_width value (Some w) = value w

-- the number of a constant expression at its own width
unfoldable pub own : Sizes → Option ℕ
own e = at_width e.value (own_width e)

-- the number of a constant expression without a fault
unfoldable pub number : Sizes → Option ℕ
number e = if e.plain then e.whole else (if is_sound e then own e else None)

-- a number at or above the limit
abbrev pub reaches : ℕ → Option ℕ → Bool
reaches limit None = false
reaches limit (Some n) = nat_le limit n

-- a number that isn't there counts as 0
abbrev pub or_zero : Option ℕ → ℕ
or_zero None = 0
or_zero (Some n) = n

-- an unsized decimal
abbrev pub is_decimal : NumberKind → Bool
is_decimal Decimal = true
is_decimal Based = false

-- nothing is found
abbrev pub no_faults : List SizeError
no_faults = []

-- the value of an unsized decimal
abbrev pub decimal_value : NumberKind → List ℕ → Option ℕ
decimal_value Decimal text = in_range (digits_from 10 0 text)
decimal_value Based text = None

-- a literal that can't stand, or a decimal out of range
abbrev pub is_bad_number : NumberOf ℕ → Bool
is_bad_number n = is_bad_literal n.kind n.text || (is_decimal n.kind && is_none (decimal_value n.kind n.text))

-- a literal
abbrev pub of_number : NumberOf ℕ → Sizes
of_number n = record {
  line = n.line;
  plain = is_decimal n.kind;
  is_unsized = is_decimal n.kind;
  unsized_literal = is_unsized_literal n.kind n.text;
  constant = true;
  width = literal_width n.kind n.text;
  parts_lawful = true;
  whole = decimal_value n.kind n.text;
  value = λ w. literal_number n.kind n.text;
  const_faults = told_if (is_bad_number n) (error.Const n.line);
  width_faults = no_faults;
}

-- whether a constant is plain
abbrev pub is_plain_const : Const → Bool
is_plain_const (const.Plain n) = true
is_plain_const (const.Sized w n) = false

-- a plain constant is 32 bits wide
abbrev pub const_width : Const → ℕ
const_width (const.Plain n) = 32
const_width (const.Sized w n) = w

-- the number that a constant holds, modulo 2 to the power of its width
abbrev pub const_number : Const → ℕ
const_number (const.Plain n) = n
const_number (const.Sized w n) = n % 2 ^ w

-- what stands in the last bracket
pub data Bracket : Type 0 where
  NoBracket : Bracket
  Bit : Sizes → Bracket
  -- `first:second`
  Part : Sizes → Sizes → Bracket
  -- `base +: width`
  Indexed : Sizes → Sizes → Bracket

-- the number of bits from the first bound down to the second
abbrev pub bounds_width : Option ℕ → Option ℕ → ℕ
bounds_width (Some a) (Some b) = a + 1 - b
bounds_width _ _ = 0

-- the width of a select of a vector, of which an index picks some bits
abbrev pub part_width : ℕ → ℕ → Bracket → ℕ
part_width whole picked NoBracket = whole
part_width whole picked (Bit i) = picked
part_width whole picked (Part a b) = bounds_width (number a) (number b)
part_width whole picked (Indexed base width) = or_zero (number width)

-- an index or bound outside 0 to limit - 1
abbrev pub outside : ℕ → Sizes → List SizeError
outside limit i = told_if (reaches limit (number i)) (error.Width i.line (or_zero (number i)))

-- whether a bound, width or count is sized and above 2,147,483,647
abbrev pub is_too_large : Sizes → Bool
is_too_large e = not e.plain && reaches 2147483648 (number e)

-- a bound, width or count that is sized and above 2,147,483,647
abbrev pub too_large : Sizes → List SizeError
too_large e = told_if (is_too_large e) (error.Const e.line)

-- what is found in the last bracket: of each bound its own fault, then those within it
abbrev pub part_const_faults : Bracket → List SizeError
part_const_faults NoBracket = no_faults
part_const_faults (Bit i) = i.const_faults
part_const_faults (Part a b) = (too_large a ++ a.const_faults) ++ (too_large b ++ b.const_faults)
part_const_faults (Indexed base width) = base.const_faults ++ (too_large width ++ width.const_faults)

-- whether the first bound is below the second one
abbrev pub is_wrong_order : Option ℕ → Option ℕ → Bool
is_wrong_order (Some a) (Some b) = nat_lt a b
is_wrong_order _ _ = false

-- a width of a part of a vector of lawful width that is unlawful
abbrev pub is_wrong_part : ℕ → Option ℕ → Bool
is_wrong_part whole (Some k) = is_lawful whole && not (is_lawful k)
is_wrong_part whole None = false

-- the first bound below the second one: the line is the first one's, the number the second one's
abbrev pub wrong_order : Sizes → Sizes → List SizeError
wrong_order a b = told_if (is_wrong_order (number a) (number b)) (error.Width a.line (or_zero (number b)))

-- the width after `+:` is unlawful
abbrev pub wrong_part : ℕ → ℕ → Sizes → List SizeError
wrong_part line whole width = told_if (is_wrong_part whole (number width)) (error.Width line (or_zero (number width)))

-- the own fault of a select on this line of a vector of `whole` bits
abbrev pub part_fault : ℕ → ℕ → Bracket → List SizeError
part_fault line whole (Indexed base width) = wrong_part line whole width
part_fault line whole _ = no_faults

-- the faults in the last bracket after a vector of `whole` bits, of which an index is below the limit
abbrev pub part_width_faults : ℕ → ℕ → Bracket → List SizeError
part_width_faults whole limit NoBracket = no_faults
part_width_faults whole limit (Bit i) = outside limit i ++ i.width_faults
part_width_faults whole limit (Part a b) =
    (outside whole a ++ (wrong_order a b ++ a.width_faults)) ++ (outside whole b ++ b.width_faults)
part_width_faults whole limit (Indexed base width) = base.width_faults ++ width.width_faults

-- a parameter; where what makes it is at fault its number isn't known
abbrev pub of_param : ℕ → Const → Bool → Sizes
of_param line c known = record {
  line = line;
  plain = is_plain_const c;
  is_unsized = is_plain_const c;
  unsized_literal = false;
  constant = true;
  width = const_width c;
  parts_lawful = true;
  whole = if known then in_range (const_number c) else None;
  value = λ w. if known then Some (const_number c) else None;
  const_faults = no_faults;
  width_faults = no_faults;
}

-- what is read at run time, with the faults of its brackets
abbrev pub of_read : ℕ → ℕ → List SizeError → List SizeError → Sizes
of_read line width const_faults width_faults = record {
  line = line;
  plain = false;
  is_unsized = false;
  unsized_literal = false;
  constant = false;
  width = width;
  parts_lawful = true;
  whole = None;
  value = λ w. None;
  const_faults = const_faults;
  width_faults = width_faults;
}

-- a net, a memory's word, or a select of one; where there are two brackets the first one holds the word's index
abbrev pub of_place : ℕ → ℕ → ℕ → ℕ → Option Sizes → Bracket → Sizes
of_place line width picked limit None last =
    of_read line (part_width width picked last) (part_const_faults last)
    (part_fault line width last ++ part_width_faults width limit last)
of_place line width picked limit (Some i) last =
    of_read line (part_width width 1 last) (i.const_faults ++ part_const_faults last)
    (part_fault line width last ++ ((outside limit i ++ i.width_faults) ++ part_width_faults width width last))

-- where there is no such net or memory, and so in a constant position, the read is at fault
abbrev pub of_ref : ℕ → Meaning → Option Sizes → Bracket → Sizes
of_ref line (Parameter c known) index last = of_param line c known
of_ref line (Place width picked limit) index last = of_place line width picked limit index last
of_ref line Undeclared index last = of_read line 0 (error.Const line ∷ []) no_faults

-- a plain constant above 2,147,483,647
abbrev pub is_past : Const → Bool
is_past (const.Plain n) = is_none (in_range n)
is_past (const.Sized w n) = false

-- E5 at a name: a parameter whose number isn't known, or is plain and above 2,147,483,647
abbrev pub name_const_faults : ℕ → Meaning → List SizeError
name_const_faults line (Parameter c known) = told_if (not known || is_past c) (error.Const line)
name_const_faults line _ = no_faults

-- E6 at a name: a width that is unlawful
abbrev pub wrong_width : ℕ → ℕ → List SizeError
wrong_width line w = told_if (not (is_lawful w)) (error.Width line w)

-- E6 at a name: a parameter, a net or a memory's word of unlawful width
abbrev pub name_width_faults : ℕ → Meaning → List SizeError
name_width_faults line (Parameter c known) = wrong_width line (const_width c)
name_width_faults line (Place width picked limit) = wrong_width line width
name_width_faults line Undeclared = no_faults

-- findings that count where names are checked
abbrev pub if_checked : Bool → List SizeError → List SizeError
if_checked true found = found
if_checked false found = no_faults

-- a name that is read: first what is found of what it stands for, then what is found in its brackets
abbrev pub of_name : Bool → ℕ → Meaning → Sizes → Sizes
of_name is_checked line m e = record e {
  const_faults = if_checked is_checked (name_const_faults line m) ++ e.const_faults;
  width_faults = if_checked is_checked (name_width_faults line m) ++ e.width_faults;
}

-- `(e)`
abbrev pub of_paren : ℕ → Sizes → Sizes
of_paren line e = record e { line = line }

-- each part is constant
abbrev pub all_constant : List Sizes → Bool
all_constant parts = list_all (λ (p : Sizes). p.constant) parts

-- each part has a lawful width
abbrev pub all_lawful : List Sizes → Bool
all_lawful parts = list_all (λ (p : Sizes). has_width p) parts

-- the widths of all parts
abbrev pub total_width : List Sizes → ℕ
total_width parts = sum_by (λ (p : Sizes). p.width) parts

-- E6: parts of lawful widths make an unlawful one
abbrev pub sum_fault : ℕ → List Sizes → List SizeError
sum_fault line parts =
    told_if (all_lawful parts && not (is_lawful (total_width parts)))
    (error.Width line (total_width parts))

-- the number of `before` bits that the parts before make, then that of a part of v bits
abbrev pub join_with : ℕ → Option ℕ → Sizes → Option ℕ → Option ℕ
join_with before n p None = None
join_with before n p (Some v) = of_two (λ (high low : ℕ). Some (side_by_side high low before v)) n (p.value v)

-- the parts' numbers after that of those before, of `before` bits; the first part is the highest
abbrev pub joined : ℕ → Option ℕ → List Sizes → Option ℕ
joined before n [] = n
joined before n (p ∷ parts) = joined (before + p.width) (join_with before n p (own_width p)) parts

-- the width of constant parts in all, where it is lawful
abbrev pub concat_own_width : List Sizes → Option ℕ
concat_own_width parts =
    if all_constant parts && is_lawful (total_width parts) then Some (total_width parts) else None

-- the parts' numbers joined, where their width is lawful
abbrev pub joined_at : List Sizes → Option ℕ → Option ℕ
joined_at parts None = None
joined_at parts (Some w) = joined 0 (Some 0) parts

-- the number of a concatenation
abbrev pub concat_value : List Sizes → Option ℕ
concat_value parts = joined_at parts (concat_own_width parts)

-- a part that is unsized, or a based literal without a size
abbrev pub unsized_part : Sizes → List SizeError
unsized_part p = told_if (p.is_unsized || p.unsized_literal) (error.Const p.line)

-- what is found in the parts, of each one that it is unsized first
abbrev pub parts_const_faults : List Sizes → List SizeError
parts_const_faults parts = flat_map (λ (p : Sizes). unsized_part p ++ p.const_faults) parts

-- what is found in the parts
abbrev pub parts_width_faults : List Sizes → List SizeError
parts_width_faults parts = flat_map (λ (p : Sizes). p.width_faults) parts

-- `{part, ..}`
abbrev pub of_concat : ℕ → List Sizes → Sizes
of_concat line parts = record {
  line = line;
  plain = false;
  is_unsized = false;
  unsized_literal = false;
  constant = all_constant parts;
  width = total_width parts;
  parts_lawful = all_lawful parts;
  whole = None;
  value = λ w. concat_value parts;
  const_faults = parts_const_faults parts;
  width_faults = sum_fault line parts ++ parts_width_faults parts;
}

-- the number of a replication's count, where it isn't too large
unfoldable pub times : Sizes → Option ℕ
times c = if is_too_large c then None else number c

-- a width so many times; a count without a number makes no width
abbrev pub repeat_width : Option ℕ → ℕ → ℕ
repeat_width None w = 0
repeat_width (Some n) w = n * w

-- E6: parts of lawful widths, so many times, make an unlawful one
abbrev pub count_fault : ℕ → Option ℕ → List Sizes → List SizeError
count_fault line None parts = no_faults
count_fault line (Some n) parts =
    told_if (all_lawful parts && not (is_lawful (n * total_width parts)))
    (error.Width line (n * total_width parts))

-- a number of w bits so many times side by side, where that width is lawful
abbrev pub repeat_value : Option ℕ → ℕ → Option ℕ → Option ℕ
repeat_value None w v = None
repeat_value (Some n) w None = None
repeat_value (Some n) w (Some v) = if is_lawful (n * w) then Some (repeated n v w) else None

-- `{count{part, ..}}`: the concatenation of the parts, so many times (IEEE 1364-2005, 5.1.14)
abbrev pub of_repeat : ℕ → Sizes → List Sizes → Sizes
of_repeat line c parts = record {
  line = line;
  plain = false;
  is_unsized = false;
  unsized_literal = false;
  constant = c.constant && all_constant parts;
  width = repeat_width (times c) (total_width parts);
  parts_lawful = all_lawful parts;
  whole = None;
  value = λ w. repeat_value (times c) (total_width parts) (concat_value parts);
  const_faults = (too_large c ++ c.const_faults) ++ parts_const_faults parts;
  width_faults = count_fault line (times c) parts ++ (c.width_faults ++ parts_width_faults parts);
}

-- the number of an operator that works at the width of the whole
abbrev pub wide_value : UnaryOp → (ℕ → Option ℕ) → ℕ → Option ℕ
wide_value op value w = of_one (λ (n : ℕ). unary_value op n w) (value w)

-- the number of an operator that works on an operand of its own width
abbrev pub narrow_value : UnaryOp → (ℕ → Option ℕ) → Option ℕ → Option ℕ
narrow_value op value None = None
narrow_value op value (Some w) = of_one (λ (n : ℕ). unary_value op n w) (value w)

-- an operator before an operand
abbrev pub of_sign : ℕ → UnaryOp → Sizes → Sizes
of_sign line op a = record {
  line = line;
  plain = false;
  is_unsized = false;
  unsized_literal = false;
  constant = a.constant;
  width = if is_wide op then a.width else 1;
  parts_lawful = not (is_wide op) || has_width a;
  whole = None;
  value = λ w. if is_wide op then wide_value op a.value w else narrow_value op a.value (own_width a);
  const_faults = told_if (is_wide op && a.is_unsized) (error.Const line) ++ a.const_faults;
  width_faults = a.width_faults;
}

-- the width of two operands with an operator of this kind between them
abbrev pub binary_width : Kind → ℕ → ℕ → ℕ
binary_width Sum a b = max a b
binary_width Comparison a b = 1
binary_width Logic a b = 1
binary_width Shift a b = a

-- whether those of two operands that make the width with an operator of this kind between them have lawful ones
abbrev pub operands_lawful : Kind → Sizes → Sizes → Bool
operands_lawful Sum a b = has_width a && has_width b
operands_lawful Comparison a b = true
operands_lawful Logic a b = true
operands_lawful Shift a b = has_width a

-- an operator all of whose operands are unsized, of a shift the left one, that isn't lawful
abbrev pub is_bad_kind : Kind → BinaryOp → Bool → Bool → Bool → Bool → Bool
is_bad_kind Sum op a b a_plain b_plain = (a && b) && not (is_plain_op op && (a_plain && b_plain))
is_bad_kind Comparison op a b a_plain b_plain = (a && b) && not (a_plain && b_plain)
is_bad_kind Logic op a b a_plain b_plain = false
is_bad_kind Shift op a b a_plain b_plain = a && not (is_plain_shift op && a_plain)

-- of two operands that are unsized and plain or not
abbrev pub is_bad_operator : BinaryOp → Bool → Bool → Bool → Bool → Bool
is_bad_operator op a b a_plain b_plain = is_bad_kind (kind_of op) op a b a_plain b_plain

-- the larger width of two constant expressions, where it is lawful
unfoldable pub shared_width : Sizes → Sizes → Option ℕ
shared_width a b =
    if (a.constant && b.constant) && is_lawful (max a.width b.width) then Some (max a.width b.width) else None

-- a comparison of two operands at the width that they share
abbrev pub compared : BinaryOp → (ℕ → Option ℕ) → (ℕ → Option ℕ) → Option ℕ → Option ℕ
compared op a b None = None
compared op a b (Some w) = of_two (λ (m n : ℕ). Some (binary_value op m n w)) (a w) (b w)

-- the number of two operands at width w, by the kind of the operator between them
abbrev pub operated : Kind → BinaryOp → Sizes → Sizes → ℕ → Option ℕ
operated Sum op a b w = of_two (λ (m n : ℕ). Some (binary_value op m n w)) (a.value w) (b.value w)
operated Comparison op a b w = compared op a.value b.value (shared_width a b)
operated Logic op a b w = of_two (λ (m n : ℕ). Some (binary_value op m n w)) (own a) (own b)
operated Shift op a b w = of_two (λ (m n : ℕ). Some (binary_value op m n w)) (a.value w) (own b)

-- of the numbers of parts without a fault, one out of range
abbrev pub is_out : BinaryOp → Option ℕ → Option ℕ → Bool
is_out op (Some a) (Some b) = is_none (whole_value op a b)
is_out op _ _ = false

-- two plain operands with an operator of plain expressions between them
abbrev pub is_plain_binary : BinaryOp → Sizes → Sizes → Bool
is_plain_binary op a b = is_plain_op op && (a.plain && b.plain)

-- an operator that isn't lawful there, or a value out of range
abbrev pub is_bad_binary : BinaryOp → Sizes → Sizes → Bool
is_bad_binary op a b =
    is_bad_operator op a.is_unsized b.is_unsized a.plain b.plain || (is_plain_binary op a b && is_out op a.whole b.whole)

-- two operands with an operator between them
abbrev pub of_binary : BinaryOp → Sizes → Sizes → Sizes
of_binary op a b = record {
  line = a.line;
  plain = is_plain_binary op a b;
  is_unsized = is_plain_binary op a b || (is_plain_shift op && a.plain);
  unsized_literal = false;
  constant = a.constant && b.constant;
  width = binary_width (kind_of op) a.width b.width;
  parts_lawful = operands_lawful (kind_of op) a b;
  whole = of_two (whole_value op) a.whole b.whole;
  value = λ w. operated (kind_of op) op a b w;
  const_faults = told_if (is_bad_binary op a b) (error.Const a.line) ++ (a.const_faults ++ b.const_faults);
  width_faults = a.width_faults ++ b.width_faults;
}

-- the branch that is taken
abbrev pub chosen_value : Option ℕ → Option ℕ → Option ℕ → Option ℕ
chosen_value None a b = None
chosen_value (Some c) a b = if c == 0 then b else a

-- also the branch that isn't taken has a value
abbrev pub chosen_whole : Option ℕ → Option ℕ → Option ℕ → Option ℕ
chosen_whole c (Some a) (Some b) = chosen_value c (Some a) (Some b)
chosen_whole c _ _ = None

-- `c ? a : b`
abbrev pub of_choice : Sizes → Sizes → Sizes → Sizes
of_choice c a b = record {
  line = c.line;
  plain = c.constant && (a.plain && b.plain);
  is_unsized = a.is_unsized && b.is_unsized;
  unsized_literal = false;
  constant = c.constant && (a.constant && b.constant);
  width = max a.width b.width;
  parts_lawful = has_width a && has_width b;
  whole = chosen_whole (number c) a.whole b.whole;
  value = λ w. chosen_value (own c) (a.value w) (b.value w);
  const_faults = c.const_faults ++ (a.const_faults ++ b.const_faults);
  width_faults = c.width_faults ++ (a.width_faults ++ b.width_faults);
}

abbrev mutual
  -- an expression, where these names may be read
  pub sizes_of : Readable → ExprOf ℕ → Sizes
  sizes_of r (UnaryExpr None prim) = sizes_of_prim r prim
  sizes_of r (UnaryExpr (Some sign) prim) = of_sign sign.line sign.op (sizes_of_prim r prim)
  sizes_of r (BinaryExpr a op b) = of_binary op (sizes_of r a) (sizes_of r b)
  sizes_of r (ChoiceExpr c a b) = of_choice (sizes_of r c) (sizes_of r a) (sizes_of r b)

  pub sizes_of_prim : Readable → PrimOf ℕ → Sizes
  sizes_of_prim r (NumberPrim n) = of_number n
  sizes_of_prim r (RefPrim ref) = sizes_of_ref r ref
  sizes_of_prim r (ParenPrim line e) = of_paren line (sizes_of r e)
  sizes_of_prim r (ConcatPrim line es) = of_concat line (sizes_of_all r es)
  -- a count is a constant position
  sizes_of_prim r (RepeatPrim line count es) = of_repeat line (sizes_of (fixed r) count) (sizes_of_all r es)

  pub sizes_of_ref : Readable → RefOf ℕ → Sizes
  sizes_of_ref r (RefWith id index last) = of_name r.is_checked id.line (meaning_of r id.name)
      (of_ref id.line (meaning_of r id.name) (sizes_of_index r index) (sizes_of_last r last))

  pub sizes_of_index : Readable → IndexOf ℕ → Option Sizes
  sizes_of_index r NoIndex = None
  sizes_of_index r (Index e) = Some (sizes_of r e)

  pub sizes_of_last : Readable → LastOf ℕ → Bracket
  sizes_of_last r NoLast = NoBracket
  sizes_of_last r (Last sel) = sizes_of_sel r sel

  -- bounds and the width after `+:` are constant positions
  pub sizes_of_sel : Readable → SelOf ℕ → Bracket
  sizes_of_sel r (IndexSel e) = Bit (sizes_of r e)
  sizes_of_sel r (PartSel first second) = Part (sizes_of (fixed r) first) (sizes_of (fixed r) second)
  sizes_of_sel r (IndexedSel base width) = Indexed (sizes_of r base) (sizes_of (fixed r) width)

  pub sizes_of_all : Readable → ExprsOf ℕ → List Sizes
  sizes_of_all r NoExprs = []
  sizes_of_all r (MoreExprs e es) = sizes_of r e ∷ sizes_of_all r es

-- a name with its brackets, without what is found of what the name stands for
abbrev pub sizes_of_read : Readable → RefOf ℕ → Sizes
sizes_of_read r (RefWith id index last) = of_ref id.line (meaning_of r id.name) (sizes_of_index r index) (sizes_of_last r last)

-- a target has the width and the faults of the expression of the same form
abbrev mutual
  pub sizes_of_target : Readable → TargetOf ℕ → Sizes
  sizes_of_target r (RefTarget ref) = sizes_of_ref r ref
  sizes_of_target r (ConcatTarget line ts) = of_concat line (sizes_of_targets r ts)

  pub sizes_of_targets : Readable → TargetsOf ℕ → List Sizes
  sizes_of_targets r NoTargets = []
  sizes_of_targets r (MoreTargets t ts) = sizes_of_target r t ∷ sizes_of_targets r ts

-- E5's findings, then E6's
unfoldable pub faults : Sizes → List SizeError
faults e = e.const_faults ++ e.width_faults

-- a number as the constant of an expression: plain, or of the expression's width
abbrev pub constant_at : Bool → ℕ → ℕ → Const
constant_at plain width n = if plain then const.Plain n else const.Sized width n

-- the constant of an expression that has a number
unfoldable pub constant_of : Sizes → Option Const
constant_of e = option_map (constant_at e.plain e.width) (number e)

-- the width at which a constant expression is evaluated where it is assigned to w bits: the larger one
abbrev pub assigned_width : ℕ → Sizes → Option ℕ
assigned_width w e = if e.constant && is_lawful e.width then Some (max w e.width) else None

-- the number of a constant expression without a fault at that width
abbrev pub wide_number : ℕ → Sizes → Option ℕ
wide_number w e = if e.plain then e.whole else (if is_sound e then at_width e.value (assigned_width w e) else None)

-- the number that w bits have where a constant expression without a fault is assigned to them: evaluated, then cut
unfoldable pub assigned_number : ℕ → Sizes → Option ℕ
assigned_number w e = of_one (λ (n : ℕ). n % 2 ^ w) (wide_number w e)
