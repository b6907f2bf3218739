-- Tokens, expressions and targets without their lines.
use Rattle.std.specs.Prelude.{List, map}
use Rattle.vlog_tree.specs.vlog_lex.declared.token.Token.{Token}
use Rattle.vlog_tree.specs.Tree.{IdentOf, NumberOf, SignOf, ExprOf, PrimOf, RefOf, SelOf, ExprsOf, TargetOf, TargetsOf}
use Rattle.vlog_tree.specs.Lines.{no_mark, map_ident, map_number, map_sign, map_expr, map_prim, map_ref, map_sel}
use Rattle.vlog_tree.specs.Lines.{map_exprs, map_target, map_targets}
use Rattle.vlog_expr.specs.Marks.{TokenOf, Toks}

abbrev pub forget : {A : Type 0} → TokenOf A → TokenOf (Unit {0})
forget t = record { kind = t.kind; text = t.text; line = tt }

abbrev pub forget_all : {A : Type 0} → Toks A → Toks (Unit {0})
forget_all ts = map forget ts

-- line 0 throughout, as tokens of a tree have it
abbrev pub without_lines : List Token → List Token
without_lines ts = map (λ (t : Token). record { kind = t.kind; text = t.text; line = 0 }) ts

abbrev pub bare_ident : {A : Type 0} → IdentOf A → IdentOf (Unit {0})
bare_ident x = map_ident no_mark x

abbrev pub bare_number : {A : Type 0} → NumberOf A → NumberOf (Unit {0})
bare_number x = map_number no_mark x

abbrev pub bare_sign : {A : Type 0} → SignOf A → SignOf (Unit {0})
bare_sign x = map_sign no_mark x

abbrev pub bare_expr : {A : Type 0} → ExprOf A → ExprOf (Unit {0})
bare_expr x = map_expr no_mark x

abbrev pub bare_prim : {A : Type 0} → PrimOf A → PrimOf (Unit {0})
bare_prim x = map_prim no_mark x

abbrev pub bare_ref : {A : Type 0} → RefOf A → RefOf (Unit {0})
bare_ref x = map_ref no_mark x

abbrev pub bare_sel : {A : Type 0} → SelOf A → SelOf (Unit {0})
bare_sel x = map_sel no_mark x

abbrev pub bare_exprs : {A : Type 0} → ExprsOf A → ExprsOf (Unit {0})
bare_exprs x = map_exprs no_mark x

abbrev pub bare_target : {A : Type 0} → TargetOf A → TargetOf (Unit {0})
bare_target x = map_target no_mark x

abbrev pub bare_targets : {A : Type 0} → TargetsOf A → TargetsOf (Unit {0})
bare_targets x = map_targets no_mark x
