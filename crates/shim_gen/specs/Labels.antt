-- What the code's labels stand for, and nets of these names.
use Rattle.std.specs.Prelude.{ℕ, Option, option_map}
use Rattle.vlog_tree.specs.declared.expr.Sign.{Sign}
use Rattle.vlog_tree.specs.Plain.{plain_sign}
use Rattle.vlog_tree.specs.Tree.{ExprOf, UnaryExpr, RefPrim, RefWith, NoIndex, NoLast}
use Rattle.shim_gen.specs.declared.names.Label.{Label}
use Rattle.shim_gen.specs.declared.names.Label.TheVariants as label
use Rattle.shim_trees.specs.Pieces.{Name, numbered, numbered_twice, ident}
use Rattle.shim_trees.specs.Links.{tied}

-- the name of a label
abbrev pub text : Label → Name
text (label.Given name) = name.now
text (label.Tied name) = tied name.now
text (label.Plain base) = base.now
text (label.Numbered base n) = numbered base.now n
text (label.Twice base n i) = numbered_twice base.now n i

-- that of a label with one number more, where it is plain or has one
abbrev pub text_at : Label → ℕ → Name
text_at (label.Given name) i = name.now
text_at (label.Tied name) i = tied name.now
text_at (label.Plain base) i = numbered base.now i
text_at (label.Numbered base n) i = numbered_twice base.now n i
text_at (label.Twice base n j) i = numbered_twice base.now n j

-- a whole net, perhaps with an operator before it
abbrev pub signed : Option Sign → Name → ExprOf ℕ
signed sign x = UnaryExpr (option_map plain_sign sign) (RefPrim (RefWith (ident x) NoIndex NoLast))
