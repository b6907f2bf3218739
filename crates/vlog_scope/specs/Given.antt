-- What the code keeps of an instance's connections of parameters.
use Rattle.std.specs.Prelude.{List, map}
use Rattle.std.specs.Borrow.{Bor}
use Rattle.vlog_tree.specs.declared.expr.Expr.{Expr}
use Rattle.vlog_tree.specs.Plain.{plain_expr}
use Rattle.vlog_size.specs.Table.{Named}
use Rattle.vlog_size.specs.Names.{Readable, readable_in}
use Rattle.vlog_size.specs.Size.{Sizes, sizes_of}
use Rattle.vlog_scope.specs.declared.parameters.Overrides.{Overrides}

-- the overrides that these expressions are
abbrev pub sizes_in : Readable → List (Named (Bor Expr)) → List (Named Sizes)
sizes_in r values = map (λ x. record { name = x.name; value = sizes_of r (plain_expr x.value.now) }) values

abbrev pub given_in : Overrides → List (Named Sizes)
given_in o = sizes_in (readable_in o.view) o.values
