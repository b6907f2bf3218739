use Rattle.flat_drivers.proofs.Paths.{path_longer}
use Rattle.flat_drivers.proofs.child.is_longer_path.Goals as goal

pub returns-then-is_same_path : goal.returns-then-is_same_path
returns-then-is_same_path c = λ h.
    path_longer c.args.longer.now c.in-Some.front.now c.in-Some.last.now c.args.path.now c.args.name.now c.in-Some.ensures.cases.0
    (c.is_same_path.ensures c.if-is_same_path.true) (c.is_same_name.ensures h)
