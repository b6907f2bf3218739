use Rattle.std.proofs.Common.{map, drop}
use Rattle.std.specs.List.{AllByRecursion}
use Rattle.vlog_tree.specs.Plain.{plain_assign}
use Rattle.vlog_driver.specs.Sites.{site_of}
use Rattle.vlog_driver.specs.Duties.{assign_duty, IsFaultlessAssign}
use Rattle.vlog_driver.proofs.More.{Going}
use Rattle.vlog_driver.proofs.assign.add_assigns.Given as goal

abbrev pub invariant-loop-a : goal.invariant-loop-a
invariant-loop-a l =
    Going (λ xs. map (assign_duty (site_of l.site)) (map plain_assign xs)) (drop l.a-index l.assigns) l.assigns l.out l.initial.out
    × AllByRecursion (IsFaultlessAssign (site_of l.site)) (map plain_assign (drop l.a-index l.assigns))
