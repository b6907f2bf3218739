use Rattle.std.proofs.Common.{◌↔◌, drop, map}
use Rattle.std.specs.List.{AllByRecursion}
use Rattle.vlog_print.proofs.shape.listed.each_good.Given as goal

abbrev pub invariant-loop-part : goal.invariant-loop-part
invariant-loop-part g l = AllByRecursion g.T.Shaped.is_good (map g.T.Shaped.plain (drop l.part-index l.parts))
    ↔ AllByRecursion g.T.Shaped.is_good (map g.T.Shaped.plain l.parts)
