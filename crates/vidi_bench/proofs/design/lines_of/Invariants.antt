use Rattle.std.proofs.Common.{◌≡◌, ◌++◌, map, drop}
use Rattle.vidi_bench.specs.Design.{line_of}
use Rattle.vidi_bench.proofs.design.lines_of.Given as goal

-- the lines so far and those of the drivers that are left
abbrev pub invariant-loop-driver : goal.invariant-loop-driver
invariant-loop-driver l =
    l.lines ++ map (line_of l.design.drivers) (drop l.driver-index l.drivers) ≡ map (line_of l.design.drivers) l.drivers
