use Rattle.std.proofs.Common.{◌≡◌, ◌++◌, drop}
use Rattle.net_instr.specs.Needs.{set_places}
use Rattle.net_instr.proofs.needs.places_marked.Given as goal

abbrev pub invariant-loop-k : goal.invariant-loop-k
invariant-loop-k l = l.nets ++ set_places l.k (drop l.k l.marks) ≡ set_places 0 l.marks
