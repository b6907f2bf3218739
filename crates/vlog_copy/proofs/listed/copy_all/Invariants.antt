use Rattle.std.proofs.Common.{◌≡◌, ◌++◌, drop, map}
use Rattle.vlog_copy.proofs.listed.copy_all.Given as goal

abbrev pub invariant-loop-part : goal.invariant-loop-part
invariant-loop-part g l = map g.T.Part.plain l.copy ++ map g.T.Part.plain (drop l.part-index l.parts) ≡ map g.T.Part.plain l.parts
