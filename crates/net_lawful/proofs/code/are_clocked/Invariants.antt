use Rattle.std.proofs.Common.{ℕ, ◌<◌, slice_index_or}
use Rattle.net_design.specs.declared.act.Code.{Code}
use Rattle.net_design.specs.Lawful.{IsClocked}
use Rattle.net_lawful.proofs.code.are_clocked.Given as goal

abbrev pub invariant-loop-code : goal.invariant-loop-code
invariant-loop-code l = (k : ℕ) (x : Code) → k < l.code-index → IsClocked l.design (slice_index_or l.code-items k x)
