use Rattle.std.proofs.Common.{◌≡◌, ◌++◌, drop}
use Rattle.vlog_print.specs.Printed.{printed}
use Rattle.vlog_print.proofs.printing.text_of.Given as goal

abbrev pub invariant-loop-token : goal.invariant-loop-token
invariant-loop-token l = l.out.items ++ printed (drop l.token-index l.tokens) ≡ printed l.tokens
