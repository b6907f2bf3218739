use Rattle.std.proofs.Common.{◌≡◌, ◌≤◌, ◌+◌, ◌-◌, ◌^◌, drop, length}
use Rattle.std.specs.Prelude.{min}
use Rattle.vlog_print.specs.Printed.{printed}
use Rattle.vlog_print.proofs.printing.room_for.Given as goal

abbrev pub invariant-loop-token : goal.invariant-loop-token
invariant-loop-token l = (l.room ≤ 2 ^ 64 - 1)
    × (min (l.room + length (printed (drop l.token-index l.tokens))) (2 ^ 64 - 1) ≡ min (length (printed l.tokens)) (2 ^ 64 - 1))
