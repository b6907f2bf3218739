use Rattle.std.proofs.Common.{◌≡◌, All, length}
use Rattle.run_checks.specs.Given.{IsSend}
use Rattle.run_checks.proofs.given.six_cycles.Given as goal

abbrev pub invariant-loop-cycle : goal.invariant-loop-cycle
invariant-loop-cycle l = record { count : length l.list ≡ l.cycle; sends : All IsSend l.list }
