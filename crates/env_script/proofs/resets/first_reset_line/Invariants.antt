use Rattle.std.proofs.Common.{◌≡◌, ◌<◌, ◌+◌, ◌^◌, drop, length}
use Rattle.env_script.specs.Resets.{first_reset}
use Rattle.env_script.proofs.resets.first_reset_line.Given as goal

abbrev pub invariant-loop-line : goal.invariant-loop-line
invariant-loop-line l = record {
  number : l.number ≡ 1 + l.line-index;
  few : length l.line-items < 2 ^ 31;
  found : first_reset 1 l.line-items ≡ first_reset l.number (drop l.line-index l.line-items);
}
