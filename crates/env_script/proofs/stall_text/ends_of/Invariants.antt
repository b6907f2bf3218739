use Rattle.std.proofs.Common.{◌≡◌, ◌≤◌, ◌*◌, ◌^◌, ◌++◌, drop}
use Rattle.env_script.specs.Plan.{ends_from}
use Rattle.env_script.proofs.stall_text.ends_of.Given as goal

abbrev pub invariant-loop-drain : goal.invariant-loop-drain
invariant-loop-drain l = record {
  ends : ends_from 0 l.drains ≡ l.ends.items ++ ends_from l.end (drop l.drain-index l.drains);
  small : l.end ≤ l.drain-index * 2 ^ 32;
}
