use Rattle.std.proofs.Common.{◌≡◌, ◌++◌, drop}
use Rattle.std.specs.List.{zip}
use Rattle.axi_burst.specs.Bursts.{all_lasts, broken_from, last_faults, shows_last}
use Rattle.axi_burst.specs.Passes.{lasts_left}
use Rattle.axi_burst.proofs.rules.check_lasts.Given as goal

abbrev pub invariant-loop-i : goal.invariant-loop-i
invariant-loop-i l = broken_from 2 l.channel shows_last l.i (zip (drop l.i l.sent) (lasts_left l.left ++ all_lasts l.rest))
    ≡ last_faults l.channel l.asks l.sent
