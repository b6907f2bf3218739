use Rattle.std.proofs.Common.{◌≡◌, ◌*◌, ◌≤◌}
use Rattle.axi_burst.specs.Bursts.{beats_to}
use Rattle.axi_burst.specs.Passes.{AreLast}
use Rattle.axi_burst.proofs.responses.last_beats.Given as goal

abbrev pub invariant-loop-a : goal.invariant-loop-a
invariant-loop-a l = record {
  sum : l.sum ≡ beats_to l.a-index l.asks;
  bound : l.sum ≤ 256 * l.a-index;
  lasts : AreLast l.asks l.a-index l.lasts.items;
}
