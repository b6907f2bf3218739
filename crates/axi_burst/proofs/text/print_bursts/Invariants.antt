use Rattle.std.proofs.Common.{◌≡◌, true, false, take}
use Rattle.std.specs.List.{flat_map, enumerate_from}
use Rattle.axi_burst.specs.Text.{count_of, numbered_line}
use Rattle.axi_burst.proofs.text.print_bursts.Given as goal

abbrev pub invariant-loop-burst : goal.invariant-loop-burst
invariant-loop-burst g l = record {
  writes : l.writes ≡ count_of true (take l.burst-index l.bursts);
  reads : l.reads ≡ count_of false (take l.burst-index l.bursts);
  went : g.P.Page.went l.initial.page l.page (flat_map (numbered_line l.bursts) (enumerate_from 0 (take l.burst-index l.bursts)));
}
