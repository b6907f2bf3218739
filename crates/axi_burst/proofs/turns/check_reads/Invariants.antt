use Rattle.std.proofs.Common.{◌≡◌, drop}
use Rattle.axi_burst.specs.Bursts.{broken_from, is_in_turn, read_faults}
use Rattle.axi_burst.specs.Passes.{taken_to}
use Rattle.axi_burst.specs.TurnTable.{AreTurns}
use Rattle.axi_burst.proofs.turns.check_reads.Given as goal

abbrev pub invariant-loop-i : goal.invariant-loop-i
invariant-loop-i l = record {
  turns : AreTurns l.asks (taken_to l.i l.got) l.turns;
  faults : broken_from 4 l.channel (is_in_turn l.asks l.got) l.i (drop l.i l.got) ≡ read_faults l.channel l.asks l.got;
}
