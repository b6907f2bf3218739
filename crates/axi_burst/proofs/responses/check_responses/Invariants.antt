use Rattle.std.proofs.Common.{◌≡◌, drop}
use Rattle.axi_burst.specs.Bursts.{broken_from, is_answer, response_faults}
use Rattle.axi_burst.specs.HeadTable.{AreHeads}
use Rattle.axi_burst.specs.Passes.{taken_to}
use Rattle.axi_burst.proofs.responses.check_responses.Given as goal

abbrev pub invariant-loop-i : goal.invariant-loop-i
invariant-loop-i l = record {
  heads : AreHeads l.asks (taken_to l.i l.answers) l.heads;
  faults : broken_from 3 l.channel (is_answer l.asks l.sent l.answers) l.i (drop l.i l.answers)
      ≡ response_faults l.channel l.asks l.sent l.answers;
}
