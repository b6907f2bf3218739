use Rattle.std.proofs.Common.{false, get_or, ap, sym, ◌∙◌}
use Rattle.axi_burst.specs.declared.transfers.Beat.{Beat}
use Rattle.axi_burst.specs.Bursts.{answers_burst, is_answer, response_faults}
use Rattle.axi_burst.specs.Passes.{taken_to}
use Rattle.axi_burst.proofs.FaultLoops.{passed}
use Rattle.axi_burst.proofs.TakenLaws.{heads-on}
use Rattle.axi_burst.proofs.responses.check_responses.Goals as goal

pub loop-i-preserved : goal.loop-i-preserved
loop-i-preserved c =
    let i = c.loop-i.i in
    let asks = c.args.asks.now in
    let sent = c.args.sent.now in
    let answers = c.args.answers.now in
    let none : Beat = record { id = 0; last = false; at = 0 } in
    let taken = c.in_ok-head.ensures asks (taken_to i answers) c.loop-i.invariant.heads in
    record {
      heads = heads-on asks answers i none c.loop-i-test.true c.take.new.self taken.1;
      faults = passed 3 c.args.channel (is_answer asks sent answers) answers i none (response_faults c.args.channel asks sent answers)
          c.loop-i-test.true c.loop-i.invariant.faults
          (ap (answers_burst asks sent (get_or answers i none).at) (sym taken.0) ∙ sym c.if-not-answers_burst.ensures);
    }
