use Rattle.std.proofs.Common.{false, get_or, ap, sym, ◌∙◌}
use Rattle.axi_burst.specs.declared.transfers.Beat.{Beat}
use Rattle.axi_burst.specs.Bursts.{is_in_turn, is_turn, read_faults}
use Rattle.axi_burst.specs.Passes.{taken_to}
use Rattle.axi_burst.proofs.FaultLoops.{passed, stopped}
use Rattle.axi_burst.proofs.TakenLaws.{turns-on}
use Rattle.axi_burst.proofs.turns.check_reads.Goals as goal

pub returns-then-not-is_turn : goal.returns-then-not-is_turn
returns-then-not-is_turn c =
    let i = c.loop-i.i in
    let asks = c.args.asks.now in
    let got = c.args.got.now in
    let none : Beat = record { id = 0; last = false; at = 0 } in
    let taken = c.in_ok-turn.ensures (taken_to i got) c.loop-i.invariant.turns in
    stopped 4 c.args.channel (is_in_turn asks got) got i none (read_faults c.args.channel asks got) c.loop-i-test.true c.loop-i.invariant.faults
    (ap (is_turn (get_or got i none).at (get_or got i none).last) (sym taken.0) ∙ sym c.if-not-is_turn.ensures)

pub loop-i-preserved : goal.loop-i-preserved
loop-i-preserved c =
    let i = c.loop-i.i in
    let asks = c.args.asks.now in
    let got = c.args.got.now in
    let none : Beat = record { id = 0; last = false; at = 0 } in
    let taken = c.in_ok-turn.ensures (taken_to i got) c.loop-i.invariant.turns in
    record {
      turns = turns-on asks got i none c.loop-i-test.true c.take.new.self taken.1;
      faults = passed 4 c.args.channel (is_in_turn asks got) got i none (read_faults c.args.channel asks got) c.loop-i-test.true
          c.loop-i.invariant.faults
          (ap (is_turn (get_or got i none).at (get_or got i none).last) (sym taken.0) ∙ sym c.if-not-is_turn.ensures);
    }
