use Rattle.std.proofs.Common.{◌≤◌, ◌++◌, length, take, refl, ap, sym, subst, ◌∙◌}
use Rattle.net_design.specs.Pins.{output_count}
use Rattle.replay_run.specs.chan_monitor.Entering.{offered}
use Rattle.shim_cosim.specs.Recorded.{row_inputs, outputs_count}
use Rattle.shim_cosim.proofs.Calls as calls
use Rattle.shim_cosim.proofs.Shells.{known_long, known_places, known_small, known_few, known_fit}
use Rattle.shim_cosim.proofs.wrapped.RecordShellShell.drive.Goals as goal

pub settle_offers-requires-clause-long : goal.settle_offers-requires-clause-long
settle_offers-requires-clause-long g c =
    let s = c.args.self.now in
    ap length c.as_mut_slice.ensures.value ∙ known_long s.running

pub settle_offers-requires-clause-fit : goal.settle_offers-requires-clause-fit
settle_offers-requires-clause-fit g c ps e =
    let s = c.args.self.now in
    known_fit s.running c.args.offers.now c.args.gates c.requires.offers ps
    (e ∙ ap (λ xs. take s.first xs ++ row_inputs s.map.now.channels (offered c.args.gates c.args.offers.now)) c.as_mut_slice.ensures.value)

pub fill_row-requires-clause-few : goal.fill_row-requires-clause-few
fill_row-requires-clause-few g c = known_few c.args.self.now.running

pub fill_row-requires-clause-small : goal.fill_row-requires-clause-small
fill_row-requires-clause-small g c = known_small c.args.self.now.running

pub fill_row-requires-clause-places : goal.fill_row-requires-clause-places
fill_row-requires-clause-places g c =
    let s = c.args.self.now in
    subst (λ d. outputs_count s.map.now.channels ≤ output_count d) (sym c.settle_offers.ensures.design) (known_places s.running)

pub invariant_of-self : goal.invariant_of-self
invariant_of-self g c =
    let s = c.args.self.now in
    record {
      running = calls.still_running (g.B.Block.design s.block) (g.B.Block.design c.settle_offers.new.block) (g.B.Block.state s.block)
          (g.B.Block.state c.settle_offers.new.block) s.map.now s.first s.pins c.as_mut_slice.result.now c.settle_offers.new.pins s.resets _
          c.settle_offers.ensures.design c.settle_offers.ensures.state c.as_mut_slice.ensures.value c.settle_offers.ensures.entered
          c.settle_offers.auto.pins s.running;
    }

pub returns-clause-row : goal.returns-clause-row
returns-clause-row g c d u before on =
    let s = c.args.self.now in
    calls.row_shown (g.B.Block.design s.block) (g.B.Block.design c.settle_offers.new.block) (g.B.Block.state s.block) s.map.now s.first s.pins
    c.as_mut_slice.result.now c.settle_offers.new.pins s.resets d u before (g.met.B.Block.is_state s.block) c.as_mut_slice.ensures.value
    c.settle_offers.ensures.design (g.B.Block.shown c.settle_offers.new.block) c.settle_offers.ensures.settled c.args.offers.now c.args.gates
    c.requires.offers c.requires.zeros c.requires.gates c.settle_offers.ensures.entered c.fill_row.new.row c.fill_row.ensures.made on

pub returns-clause-runs : goal.returns-clause-runs
returns-clause-runs g c d u before on =
    let s = c.args.self.now in
    calls.still_runs (g.B.Block.design s.block) (g.B.Block.design c.settle_offers.new.block) (g.B.Block.state s.block)
    (g.B.Block.state c.settle_offers.new.block) s.map.now s.first s.pins c.as_mut_slice.result.now c.settle_offers.new.pins s.resets _ d u before
    c.settle_offers.ensures.design c.settle_offers.ensures.state c.as_mut_slice.ensures.value c.settle_offers.ensures.entered
    c.settle_offers.auto.pins on

pub returns-clause-driven : goal.returns-clause-driven
returns-clause-driven g c =
    let s = c.args.self.now in (
      calls.is_recorded (g.B.Block.design s.block) (g.B.Block.design c.settle_offers.new.block) (g.B.Block.state s.block)
          (g.B.Block.state c.settle_offers.new.block) s.map.now s.first s.pins c.as_mut_slice.result.now c.settle_offers.new.pins
          (g.B.Block.inputs c.settle_offers.new.block) (known_long s.running) c.as_mut_slice.ensures.value c.settle_offers.ensures.design
          c.settle_offers.ensures.state c.settle_offers.ensures.inputs c.settle_offers.auto.pins (g.B.Block.shown c.settle_offers.new.block)
          c.settle_offers.ensures.settled c.args.offers.now c.args.gates c.requires.offers c.requires.zeros c.requires.gates
          c.settle_offers.ensures.entered c.fill_row.new.row c.fill_row.ensures.made,
      refl,
    )
