use Rattle.std.proofs.Common.{◌≡◌, ◌++◌, length, take, ap, ◌∙◌}
use Rattle.net_design.specs.declared.design.Design.{Design}
use Rattle.net_design.specs.Pins.{outputs, output_count}
use Rattle.replay_run.specs.trace_model.declared.row.Row.{Row}
use Rattle.replay_run.proofs.chan_monitor_lemmas.RowOfCycle.{refill-is}
use Rattle.shim_cosim.specs.Rewrapped.{feed_inputs}
use Rattle.shim_cosim.proofs.Recalls as calls
use Rattle.shim_cosim.proofs.Rerun.{known_few, known_fit, known_long, known_many, known_shown}
use Rattle.shim_cosim.proofs.rewrapped.RerunShellReplayShell.drive.Goals as goal

pub settle_feed-requires-clause-few : goal.settle_feed-requires-clause-few
settle_feed-requires-clause-few g c =
    let s = c.args.self.now in
    known_few (g.B.Block.design s.block) (g.B.Block.state s.block) s.map.now s.first s.pins s.resets s.flight s.cycles s.running

pub settle_feed-requires-clause-long : goal.settle_feed-requires-clause-long
settle_feed-requires-clause-long g c =
    let s = c.args.self.now in
    ap length c.as_mut_slice.ensures.value
    ∙ known_long (g.B.Block.design s.block) (g.B.Block.state s.block) s.map.now s.first s.pins s.resets s.flight s.cycles s.running

pub settle_feed-requires-clause-fit : goal.settle_feed-requires-clause-fit
settle_feed-requires-clause-fit g c ps small e =
    let s = c.args.self.now in
    known_fit (g.B.Block.design s.block) (g.B.Block.state s.block) s.map.now s.first s.pins s.resets s.flight s.cycles s.running
    c.args.feed.now c.requires.feed small ps
    (e ∙ ap (λ xs. take s.first xs ++ feed_inputs s.map.now.channels c.args.feed.now) c.as_mut_slice.ensures.value)

pub show_row-next-requires-clause-few : goal.show_row-next-requires-clause-few
show_row-next-requires-clause-few g c =
    let s = c.args.self.now in
    known_few (g.B.Block.design s.block) (g.B.Block.state s.block) s.map.now s.first s.pins s.resets s.flight s.cycles s.running

pub show_row-next-requires-clause-numbers : goal.show_row-next-requires-clause-numbers
show_row-next-requires-clause-numbers g c = ap length c.as_mut_slice-2.ensures.value ∙ c.args.self.now.places

pub show_row-next-requires-clause-many : goal.show_row-next-requires-clause-many
show_row-next-requires-clause-many g c =
    let s = c.args.self.now in
    ap output_count c.settle_feed.ensures.design
    ∙ known_many (g.B.Block.design s.block) (g.B.Block.state s.block) s.map.now s.first s.pins s.resets s.flight s.cycles s.running

pub show_row-next-requires-clause-shown : goal.show_row-next-requires-clause-shown
show_row-next-requires-clause-shown g c =
    let s = c.args.self.now in
    ap (λ (d : Design). length (outputs d (g.B.Block.shown c.settle_feed.new.block))) c.settle_feed.ensures.design
    ∙ known_shown (g.B.Block.design s.block) (g.B.Block.state s.block) s.map.now s.first s.pins s.resets s.flight s.cycles s.running
    (g.met.B.Block.is_state s.block) c.settle_feed.new.pins (g.B.Block.shown c.settle_feed.new.block) c.settle_feed.ensures.settled

pub invariant_of-self : goal.invariant_of-self
invariant_of-self g c =
    let s = c.args.self.now in
    let long : length c.show_row-next.new.numbers ≡ length s.outputs = c.show_row-next.auto.numbers ∙ ap length c.as_mut_slice-2.ensures.value in
    record {
      running = calls.still_running (g.B.Block.design s.block) (g.B.Block.design c.settle_feed.new.block) (g.B.Block.state s.block)
          (g.B.Block.state c.settle_feed.new.block) s.map.now s.first s.pins c.as_mut_slice.result.now c.settle_feed.new.pins s.resets _ s.flight
          s.cycles c.settle_feed.ensures.design c.settle_feed.ensures.state c.as_mut_slice.ensures.value c.settle_feed.ensures.entered
          c.settle_feed.auto.pins s.running;
      places = ap length (refill-is s.outputs c.show_row-next.new.numbers long) ∙ long ∙ s.places;
      few = s.few;
    }

pub returns-clause-over : goal.returns-clause-over
returns-clause-over g c =
    let s = c.args.self.now in
    calls.row_over (g.B.Block.design s.block) (g.B.Block.design c.settle_feed.new.block) (g.B.Block.state s.block) s.map.now s.first s.pins
    c.as_mut_slice.result.now c.settle_feed.new.pins s.resets s.flight s.cycles s.few (g.met.B.Block.is_state s.block)
    c.as_mut_slice.ensures.value c.settle_feed.ensures.design (g.B.Block.shown c.settle_feed.new.block) c.settle_feed.ensures.settled
    c.args.feed.now c.requires.feed c.settle_feed.ensures.entered c.args.row.now.fresh c.show_row-next.new.row c.show_row-next.ensures.row s.running

pub returns-clause-row : goal.returns-clause-row
returns-clause-row g c d u rows on =
    let s = c.args.self.now in
    calls.row_shown (g.B.Block.design s.block) (g.B.Block.design c.settle_feed.new.block) (g.B.Block.state s.block) s.map.now s.first s.pins
    c.as_mut_slice.result.now c.settle_feed.new.pins s.resets s.flight s.cycles d u rows s.few (g.met.B.Block.is_state s.block)
    c.as_mut_slice.ensures.value c.settle_feed.ensures.design (g.B.Block.shown c.settle_feed.new.block) c.settle_feed.ensures.settled
    c.args.feed.now c.requires.feed c.settle_feed.ensures.entered c.args.row.now.fresh c.show_row-next.new.row c.show_row-next.ensures.row on

pub returns-clause-fresh : goal.returns-clause-fresh
returns-clause-fresh g c = ap (λ (row : Row). row.fresh) c.show_row-next.ensures.row

pub returns-clause-runs : goal.returns-clause-runs
returns-clause-runs g c d u rows on =
    let s = c.args.self.now in
    calls.still_runs (g.B.Block.design s.block) (g.B.Block.design c.settle_feed.new.block) (g.B.Block.state s.block)
    (g.B.Block.state c.settle_feed.new.block) s.map.now s.first s.pins c.as_mut_slice.result.now c.settle_feed.new.pins s.resets _ s.flight
    s.cycles d u rows c.settle_feed.ensures.design c.settle_feed.ensures.state c.as_mut_slice.ensures.value c.settle_feed.ensures.entered
    c.settle_feed.auto.pins on

pub returns-clause-driven : goal.returns-clause-driven
returns-clause-driven g c =
    let s = c.args.self.now in
    calls.is_replayed (g.B.Block.design s.block) (g.B.Block.design c.settle_feed.new.block) (g.B.Block.state s.block)
    (g.B.Block.state c.settle_feed.new.block) s.map.now s.first s.pins c.as_mut_slice.result.now c.settle_feed.new.pins
    (g.B.Block.inputs c.settle_feed.new.block) s.flight
    (known_long (g.B.Block.design s.block) (g.B.Block.state s.block) s.map.now s.first s.pins s.resets s.flight s.cycles s.running)
    c.as_mut_slice.ensures.value c.settle_feed.ensures.design c.settle_feed.ensures.state c.settle_feed.ensures.inputs
    c.settle_feed.auto.pins (g.B.Block.shown c.settle_feed.new.block) c.settle_feed.ensures.settled c.args.feed.now c.requires.feed
    c.settle_feed.ensures.entered c.args.row.now.fresh c.show_row-next.new.row c.show_row-next.ensures.row c.show_row-next.result c.show_row-next.ensures.next
