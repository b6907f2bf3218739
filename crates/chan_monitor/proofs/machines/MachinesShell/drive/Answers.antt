use Rattle.std.proofs.Common.{Some, length, ap, sym, subst, ◌∙◌}
use Rattle.net_design.specs.declared.design.Design.{Design}
use Rattle.run_model.specs.MapOf.{IsMapOf}
use Rattle.chan_monitor.specs.Around.{AreHeld, AreMonitors}
use Rattle.chan_monitor.proofs.Known.{around-driven, flying, known-held, known-many, known-ready, monitored, runs-on}
use Rattle.chan_monitor.proofs.RowOfCycle.{cycle-in, cycle-of, driven-of, ready-of}
use Rattle.chan_monitor.proofs.machines.MachinesShell.drive.Goals as goal

pub settle_offers-requires-clause-mapped : goal.settle_offers-requires-clause-mapped
settle_offers-requires-clause-mapped g c =
    let s = c.args.self.now in
    (known-ready (g.B.Block.design s.block) (g.B.Block.state s.block) s.map.now s.pins s.monitors s.running).mapped

pub settle_offers-requires-clause-held : goal.settle_offers-requires-clause-held
settle_offers-requires-clause-held g c =
    let s = c.args.self.now in
    subst (AreHeld (g.B.Block.design s.block) s.map.now) (sym c.as_mut_slice.ensures.value)
    (known-held (g.B.Block.design s.block) (g.B.Block.state s.block) s.map.now s.pins s.monitors s.running)

pub settle_offers-requires-clause-monitors : goal.settle_offers-requires-clause-monitors
settle_offers-requires-clause-monitors g c =
    let s = c.args.self.now in
    ap length c.as_slice-monitors.ensures
    ∙ known-many (g.B.Block.design s.block) (g.B.Block.state s.block) s.map.now s.pins s.monitors s.running

pub show-requires-clause-mapped : goal.show-requires-clause-mapped
show-requires-clause-mapped g c =
    let s = c.args.self.now in
    subst (λ (f : Design). IsMapOf f s.map.now) (sym c.settle_offers.ensures.design)
    (known-ready (g.B.Block.design s.block) (g.B.Block.state s.block) s.map.now s.pins s.monitors s.running).mapped

pub show-requires-clause-monitors : goal.show-requires-clause-monitors
show-requires-clause-monitors g c =
    let s = c.args.self.now in
    ap length c.as_slice-monitors.ensures
    ∙ known-many (g.B.Block.design s.block) (g.B.Block.state s.block) s.map.now s.pins s.monitors s.running

pub invariant_of-self : goal.invariant_of-self
invariant_of-self g c =
    let s = c.args.self.now in
    record {
      running = runs-on (g.B.Block.design s.block) (g.B.Block.design c.settle_offers.new.block) (g.B.Block.state s.block)
          (g.B.Block.state c.settle_offers.new.block) s.map.now s.pins _ s.monitors s.monitors
          (λ d u before is. (
            u,
            before,
            around-driven (g.B.Block.design s.block) (g.B.Block.design c.settle_offers.new.block) (g.B.Block.state s.block)
                (g.B.Block.state c.settle_offers.new.block) s.map.now s.pins c.settle_offers.new.pins s.monitors
                c.settle_offers.ensures.design c.settle_offers.ensures.state
                (c.settle_offers.auto.pins ∙ ap length c.as_mut_slice.ensures.value) c.settle_offers.ensures.held d u before is,
          )) s.running;
    }

pub returns-clause-row : goal.returns-clause-row
returns-clause-row g c d s before is =
    let m = c.args.self.now.map.now in
    let v = g.B.Block.shown c.settle_offers.new.block in
    let flight = subst (λ k. AreMonitors (length m.channels) k before) (sym c.as_slice-monitors.ensures) is.flight in
    (cycle-of (g.B.Block.design c.args.self.now.block) d m (g.B.Block.state c.args.self.now.block) s before c.args.offers.now c.args.gates
    c.settle_offers.new.pins v c.show.new.row is.design_is is.state_is
    (cycle-in (g.B.Block.design c.args.self.now.block) (g.B.Block.design c.settle_offers.new.block) m
    (g.B.Block.state c.args.self.now.block) c.args.row.now.fresh before c.args.offers.now c.args.gates
    c.settle_offers.new.pins v c.show.new.row c.settle_offers.ensures.design (ready-of
    (g.B.Block.design c.args.self.now.block) d m is.design_is is.ready)
    c.requires.offers c.requires.zeros c.requires.gates c.settle_offers.ensures.entered c.settle_offers.ensures.settled
    (c.show.ensures.row before flight))).shown

pub returns-clause-runs : goal.returns-clause-runs
returns-clause-runs g c d u before is =
    let s = c.args.self.now in
    around-driven (g.B.Block.design s.block) (g.B.Block.design c.settle_offers.new.block) (g.B.Block.state s.block)
    (g.B.Block.state c.settle_offers.new.block) s.map.now s.pins c.settle_offers.new.pins s.monitors
    c.settle_offers.ensures.design c.settle_offers.ensures.state
    (c.settle_offers.auto.pins ∙ ap length c.as_mut_slice.ensures.value) c.settle_offers.ensures.held d u before is

pub returns-clause-driven : goal.returns-clause-driven
returns-clause-driven g c =
    let s = c.args.self.now in
    let m = s.map.now in
    let d = g.B.Block.design s.block in
    let v = g.B.Block.shown c.settle_offers.new.block in
    let before = Some (flying (length m.channels) s.monitors) in
    driven-of d (g.B.Block.design c.settle_offers.new.block)
    (g.B.Block.state s.block) (g.B.Block.state c.settle_offers.new.block)
    c.settle_offers.new.pins (g.B.Block.inputs c.settle_offers.new.block) v m _ (Some c.show.result) c.show.new.row
    c.settle_offers.ensures.design c.settle_offers.ensures.state c.settle_offers.ensures.inputs (ap Some c.show.ensures.masks)
    (cycle-in d (g.B.Block.design c.settle_offers.new.block) m
    (g.B.Block.state s.block) c.args.row.now.fresh before c.args.offers.now c.args.gates
    c.settle_offers.new.pins v c.show.new.row c.settle_offers.ensures.design
    (known-ready d (g.B.Block.state s.block) m s.pins s.monitors s.running)
    c.requires.offers c.requires.zeros c.requires.gates c.settle_offers.ensures.entered c.settle_offers.ensures.settled
    (c.show.ensures.row before (monitored (length m.channels) s.monitors c.as_slice-monitors.result.now
    (known-many d (g.B.Block.state s.block) m s.pins s.monitors s.running) c.as_slice-monitors.ensures))).driven
