use Rattle.std.proofs.Common.{None, false, length, replicate, ap, ◌∙◌}
use Rattle.chan_monitor.proofs.Known.{around-reset, known-held, known-ready, runs-on}
use Rattle.chan_monitor.proofs.machines.MachinesShell.reset.Goals as goal

pub restart-requires-clause-mapped : goal.restart-requires-clause-mapped
restart-requires-clause-mapped g c =
    let s = c.args.self.now in
    (known-ready (g.B.Block.design s.block) (g.B.Block.state s.block) s.map.now s.pins s.monitors s.running).mapped

pub restart-requires-clause-long : goal.restart-requires-clause-long
restart-requires-clause-long g c =
    let s = c.args.self.now in
    ap length c.as_mut_slice.ensures.value
    ∙ (known-held (g.B.Block.design s.block) (g.B.Block.state s.block) s.map.now s.pins s.monitors s.running).long

pub invariant_of-self : goal.invariant_of-self
invariant_of-self g c =
    let s = c.args.self.now in
    record {
      running = runs-on (g.B.Block.design s.block) (g.B.Block.design c.restart.new.block) (g.B.Block.state s.block)
          (g.B.Block.state c.restart.new.block) s.map.now s.pins _ s.monitors _
          (λ d u before is. (
            g.B.Block.state c.restart.new.block,
            None,
            around-reset (g.B.Block.design s.block) (g.B.Block.design c.restart.new.block) (g.B.Block.state s.block)
                (g.B.Block.state c.restart.new.block) s.map.now s.pins c.restart.new.pins s.monitors c.forget.new.monitors
                c.restart.ensures.design (c.restart.auto.pins ∙ ap length c.as_mut_slice.ensures.value) c.restart.ensures.held
                (c.forget.ensures ∙ ap (λ k. replicate (length k) false) c.as_mut_slice-2.ensures.value) d u before is,
          )) s.running;
    }
