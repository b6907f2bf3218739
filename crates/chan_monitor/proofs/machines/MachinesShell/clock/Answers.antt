use Rattle.std.proofs.Common.{Some, length, ap, sym, ◌∙◌}
use Rattle.std.proofs.lemmas.Option.{same_Some}
use Rattle.chan_monitor.specs.Around.{handshakes}
use Rattle.chan_monitor.proofs.Known.{around-clocked, runs-on}
use Rattle.chan_monitor.proofs.machines.MachinesShell.clock.Goals as goal

pub invariant_of-self : goal.invariant_of-self
invariant_of-self g c =
    let s = c.args.self.now in
    let row = c.requires.driven.0 in
    record {
      running = runs-on (g.B.Block.design s.block) (g.B.Block.design c.clock.new.self) (g.B.Block.state s.block)
          (g.B.Block.state c.clock.new.self) s.map.now s.pins s.pins s.monitors _
          (λ d u before is. (
            g.B.Block.state c.clock.new.self,
            Some row,
            around-clocked (g.B.Block.design s.block) (g.B.Block.design c.clock.new.self) (g.B.Block.state s.block)
                (g.B.Block.state c.clock.new.self) s.map.now s.pins s.monitors c.commit.new.monitors c.in-Some.shown row
                c.clock.ensures.design (c.commit.auto.monitors ∙ ap length c.as_mut_slice.ensures.value)
                (same_Some c.in-Some.shown (handshakes row) (sym c.in-Some.is ∙ c.requires.driven.1.last_is)) c.commit.ensures
                d u before is,
          )) s.running;
    }
