use Rattle.std.proofs.Common.{arith, refl}
use Rattle.shim_cosim.proofs.Rerun.{clocked_on, running_clocked}
use Rattle.shim_cosim.proofs.rewrapped.RerunShellReplayShell.clock.Goals as goal

pub invariant_of-self : goal.invariant_of-self
invariant_of-self g c =
    let s = c.args.self.now in
    let h = c.requires.driven.1 in
    record {
      running = running_clocked (g.B.Block.design s.block) (g.B.Block.design c.clock.new.self) (g.B.Block.state s.block)
          (g.B.Block.state c.clock.new.self) (g.B.Block.shown s.block) (g.B.Block.inputs s.block) s.map.now s.first s.pins s.resets s.flight
          s.cycles c.in-Some.flight _ s.next c.requires.driven.0 c.clock.ensures.design s.few (g.met.B.Block.is_state s.block) h c.in-Some.is
          (c.clock.ensures.state (g.B.Block.shown s.block) h.settled) refl s.running;
      places = s.places;
      few = (let l = c.requires.few in omega (arith, l));
    }

pub returns-clause-next : goal.returns-clause-next
returns-clause-next g c d u rows row on driven =
    let s = c.args.self.now in
    clocked_on (g.B.Block.design s.block) (g.B.Block.design c.clock.new.self) (g.B.Block.state s.block)
    (g.B.Block.state c.clock.new.self) (g.B.Block.shown s.block) (g.B.Block.inputs s.block) s.map.now s.first s.pins s.resets s.flight
    s.cycles c.in-Some.flight _ s.next row c.clock.ensures.design s.few (g.met.B.Block.is_state s.block) driven c.in-Some.is
    (c.clock.ensures.state (g.B.Block.shown s.block) driven.settled) refl d u rows on
