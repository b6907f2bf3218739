use Rattle.std.proofs.Common.{Some}
use Rattle.shim_cosim.proofs.Shells.{clocked, runs_on}
use Rattle.shim_cosim.specs.Recording.{IsRecording}
use Rattle.shim_cosim.proofs.wrapped.RecordShellShell.clock.Goals as goal

pub invariant_of-self : goal.invariant_of-self
invariant_of-self g c =
    let s = c.args.self.now in
    let row = c.requires.driven.0 in
    let h = c.requires.driven.1.0 in
    record {
      running = runs_on (IsRecording (g.B.Block.design s.block) (g.B.Block.state s.block) s.map.now s.first s.pins s.resets)
          (IsRecording (g.B.Block.design c.clock.new.self) (g.B.Block.state c.clock.new.self) s.map.now s.first s.pins s.resets)
          (λ d u before on.
          (let r = clocked on (g.met.B.Block.is_state s.block) (g.B.Block.inputs s.block) (g.B.Block.shown s.block) row h
          (g.B.Block.design c.clock.new.self) (g.B.Block.state c.clock.new.self) c.clock.ensures.design
          (c.clock.ensures.state (g.B.Block.shown s.block) h.settled) in
          (d, r.0, Some row, r.2))) s.running;
    }

pub returns-clause-next : goal.returns-clause-next
returns-clause-next g c d u before row on driven =
    let s = c.args.self.now in
    clocked on (g.met.B.Block.is_state s.block) (g.B.Block.inputs s.block) (g.B.Block.shown s.block) row driven.0
    (g.B.Block.design c.clock.new.self) (g.B.Block.state c.clock.new.self) c.clock.ensures.design
    (c.clock.ensures.state (g.B.Block.shown s.block) driven.0.settled)
