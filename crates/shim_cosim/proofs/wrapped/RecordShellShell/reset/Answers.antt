use Rattle.std.proofs.Common.{None, subst, sym}
use Rattle.net_design.specs.Pins.{FitPins}
use Rattle.shim_cosim.proofs.Calls as calls
use Rattle.shim_cosim.proofs.Shells.{known_reset, runs_on}
use Rattle.shim_cosim.specs.Recording.{IsRecording}
use Rattle.shim_cosim.proofs.wrapped.RecordShellShell.reset.Goals as goal

pub restart-requires : goal.restart-requires
restart-requires g c =
    let s = c.args.self.now in
    subst (FitPins (g.B.Block.design s.block)) (sym c.as_slice.ensures) (known_reset s.running)

pub invariant_of-self : goal.invariant_of-self
invariant_of-self g c =
    let s = c.args.self.now in
    record {
      running = runs_on (IsRecording (g.B.Block.design s.block) (g.B.Block.state s.block) s.map.now s.first s.pins s.resets)
          (IsRecording (g.B.Block.design c.restart.new.block) (g.B.Block.state c.restart.new.block) s.map.now s.first s.pins s.resets)
          (λ d u before on.
          (let r = calls.reset_runs (g.B.Block.design s.block) (g.B.Block.design c.restart.new.block) (g.B.Block.state s.block)
          (g.B.Block.state c.restart.new.block) s.map.now s.first s.pins s.resets c.as_slice.result.now d u before c.as_slice.ensures
          c.restart.ensures.design c.restart.ensures.state on in
          (d, r.0, None, r.2))) s.running;
    }

pub returns-clause-first : goal.returns-clause-first
returns-clause-first g c d u before on =
    let s = c.args.self.now in
    calls.reset_runs (g.B.Block.design s.block) (g.B.Block.design c.restart.new.block) (g.B.Block.state s.block)
    (g.B.Block.state c.restart.new.block) s.map.now s.first s.pins s.resets c.as_slice.result.now d u before c.as_slice.ensures
    c.restart.ensures.design c.restart.ensures.state on
