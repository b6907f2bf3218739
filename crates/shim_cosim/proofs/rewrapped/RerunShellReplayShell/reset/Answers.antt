use Rattle.std.proofs.Common.{arith, subst, sym}
use Rattle.net_design.specs.Pins.{FitPins}
use Rattle.shim_cosim.proofs.Recalls as calls
use Rattle.shim_cosim.proofs.Rerun.{known_resets}
use Rattle.shim_cosim.proofs.rewrapped.RerunShellReplayShell.reset.Goals as goal

pub restart-requires : goal.restart-requires
restart-requires g c =
    let s = c.args.self.now in
    subst (FitPins (g.B.Block.design s.block)) (sym c.as_slice.ensures)
    (known_resets (g.B.Block.design s.block) (g.B.Block.state s.block) s.map.now s.first s.pins s.resets s.flight s.cycles s.running)

pub invariant_of-self : goal.invariant_of-self
invariant_of-self g c =
    let s = c.args.self.now in
    record {
      running = calls.reset_running (g.B.Block.design s.block) (g.B.Block.design c.restart.new.block) (g.B.Block.state s.block)
          (g.B.Block.state c.restart.new.block) s.map.now s.first s.pins s.resets c.as_slice.result.now s.flight s.cycles c.as_slice.ensures
          c.restart.ensures.design c.restart.ensures.state s.running;
      places = s.places;
      few = omega arith;
    }

pub returns-clause-first : goal.returns-clause-first
returns-clause-first g c d u rows on =
    let s = c.args.self.now in
    calls.reset_runs (g.B.Block.design s.block) (g.B.Block.design c.restart.new.block) (g.B.Block.state s.block)
    (g.B.Block.state c.restart.new.block) s.map.now s.first s.pins s.resets c.as_slice.result.now s.flight s.cycles d u rows
    c.as_slice.ensures c.restart.ensures.design c.restart.ensures.state on
