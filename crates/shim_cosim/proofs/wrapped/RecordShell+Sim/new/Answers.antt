use Rattle.std.proofs.Common.{None}
use Rattle.net_design.specs.Settled.{initial}
use Rattle.shim_cosim.proofs.Calls.{new_runs}
use Rattle.shim_cosim.proofs.wrapped.RecordShell+Sim.new.Goals as goal

pub invariant_of-result : goal.invariant_of-result
invariant_of-result c =
    let h = c.requires.wrapped in
    record {
      running = ∣ (
        h.1,
        initial h.1,
        None,
        new_runs h.2 c.in_ok-block.ensures.told c.as_slice-channels.result.now _ _ _ _ _ _ c.as_slice-channels.ensures
            c.in_ok-block.ensures.state c.len-first.ensures c.in_ok-pins.ensures c.in_ok-push_channels.ensures c.in_ok-resets.ensures
            c.in_ok-push_channels-2.ensures,
      ) ∣₁;
    }

pub returns-clause-runs : goal.returns-clause-runs
returns-clause-runs c f d h =
    new_runs h c.in_ok-block.ensures.told c.as_slice-channels.result.now _ _ _ _ _ _ c.as_slice-channels.ensures c.in_ok-block.ensures.state
    c.len-first.ensures c.in_ok-pins.ensures c.in_ok-push_channels.ensures c.in_ok-resets.ensures c.in_ok-push_channels-2.ensures
