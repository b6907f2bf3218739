use Rattle.std.proofs.Common.{[], arith, length, ap, ◌∙◌, ℕ}
use Rattle.std.proofs.lemmas.List.{length-replicate}
use Rattle.net_design.specs.Settled.{initial}
use Rattle.shim_cosim.specs.Rewrapped.{outputs_count}
use Rattle.shim_cosim.proofs.Rerun.{new_runs}
use Rattle.shim_cosim.proofs.rewrapped.RerunShell+Sim.new.Goals as goal

pub invariant_of-result : goal.invariant_of-result
invariant_of-result c =
    let h = c.requires.wrapped in
    record {
      running = ∣ (
        h.1,
        initial h.1,
        [],
        new_runs h.2 c.in_ok-block.ensures.told c.as_slice-channels.result.now _ _ _ _ _ _ c.as_slice-channels.ensures
            c.in_ok-block.ensures.state c.len-first.ensures c.in_ok-pins.ensures c.in_ok-push_channels.ensures c.in_ok-resets.ensures
            c.in_ok-push_channels-2.ensures,
      ) ∣₁;
      places =
          ap length c.in_ok-outputs.ensures ∙ length-replicate {A = ℕ} (outputs_count c.as_slice-channels.result.now) 0
          ∙ ap outputs_count c.as_slice-channels.ensures;
      few = omega arith;
    }

pub returns-clause-runs : goal.returns-clause-runs
returns-clause-runs c f d h =
    new_runs h c.in_ok-block.ensures.told c.as_slice-channels.result.now _ _ _ _ _ _ c.as_slice-channels.ensures c.in_ok-block.ensures.state
    c.len-first.ensures c.in_ok-pins.ensures c.in_ok-push_channels.ensures c.in_ok-resets.ensures c.in_ok-push_channels-2.ensures
