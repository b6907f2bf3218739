use Rattle.std.proofs.Common.{◌≡◌, drop}
use Rattle.std.specs.List.{flat_map}
use Rattle.net_design.specs.declared.act.Code.{Code}
use Rattle.net_design.specs.declared.act.Timing.TheVariants.{Nonblocking}
use Rattle.net_design.specs.Updates.{apply, block_updates}
use Rattle.net_design.specs.Settled.{next}
use Rattle.net_reference.proofs.reference.next_state.Given as goal

abbrev pub invariant-loop-block : goal.invariant-loop-block
invariant-loop-block l =
    apply (flat_map (λ (c : Code). block_updates Nonblocking c.acts l.values) (drop l.block-index l.block-items)) l.after
    ≡ next l.design l.values l.state
