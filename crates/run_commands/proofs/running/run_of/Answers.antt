use Rattle.std.proofs.Common.{subst, sym}
use Rattle.net_design.specs.declared.design.Design.{Design}
use Rattle.bench_run.specs.run_model.MapOf.{IsMapOf}
use Rattle.run_commands.proofs.running.run_of.Goals as goal

pub run_block-requires-clause-mapped : goal.run_block-requires-clause-mapped
run_block-requires-clause-mapped c =
    subst (λ (d : Design). IsMapOf d c.args.map.now) (sym c.in_ok-sim.ensures.design) c.requires.mapped
