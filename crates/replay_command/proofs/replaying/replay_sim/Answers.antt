use Rattle.std.proofs.Common.{subst}
use Rattle.net_design.specs.declared.design.Design.{Design}
use Rattle.replay_run.specs.Replaying.{EndsAs}
use Rattle.vidi_bench.proofs.Chain.{if-ends}
use Rattle.replay_command.proofs.replaying.replay_sim.Goals as goal

pub returns : goal.returns
returns c =
    if-ends c.replay_block.result c.replay_block.ensures (λ a played t encodes.
    let is = played t encodes in (
      is.0,
      is.1,
      subst (λ (d : Design). EndsAs d c.args.map.now t.packets c.args.cycles is.0 is.1 a.outcome) c.in_ok-sim.ensures.design is.2,
      is.3,
    ))
