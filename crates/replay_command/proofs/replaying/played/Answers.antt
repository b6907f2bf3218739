use Rattle.std.proofs.Common.{refl}
use Rattle.replay_run.specs.run_stage.Stretching.{all_rows}
use Rattle.vidi_bench.proofs.Chain.{if-ends}
use Rattle.replay_command.proofs.replaying.played.Goals as goal

pub returns : goal.returns
returns c =
    if-ends c.replay_sim.result c.replay_sim.ensures (λ a played t encodes.
    let is = played t encodes in
    (all_rows is.0 is.1, record { past = is.0; here = is.1; ends = is.2; rows_are = refl }, is.3))
