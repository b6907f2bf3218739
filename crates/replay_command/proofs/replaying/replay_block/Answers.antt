use Rattle.std.proofs.Common.{[]}
use Rattle.vidi_bench.proofs.Chain.{if-ends}
use Rattle.replay_command.proofs.replaying.replay_block.Goals as goal

pub returns : goal.returns
returns g c =
    if-ends c.replay.result c.replay.ensures.replayed (λ a played t encodes.
    let is = played t (g.B.Block.design c.args.block) _ [] encodes c.in_ok-shell.ensures.runs in
    (is.past, is.here, is.ends, is.out))
