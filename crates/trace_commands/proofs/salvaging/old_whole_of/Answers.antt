use Rattle.std.proofs.Common.{◌<◌, ◌^◌, length, arith}
use Rattle.vidi_answer.proofs.trace_v2_lemmas.Migrated.{splits-encoded}
use Rattle.trace_commands.proofs.salvaging.old_whole_of.Goals as goal

pub encoded-requires : goal.encoded-requires
encoded-requires c =
    let whole = c.in-Ok.ensures.salvages in
    let short = c.in-Ok.ensures.few in
    let limit = c.requires in
    let few : length c.in-Ok.trace.packets < 2 ^ 32 = omega (arith, short, limit) in
    splits-encoded c.args.file.now c.in-Ok.trace whole.0 whole.1.splits few
