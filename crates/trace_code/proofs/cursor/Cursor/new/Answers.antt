use Rattle.std.proofs.Common.{◌<◌, length, subst, List}
use Rattle.vec_clock.specs.trace_model.declared.channel.Channel.{Channel}
use Rattle.trace_code.proofs.cursor.Cursor.new.Goals as goal

pub open-requires-clause-trace : goal.open-requires-clause-trace
open-requires-clause-trace c =
    let parts = c.in_ok-channels.ensures c.requires.0 c.requires.1 in
    (c.requires.0, c.requires.1.0, parts.0, parts.1)

pub open-requires-clause-channel : goal.open-requires-clause-channel
open-requires-clause-channel c =
    subst (λ (cs : List Channel). c.args.channel < length cs) (c.in_ok-channels.ensures c.requires.0 c.requires.1).0 c.requires.2

pub returns-clause-stands : goal.returns-clause-stands
returns-clause-stands c t code =
    let parts = c.in_ok-channels.ensures t code in
    c.in_ok-cursor.ensures.stands t code.0 parts.0 parts.1
