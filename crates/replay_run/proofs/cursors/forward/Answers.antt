use Rattle.std.proofs.Common.{◌+◌, ◌<◌}
use Rattle.trace_code.specs.trace_model.Epoch.{epoch}
use Rattle.trace_code.specs.trace_model.Packet.{count}
use Rattle.replay_run.specs.Behind.{IsBehind}
use Rattle.replay_run.proofs.Forward.{may-step, next, no-further, stand, stays, up-when}
use Rattle.replay_run.proofs.cursors.forward.Goals as goal

pub returns-then-not-is_in-clause-behind : goal.returns-then-not-is_in-clause-behind
returns-then-not-is_in-clause-behind c t kind channel n is =
    stays t c.args.epoch kind channel n c.args.cursor.now c.is_in.result c.if-not-is_in.true (c.is_in.ensures t kind channel n is) is

pub returns-then-not-is_in-clause-more : goal.returns-then-not-is_in-clause-more
returns-then-not-is_in-clause-more c t kind channel n is =
    no-further t c.args.epoch kind channel n c.is_in.result c.if-not-is_in.true (c.is_in.ensures t kind channel n is)

pub step-requires : goal.step-requires
step-requires c =
    let w = c.requires in
    let l = up-when c.is_in.result c.if-not-is_in.false (c.is_in.ensures w.0 w.1 w.2 w.3 w.4) in (
      w.0,
      stand w.0 c.args.epoch w.1 w.2 w.3,
      w.4.stands,
      may-step w.0 c.args.epoch w.1 w.2 w.3 c.args.cursor.now w.4 l,
    )

pub is_in-requires-2 : goal.is_in-requires-2
is_in-requires-2 c =
    let w = c.requires in
    let l = up-when c.is_in.result c.if-not-is_in.false (c.is_in.ensures w.0 w.1 w.2 w.3 w.4) in (
      w.0,
      w.1,
      w.2,
      w.3 + 1,
      next w.0 c.args.epoch w.1 w.2 w.3 c.args.cursor.now c.step.new.self w.4 l c.step.ensures.over (c.step.ensures.stands w.0),
    )

pub returns-clause-behind : goal.returns-clause-behind
returns-clause-behind c t kind channel n is =
    let l = up-when c.is_in.result c.if-not-is_in.false (c.is_in.ensures t kind channel n is) in
    next t c.args.epoch kind channel n c.args.cursor.now c.step.new.self is l c.step.ensures.over (c.step.ensures.stands t)

pub returns-clause-more : goal.returns-clause-more
returns-clause-more c t kind channel n is =
    let l = up-when c.is_in.result c.if-not-is_in.false (c.is_in.ensures t kind channel n is) in
    c.is_in-2.ensures t kind channel (n + 1)
    (next t c.args.epoch kind channel n c.args.cursor.now c.step.new.self is l c.step.ensures.over (c.step.ensures.stands t))
