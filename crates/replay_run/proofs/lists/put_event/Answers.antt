use Rattle.std.proofs.Common.{List, ◌<◌, ◌++◌, length, sym, ap, subst, ◌∙◌}
use Rattle.std.specs.Prelude.{slice_index}
use Rattle.trace_code.specs.trace_model.declared.channel.Channel.{Channel}
use Rattle.run_stage.specs.run_model.Held.{awaits, event_in}
use Rattle.run_stage.specs.run_model.Replay.{done}
use Rattle.replay_run.specs.Behind.{epoch_at, epoch_clock}
use Rattle.replay_run.proofs.Forward.{stand}
use Rattle.replay_run.proofs.Listing.{event-past, event-put}
use Rattle.replay_run.proofs.lists.put_event.Goals as goal

pub list_awaits-requires-clause-stands : goal.list_awaits-requires-clause-stands
list_awaits-requires-clause-stands c =
    let s = c.requires.stands in
    let b = c.cursor_of.ensures s.0 s.1 s.2 (subst (λ (cs : List Channel). c.args.c < length cs) (sym s.3) c.requires.channel) in
    (s.0, stand s.0 c.args.cursors.now.epoch c.args.kind c.args.c (s.1 c.args.c), b.stands, s.3)

pub returns-then-has_next-clause-items : goal.returns-then-has_next-clause-items
returns-then-has_next-clause-items c t rows are same counts =
    let there = subst (λ (cs : List Channel). c.args.c < length cs) (sym same) c.requires.channel in
    let n = c.args.cursors.now.epoch in
    event-put t n rows c.args.kind c.args.c c.cursor_of.result.now c.args.channels.now c.args.have.now c.has_next.result
    (event_in n c.args.c c.args.kind c.get.result) c.from_vec.result c.args.out.now.items c.put_held.new.out.items
    (c.cursor_of.ensures t (done rows) are there) counts c.requires.channel c.if-has_next.true (c.has_next.ensures t (done rows) are there)
    (λ j p packet st nth. c.from_vec.ensures ∙ c.list_awaits.ensures t j p packet st same nth
    ∙ ap (λ xs. xs ++ awaits c.args.channels.now (slice_index c.args.have.now) (epoch_clock t.packets p)) c.requires.empty)
    (ap (event_in n c.args.c c.args.kind) c.get.ensures) c.put_held.ensures.items

pub returns-else-has_next-clause-items : goal.returns-else-has_next-clause-items
returns-else-has_next-clause-items c t rows are same counts =
    let there = subst (λ (cs : List Channel). c.args.c < length cs) (sym same) c.requires.channel in
    event-past c.args.cursors.now.epoch (epoch_at t c.args.cursors.now) rows c.args.kind c.args.c c.args.channels.now c.has_next.result
    c.args.out.now.items c.if-has_next.false (c.has_next.ensures t (done rows) are there)
