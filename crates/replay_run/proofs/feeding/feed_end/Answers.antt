use Rattle.std.proofs.Common.{◌+◌, length, refl, ap, sym}
use Rattle.std.specs.Prelude.{IfSome}
use Rattle.trace_code.specs.trace_model.declared.event.Kind.TheVariants.{End}
use Rattle.trace_code.specs.trace_model.declared.trace.Trace.{Trace}
use Rattle.trace_code.specs.trace_model.Packet.{count}
use Rattle.replay_run.specs.Epochs.{before_epoch}
use Rattle.replay_run.specs.Feeding.{IsClockAt}
use Rattle.replay_run.proofs.Fills.{IsEventFed, end-here, event-others, event-over, next-stands}
use Rattle.replay_run.proofs.feeding.feed_end.Goals as goal

pub feed_event-requires-clause-stands : goal.feed_event-requires-clause-stands
feed_event-requires-clause-stands c =
    let s = c.requires.stands in
    (s.0, count End c.args.c (before_epoch s.1 s.0.packets) + s.2, next-stands s.0 s.1 End c.args.c s.2 c.args.cursor.now s.3, sym (ap length s.4))

pub feed_event-requires-clause-needs : goal.feed_event-requires-clause-needs
feed_event-requires-clause-needs c = c.requires.over.needs

pub feed_event-requires-clause-beside : goal.feed_event-requires-clause-beside
feed_event-requires-clause-beside c = c.requires.beside

pub returns-clause-over : goal.returns-clause-over
returns-clause-over c =
    let f = c.feed_event.ensures in
    let right : Trace → Type 0 = λ t. IfSome c.args.beside (IsClockAt t c.args.cursor.now (length c.args.channels.now) c.args.feed.now.needs) in
    let fed : IsEventFed right c.args.cursor.now (length c.args.channels.now) c.args.c c.args.feed.now c.feed_event.new.feed =
    record {
      more = f.more;
      need = f.need;
      other_more = f.other_more;
      other_needs = f.other_needs;
      needs = f.needs;
      contents = f.contents;
    } in
    event-over right c.args.channels.now c.args.cursor.now (length c.args.channels.now) c.args.c c.args.feed.now c.feed_event.new.feed refl
    fed c.requires.channel c.requires.over

pub returns-clause-here : goal.returns-clause-here
returns-clause-here c t e i is-right is same =
    let f = c.feed_event.ensures in
    let right : Trace → Type 0 = λ t. IfSome c.args.beside (IsClockAt t c.args.cursor.now (length c.args.channels.now) c.args.feed.now.needs) in
    let fed : IsEventFed right c.args.cursor.now (length c.args.channels.now) c.args.c c.args.feed.now c.feed_event.new.feed =
    record {
      more = f.more;
      need = f.need;
      other_more = f.other_more;
      other_needs = f.other_needs;
      needs = f.needs;
      contents = f.contents;
    } in
    end-here right c.args.channels.now c.args.cursor.now (length c.args.channels.now) c.args.c c.args.feed.now c.feed_event.new.feed refl
    fed t e i is-right is same

pub returns-clause-others : goal.returns-clause-others
returns-clause-others c =
    let f = c.feed_event.ensures in
    let right : Trace → Type 0 = λ t. IfSome c.args.beside (IsClockAt t c.args.cursor.now (length c.args.channels.now) c.args.feed.now.needs) in
    let fed : IsEventFed right c.args.cursor.now (length c.args.channels.now) c.args.c c.args.feed.now c.feed_event.new.feed =
    record {
      more = f.more;
      need = f.need;
      other_more = f.other_more;
      other_needs = f.other_needs;
      needs = f.needs;
      contents = f.contents;
    } in
    event-others right c.args.channels.now c.args.cursor.now (length c.args.channels.now) c.args.c c.args.feed.now c.feed_event.new.feed refl fed
