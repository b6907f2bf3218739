use Rattle.std.proofs.Common.{◌+◌, length, refl, ap, sym, ◌∙◌}
use Rattle.std.specs.Prelude.{IfSome}
use Rattle.std.proofs.lemmas.Option.{slice_get_read}
use Rattle.trace_code.specs.trace_model.declared.channel.Channel.{Channel}
use Rattle.trace_code.specs.trace_model.declared.event.Kind.TheVariants.{Start}
use Rattle.trace_code.specs.trace_model.declared.trace.Trace.{Trace}
use Rattle.trace_code.specs.trace_model.Packet.{count}
use Rattle.replay_run.specs.Epochs.{before_epoch}
use Rattle.replay_run.specs.Feeding.{IsClockAt}
use Rattle.replay_run.proofs.Fills.{IsEventFed, next-stands, next-within, own-ports, start-here, start-others, start-over, start-room}
use Rattle.replay_run.proofs.feeding.feed_start.Goals as goal

pub feed_event-requires-clause-stands : goal.feed_event-requires-clause-stands
feed_event-requires-clause-stands c =
    let s = c.requires.stands in
    (s.0, count Start c.args.c (before_epoch s.1 s.0.packets) + s.2, next-stands s.0 s.1 Start c.args.c s.2 c.args.cursor.now s.3, sym (ap length s.4))

pub feed_event-requires-clause-needs : goal.feed_event-requires-clause-needs
feed_event-requires-clause-needs c = c.requires.over.needs

pub feed_event-requires-clause-beside : goal.feed_event-requires-clause-beside
feed_event-requires-clause-beside c = c.requires.beside

pub write_content-requires-clause-start : goal.write_content-requires-clause-start
write_content-requires-clause-start c = c.requires.stands.3.behind.over.0

pub write_content-requires-clause-stands : goal.write_content-requires-clause-stands
write_content-requires-clause-stands c =
    let s = c.requires.stands in
    let k = c.args.cursor.now in
    let x = c.index-channels-c.result in
    let x-there = slice_get_read c.args.channels.now (length c.args.channels.now) c.args.c x refl c.requires.channel c.index-channels-c.is in (
      s.0,
      count Start c.args.c (before_epoch s.1 s.0.packets) + s.2,
      next-stands s.0 s.1 Start c.args.c s.2 k s.3,
      next-within s.0 s.1 Start c.args.c s.2 k s.3,
      own-ports c.args.channels.now s.0 s.1 c.args.c s.2 c.len-ports.result k x s.4 s.3 x-there
          (c.len-ports.ensures ∙ ap (λ (y : Channel). length y.widths) (sym c.index-channels-c.is)),
    )

pub write_content-requires-clause-room : goal.write_content-requires-clause-room
write_content-requires-clause-room c =
    let x = c.index-channels-c.result in
    let x-there = slice_get_read c.args.channels.now (length c.args.channels.now) c.args.c x refl c.requires.channel c.index-channels-c.is in
    start-room c.args.channels.now c.args.c c.args.at c.len-ports.result x c.args.feed.now.contents c.feed_event.new.feed.contents
    c.requires.over.contents c.feed_event.ensures.contents c.requires.place x-there (c.len-ports.ensures ∙ ap (λ (y : Channel). length y.widths) (sym c.index-channels-c.is))

pub returns-clause-over : goal.returns-clause-over
returns-clause-over c =
    let f = c.feed_event.ensures in
    let right : Trace → Type 0 = λ t. IfSome c.args.beside (IsClockAt t c.args.cursor.now (length c.args.channels.now) c.args.feed.now.needs) in
    let fed : IsEventFed right c.args.cursor.now (length c.args.channels.now) c.args.c c.args.feed.now c.feed_event.new.feed =
    record {
      more = f.more;
      need = f.need;
      other_more = f.other_more;
      other_needs = f.other_needs;
      needs = f.needs;
      contents = f.contents;
    } in
    let x = c.index-channels-c.result in
    let x-there = slice_get_read c.args.channels.now (length c.args.channels.now) c.args.c x refl c.requires.channel c.index-channels-c.is in
    let s = c.requires.stands in
    start-over right c.args.channels.now c.args.cursor.now (length c.args.channels.now) c.args.c c.args.feed.now c.feed_event.new.feed refl
    fed c.args.at c.len-ports.result x _ c.requires.over c.requires.place x-there (c.len-ports.ensures ∙ ap (λ (y : Channel). length y.widths) (sym c.index-channels-c.is)) refl refl
    c.write_content.ensures s.0 s.1 s.2 s.3 s.4

pub returns-clause-here : goal.returns-clause-here
returns-clause-here c t e i is-right is same =
    let f = c.feed_event.ensures in
    let right : Trace → Type 0 = λ t. IfSome c.args.beside (IsClockAt t c.args.cursor.now (length c.args.channels.now) c.args.feed.now.needs) in
    let fed : IsEventFed right c.args.cursor.now (length c.args.channels.now) c.args.c c.args.feed.now c.feed_event.new.feed =
    record {
      more = f.more;
      need = f.need;
      other_more = f.other_more;
      other_needs = f.other_needs;
      needs = f.needs;
      contents = f.contents;
    } in
    let x = c.index-channels-c.result in
    let x-there = slice_get_read c.args.channels.now (length c.args.channels.now) c.args.c x refl c.requires.channel c.index-channels-c.is in
    start-here right c.args.channels.now c.args.cursor.now (length c.args.channels.now) c.args.c c.args.feed.now c.feed_event.new.feed refl
    fed c.args.at c.len-ports.result x _ c.requires.over c.requires.place x-there (c.len-ports.ensures ∙ ap (λ (y : Channel). length y.widths) (sym c.index-channels-c.is)) refl refl
    c.write_content.ensures t e i is-right is same

pub returns-clause-others : goal.returns-clause-others
returns-clause-others c =
    let f = c.feed_event.ensures in
    let right : Trace → Type 0 = λ t. IfSome c.args.beside (IsClockAt t c.args.cursor.now (length c.args.channels.now) c.args.feed.now.needs) in
    let fed : IsEventFed right c.args.cursor.now (length c.args.channels.now) c.args.c c.args.feed.now c.feed_event.new.feed =
    record {
      more = f.more;
      need = f.need;
      other_more = f.other_more;
      other_needs = f.other_needs;
      needs = f.needs;
      contents = f.contents;
    } in
    let x = c.index-channels-c.result in
    let x-there = slice_get_read c.args.channels.now (length c.args.channels.now) c.args.c x refl c.requires.channel c.index-channels-c.is in
    let s = c.requires.stands in
    start-others right c.args.channels.now c.args.cursor.now (length c.args.channels.now) c.args.c c.args.feed.now c.feed_event.new.feed refl
    fed c.args.at c.len-ports.result x _ c.requires.over c.requires.place x-there (c.len-ports.ensures ∙ ap (λ (y : Channel). length y.widths) (sym c.index-channels-c.is)) refl refl
    c.write_content.ensures s.0 s.1 s.2 s.3 s.4
