use Rattle.std.proofs.Common.{◌≡◌, ◌<◌, get_or, length, refl, sym, subst, arith, ap, ◌∙◌}
use Rattle.std.proofs.lemmas.Option.{same_Some, slice_get_read}
use Rattle.trace_code.specs.trace_model.declared.channel.Channel.{Channel}
use Rattle.trace_code.specs.trace_model.declared.channel.Dir.{Dir}
use Rattle.trace_code.specs.trace_model.declared.event.Kind.{Kind}
use Rattle.trace_code.specs.trace_model.Epoch.{epoch}
use Rattle.run_stage.specs.chan_replayer.declared.feed.Feed.{Feed}
use Rattle.run_stage.specs.chan_replayer.Feed.{kind_of, IsFeedAt}
use Rattle.replay_run.proofs.Fills.{beside-there, clocks-beside, fed-none, next-of, no-reset, unfed-over}
use Rattle.replay_run.proofs.feeding.feed_channel.Goals as goal

pub returns-then-not-has_next-clause-over : goal.returns-then-not-has_next-clause-over
returns-then-not-has_next-clause-over c = unfed-over c.args.channels.now c.args.c c.with_bit_as-feed.result c.args.feed.now c.requires.channel
    c.with_bit_as-feed.ensures.others c.requires.over

pub returns-then-not-has_next-clause-here : goal.returns-then-not-has_next-clause-here
returns-then-not-has_next-clause-here c t have are same but x at =
    let cs = c.args.channels.now in
    let y = c.index-channels-c.result in
    let there : c.args.c < length t.channels = (let e = ap length same in let l = c.requires.channel in omega (arith, e, l)) in
    let own : y ≡ x = same_Some y x (sym (slice_get_read cs (length cs) c.args.c y refl c.requires.channel c.index-channels-c.is) ∙ at) in
    let kind : c.kind_of-kind.result ≡ kind_of x.dir =
    c.kind_of-kind.ensures ∙ ap (λ (z : Channel). kind_of z.dir) (sym c.index-channels-c.is ∙ own) in
    let packets = epoch c.args.cursors.now.epoch t.packets in
    let old = c.args.feed.now in
    let new : Feed = record { more = c.with_bit_as-feed.result; needs = old.needs; contents = old.contents } in
    subst (λ (i : Kind). IsFeedAt cs packets i c.args.c (have c.args.c) new) kind
    (fed-none cs packets c.kind_of-kind.result c.args.c (have c.args.c) c.with_bit_as-feed.result old c.has_next.result
    c.with_bit_as-feed.ensures.here c.if-not-has_next.true (c.has_next.ensures t have are there))

pub cursor_of-cursor-requires : goal.cursor_of-cursor-requires
cursor_of-cursor-requires c =
    let s = c.requires.stands in
    let e = ap length s.3 in
    let l = c.requires.channel in
    record { kind = λ r. no-reset _ (sym c.kind_of-kind.ensures ∙ r); stands = (s.0, s.1, s.2, omega (arith, e, l)) }

pub beside-beside-requires-clause-fed : goal.beside-beside-requires-clause-fed
beside-beside-requires-clause-fed c = let m = c.without-fed.ensures.most in let l = c.requires.over.more in omega (arith, m, l)

pub feed_start-requires-clause-beside : goal.feed_start-requires-clause-beside
feed_start-requires-clause-beside c = beside-there c.args.feed.now.more c.args.left c.without-fed.result (length c.args.channels.now) c.beside-beside.result
    c.requires.over.more c.without-fed.ensures.each c.beside-beside.ensures.fed

pub feed_end-requires-clause-beside : goal.feed_end-requires-clause-beside
feed_end-requires-clause-beside c = beside-there c.args.feed.now.more c.args.left c.without-fed.result (length c.args.channels.now) c.beside-beside.result
    c.requires.over.more c.without-fed.ensures.each c.beside-beside.ensures.fed

pub feed_start-requires-clause-stands : goal.feed_start-requires-clause-stands
feed_start-requires-clause-stands c =
    let s = c.requires.stands in
    let there : c.args.c < length s.0.channels = (let e = ap length s.3 in let l = c.requires.channel in omega (arith, e, l)) in (
      s.0,
      c.args.cursors.now.epoch,
      s.1 c.args.c,
      next-of s.0 c.args.cursors.now.epoch c.kind_of-kind.result _ c.args.c (s.1 c.args.c) c.cursor_of-cursor.result.now c.has_next.result
          (c.cursor_of-cursor.ensures s.0 s.1 s.2 there) (c.has_next.ensures s.0 s.1 s.2 there) c.if-not-has_next.false
          (c.kind_of-kind.ensures ∙ ap kind_of c.in-Inward.is),
      s.3,
    )

pub feed_end-requires-clause-stands : goal.feed_end-requires-clause-stands
feed_end-requires-clause-stands c =
    let s = c.requires.stands in
    let there : c.args.c < length s.0.channels = (let e = ap length s.3 in let l = c.requires.channel in omega (arith, e, l)) in (
      s.0,
      c.args.cursors.now.epoch,
      s.1 c.args.c,
      next-of s.0 c.args.cursors.now.epoch c.kind_of-kind.result _ c.args.c (s.1 c.args.c) c.cursor_of-cursor.result.now c.has_next.result
          (c.cursor_of-cursor.ensures s.0 s.1 s.2 there) (c.has_next.ensures s.0 s.1 s.2 there) c.if-not-has_next.false
          (c.kind_of-kind.ensures ∙ ap kind_of c.in-Outward.is),
      s.3,
    )

pub returns-in-Inward-clause-here : goal.returns-in-Inward-clause-here
returns-in-Inward-clause-here c t have are same but x at =
    let cs = c.args.channels.now in
    let e = c.args.cursors.now.epoch in
    let y = c.index-channels-c.result in
    let there : c.args.c < length t.channels = (let e = ap length same in let l = c.requires.channel in omega (arith, e, l)) in
    let own : y ≡ x = same_Some y x (sym (slice_get_read cs (length cs) c.args.c y refl c.requires.channel c.index-channels-c.is) ∙ at) in
    let dir : x.dir ≡ (get_or cs c.args.c y).dir = ap (λ (z : Channel). z.dir) (sym own ∙ c.index-channels-c.is) in
    let next = next-of t e c.kind_of-kind.result _ c.args.c (have c.args.c) c.cursor_of-cursor.result.now c.has_next.result
    (c.cursor_of-cursor.ensures t have are there) (c.has_next.ensures t have are there) c.if-not-has_next.false
    (c.kind_of-kind.ensures ∙ ap kind_of c.in-Inward.is) in
    subst (λ (i : Dir). IsFeedAt cs (epoch e t.packets) (kind_of i) c.args.c (have c.args.c) c.feed_start.new.feed) (sym (dir ∙ c.in-Inward.is))
    (c.feed_start.ensures.here t e (have c.args.c)
    (clocks-beside cs t have c.args.feed.now.more c.args.left c.without-fed.result c.args.feed.now c.args.cursors.now _ c.args.c (have c.args.c)
    c.cursor_of-cursor.result.now c.beside-beside.result same c.requires.over.more c.without-fed.ensures.each but c.beside-beside.ensures.fed
    c.beside-beside.ensures.packet are next)
    next same)

pub returns-in-Outward-clause-here : goal.returns-in-Outward-clause-here
returns-in-Outward-clause-here c t have are same but x at =
    let cs = c.args.channels.now in
    let e = c.args.cursors.now.epoch in
    let y = c.index-channels-c.result in
    let there : c.args.c < length t.channels = (let e = ap length same in let l = c.requires.channel in omega (arith, e, l)) in
    let own : y ≡ x = same_Some y x (sym (slice_get_read cs (length cs) c.args.c y refl c.requires.channel c.index-channels-c.is) ∙ at) in
    let dir : x.dir ≡ (get_or cs c.args.c y).dir = ap (λ (z : Channel). z.dir) (sym own ∙ c.index-channels-c.is) in
    let next = next-of t e c.kind_of-kind.result _ c.args.c (have c.args.c) c.cursor_of-cursor.result.now c.has_next.result
    (c.cursor_of-cursor.ensures t have are there) (c.has_next.ensures t have are there) c.if-not-has_next.false
    (c.kind_of-kind.ensures ∙ ap kind_of c.in-Outward.is) in
    subst (λ (i : Dir). IsFeedAt cs (epoch e t.packets) (kind_of i) c.args.c (have c.args.c) c.feed_end.new.feed) (sym (dir ∙ c.in-Outward.is))
    (c.feed_end.ensures.here t e (have c.args.c)
    (clocks-beside cs t have c.args.feed.now.more c.args.left c.without-fed.result c.args.feed.now c.args.cursors.now _ c.args.c (have c.args.c)
    c.cursor_of-cursor.result.now c.beside-beside.result same c.requires.over.more c.without-fed.ensures.each but c.beside-beside.ensures.fed
    c.beside-beside.ensures.packet are next)
    next same)
