use Rattle.std.proofs.Common.{List, Some, length, map, replicate, slice_get, refl, ap, sym, subst, ◌∙◌, ◌≡◌, ◌<◌, arith}
use Rattle.std.proofs.lemmas.Option.{slice_get_read}
use Rattle.vec_clock.specs.trace_model.declared.channel.Channel.{Channel}
use Rattle.vec_clock.specs.trace_model.Channel.{content_bytes}
use Rattle.trace_code.specs.Counted.{counted}
use Rattle.trace_code.proofs.Content.{small-front}
use Rattle.trace_code.proofs.Walking.{first-at, sizes-long, small-contents}
use Rattle.trace_code.proofs.cursor.Cursor.open.Goals as goal

pub new-head-requires-clause-some : goal.new-head-requires-clause-some
new-head-requires-clause-some c =
    let cs = c.args.channels.now in
    let y = c.in_ok-clock.clock in
    let clock = counted y in
    let sizes-are = c.in_ok-sizes.ensures ∙ ap (λ (cs : List Channel). map content_bytes cs) c.as_slice-channels.ensures in
    let zeros = c.in_ok-clock.ensures.clock ∙ ap (λ (cs : List Channel). replicate (length cs) 0) c.as_slice-channels.ensures in
    let t = c.requires.trace.0 in
    let at = first-at t cs c.in_ok-sizes.sizes.items c.args.rest.now clock c.requires.trace.1 c.requires.trace.2 c.requires.trace.3 sizes-are zeros c.in_ok-clock.ensures.epoch in
    let some = at.encoding.table.some in
    let long = sizes-long t c.in_ok-sizes.sizes.items at.sizes_are in
    omega (arith, some, long)

pub new-head-requires-clause-few : goal.new-head-requires-clause-few
new-head-requires-clause-few c =
    let cs = c.args.channels.now in
    let y = c.in_ok-clock.clock in
    let clock = counted y in
    let sizes-are = c.in_ok-sizes.ensures ∙ ap (λ (cs : List Channel). map content_bytes cs) c.as_slice-channels.ensures in
    let zeros = c.in_ok-clock.ensures.clock ∙ ap (λ (cs : List Channel). replicate (length cs) 0) c.as_slice-channels.ensures in
    let t = c.requires.trace.0 in
    let at = first-at t cs c.in_ok-sizes.sizes.items c.args.rest.now clock c.requires.trace.1 c.requires.trace.2 c.requires.trace.3 sizes-are zeros c.in_ok-clock.ensures.epoch in
    let few = at.encoding.table.few in
    let long = sizes-long t c.in_ok-sizes.sizes.items at.sizes_are in
    omega (arith, few, long)

pub new-head-requires-clause-small : goal.new-head-requires-clause-small
new-head-requires-clause-small c mask =
    let cs = c.args.channels.now in
    let y = c.in_ok-clock.clock in
    let clock = counted y in
    let sizes-are = c.in_ok-sizes.ensures ∙ ap (λ (cs : List Channel). map content_bytes cs) c.as_slice-channels.ensures in
    let zeros = c.in_ok-clock.ensures.clock ∙ ap (λ (cs : List Channel). replicate (length cs) 0) c.as_slice-channels.ensures in
    let t = c.requires.trace.0 in
    let at = first-at t cs c.in_ok-sizes.sizes.items c.args.rest.now clock c.requires.trace.1 c.requires.trace.2 c.requires.trace.3 sizes-are zeros c.in_ok-clock.ensures.epoch in
    small-contents t 0 c.in_ok-sizes.sizes.items c.args.rest.now clock at mask

pub seek-rest-requires : goal.seek-rest-requires
seek-rest-requires c =
    let cs = c.args.channels.now in
    let y = c.in_ok-clock.clock in
    let clock = counted y in
    let sizes-are = c.in_ok-sizes.ensures ∙ ap (λ (cs : List Channel). map content_bytes cs) c.as_slice-channels.ensures in
    let zeros = c.in_ok-clock.ensures.clock ∙ ap (λ (cs : List Channel). replicate (length cs) 0) c.as_slice-channels.ensures in
    let t = c.requires.trace.0 in (
      t,
      0,
      first-at t cs c.new-head.result.sizes.items c.args.rest.now clock c.requires.trace.1 c.requires.trace.2 c.requires.trace.3
          (c.new-head.ensures ∙ sizes-are) zeros c.in_ok-clock.ensures.epoch,
    )

pub below-below-requires-clause-channel : goal.below-below-requires-clause-channel
below-below-requires-clause-channel c =
    let cs = c.args.channels.now in
    let y = c.in_ok-clock.clock in
    let clock = counted y in
    let sizes-are = c.in_ok-sizes.ensures ∙ ap (λ (cs : List Channel). map content_bytes cs) c.as_slice-channels.ensures in
    let zeros = c.in_ok-clock.ensures.clock ∙ ap (λ (cs : List Channel). replicate (length cs) 0) c.as_slice-channels.ensures in
    let t = c.requires.trace.0 in
    let at = first-at t cs c.new-head.result.sizes.items c.args.rest.now clock c.requires.trace.1 c.requires.trace.2 c.requires.trace.3
    (c.new-head.ensures ∙ sizes-are) zeros c.in_ok-clock.ensures.epoch in
    let found = (c.seek-rest.ensures.stands t 0 at).at in
    let long = sizes-long t c.seek-rest.new.head.sizes.items found.sizes_are in
    let e = ap length c.requires.trace.2 in
    let l = c.requires.channel in
    omega (arith, long, e, l)

pub below-below-requires-clause-small : goal.below-below-requires-clause-small
below-below-requires-clause-small c =
    let cs = c.args.channels.now in
    let y = c.in_ok-clock.clock in
    let clock = counted y in
    let sizes-are = c.in_ok-sizes.ensures ∙ ap (λ (cs : List Channel). map content_bytes cs) c.as_slice-channels.ensures in
    let zeros = c.in_ok-clock.ensures.clock ∙ ap (λ (cs : List Channel). replicate (length cs) 0) c.as_slice-channels.ensures in
    let t = c.requires.trace.0 in
    let at = first-at t cs c.new-head.result.sizes.items c.args.rest.now clock c.requires.trace.1 c.requires.trace.2 c.requires.trace.3
    (c.new-head.ensures ∙ sizes-are) zeros c.in_ok-clock.ensures.epoch in
    let s = c.seek-rest.ensures.stands t 0 at in
    let h = c.seek-rest.new.head in
    let z = c.seek-rest.new.tally in
    small-front t s.place h.sizes.items c.seek-rest.result.now (counted z) s.at h.starts c.args.channel

pub returns-clause-stands : goal.returns-clause-stands
returns-clause-stands c t has same rest =
    let cs = c.args.channels.now in
    let y = c.in_ok-clock.clock in
    let clock = counted y in
    let sizes-are = c.in_ok-sizes.ensures ∙ ap (λ (cs : List Channel). map content_bytes cs) c.as_slice-channels.ensures in
    let zeros = c.in_ok-clock.ensures.clock ∙ ap (λ (cs : List Channel). replicate (length cs) 0) c.as_slice-channels.ensures in
    let at = first-at t cs c.new-head.result.sizes.items c.args.rest.now clock has same rest (c.new-head.ensures ∙ sizes-are) zeros c.in_ok-clock.ensures.epoch in
    let x = c.index-channels-channel.result in (
      c.seek-rest.ensures.stands t 0 at,
      record {
        channel = x;
        at = subst (λ (cs : List Channel). slice_get cs c.args.channel ≡ Some x) (c.as_slice-channels.ensures ∙ sym same)
            (slice_get_read c.as_slice-channels.result.now (length c.as_slice-channels.result.now) c.args.channel x refl
            (subst (λ (cs : List Channel). c.args.channel < length cs) (sym c.as_slice-channels.ensures) c.requires.channel)
            c.index-channels-channel.is);
        widths = c.in_ok-widths.ensures ∙ c.as_slice.ensures ∙ ap (λ (d : Channel). d.widths) (sym c.index-channels-channel.is);
        ahead = λ i l. absurd (omega (arith, l));
        below = c.below-below.ensures;
      },
    )
