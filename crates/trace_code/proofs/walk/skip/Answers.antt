use Rattle.std.proofs.Common.{◌∙◌, ap, arith, drop, length, refl, sym, replicate}
use Rattle.vec_clock.specs.trace_model.Length.{sizes_under}
use Rattle.trace_code.specs.Counted.{counted}
use Rattle.trace_code.proofs.Tallying.{tallied-long}
use Rattle.trace_code.proofs.Walking.{clock-long, counts-on, ends-below, goes-on, head-read, packet-within, shorter, small-counts, small-epoch}
use Rattle.trace_code.proofs.walk.skip.Goals as goal

pub pass-requires-clause-few : goal.pass-requires-clause-few
pass-requires-clause-few c =
    small-epoch c.requires.at.0 c.requires.at.1 c.args.head.now.sizes.items c.args.rest.now (counted c.args.tally.now) c.requires.at.2
    c.requires.at.3

pub pass-requires-clause-below : goal.pass-requires-clause-below
pass-requires-clause-below c =
    let h = c.args.head.now in
    let y = c.args.tally.now in
    let t = c.requires.at.0 in
    let p = c.requires.at.1 in
    let r = head-read t p h.sizes.items c.args.rest.now (counted y) h.reset h.starts h.ends _ c.requires.at.2 c.requires.at.3 c.requires.head refl in
    ends-below t p h.sizes.items c.args.rest.now h.reset h.starts h.ends _ r (length y.clock)
    (sym (tallied-long y.clock y.ends y.times) ∙ clock-long t p h.sizes.items c.args.rest.now (counted y) c.requires.at.2)

pub pass-requires-clause-small : goal.pass-requires-clause-small
pass-requires-clause-small c k l _ =
    let y = c.args.tally.now in
    let long = tallied-long y.clock y.ends y.times in
    small-counts c.requires.at.0 c.requires.at.1 c.args.head.now.sizes.items c.args.rest.now (counted y) c.requires.at.2
    c.requires.at.3 k (omega (arith, l, long))

pub split_at-requires : goal.split_at-requires
split_at-requires c =
    let h = c.args.head.now in
    let y = c.args.tally.now in
    let t = c.requires.at.0 in
    let p = c.requires.at.1 in
    let r = head-read t p h.sizes.items c.args.rest.now (counted y) h.reset h.starts h.ends _ c.requires.at.2 c.requires.at.3 c.requires.head refl in
    let w = packet-within t p h.sizes.items c.args.rest.now (counted y) h.reset h.starts h.ends _ c.requires.at.2 r in
    let n = h.len_is in
    omega (arith, w, n)

pub returns-clause-at : goal.returns-clause-at
returns-clause-at c t p at l =
    let h = c.args.head.now in
    let y = c.args.tally.now in
    let n = c.pass.new.self in
    let sizes = h.sizes.items in
    let rest = c.args.rest.now in
    let long = tallied-long y.clock y.ends y.times in
    let after = tallied-long n.clock n.ends n.times in
    let r = head-read t p sizes rest (counted y) h.reset h.starts h.ends _ at l c.requires.head refl in
    goes-on t p sizes rest (counted y) (counted n) c.split_at.result.1.now h.reset h.starts h.ends _ at l r
    (c.split_at.ensures.back ∙ ap (λ k. drop k rest) h.len_is)
    (counts-on t p sizes rest (counted y) (counted n) h.reset h.starts h.ends _ at r
    (after ∙ c.pass.ensures.len ∙ sym long)
    (λ e. c.pass.ensures.zeros e ∙ ap (λ k. replicate k 0) (sym long))
    (λ e k m. c.pass.ensures.each e k (omega (arith, m, long)))
    c.pass.ensures.epoch)

pub returns-clause-shorter : goal.returns-clause-shorter
returns-clause-shorter c =
    let h = c.args.head.now in
    let y = c.args.tally.now in
    let t = c.requires.at.0 in
    let p = c.requires.at.1 in
    let r = head-read t p h.sizes.items c.args.rest.now (counted y) h.reset h.starts h.ends _ c.requires.at.2 c.requires.at.3 c.requires.head refl in
    shorter t p h.sizes.items c.args.rest.now h.reset h.starts h.ends _ c.split_at.result.1.now (sizes_under h.starts h.sizes.items) r
    (c.split_at.ensures.back ∙ ap (λ k. drop k c.args.rest.now) h.len_is)
