use Rattle.std.proofs.Common.{◌+◌, length, subst, arith}
use Rattle.std.proofs.lemmas.Option.{slice_get_within}
use Rattle.trace_code.specs.Standing.{StandsAt}
use Rattle.trace_code.specs.Counted.{counted}
use Rattle.trace_code.proofs.Ahead.{alike-later, alike-next}
use Rattle.trace_code.proofs.Content.{small-front}
use Rattle.trace_code.proofs.Walking.{behind, not-over, sizes-long, stands-next}
use Rattle.trace_code.proofs.cursor.Cursor.step.Goals as goal

pub skip-after-requires-clause-head : goal.skip-after-requires-clause-head
skip-after-requires-clause-head c =
    let k = c.args.self.now in
    let s = c.requires.2.0 in
    s.head (not-over c.requires.0 k.kind k.channel c.requires.1 k.head.sizes.items k.rest.now
    (counted k.clock) s c.requires.3)

pub below-self-requires-clause-channel : goal.below-self-requires-clause-channel
below-self-requires-clause-channel c =
    let k = c.args.self.now in
    let t = c.requires.0 in
    let s = c.requires.2 in
    let clock = counted k.clock in
    let l = not-over t k.kind k.channel c.requires.1 k.head.sizes.items k.rest.now clock s.0 c.requires.3 in
    let found = c.seek-self.ensures.stands t (s.0.place + 1) (c.skip-after.ensures.at t s.0.place s.0.at l) in
    let n = sizes-long t c.seek-self.new.head.sizes.items found.at.sizes_are in
    let there = slice_get_within t.channels k.channel s.1.channel s.1.at in
    omega (arith, n, there)

pub below-self-requires-clause-small : goal.below-self-requires-clause-small
below-self-requires-clause-small c =
    let k = c.args.self.now in
    let t = c.requires.0 in
    let s = c.requires.2 in
    let clock = counted k.clock in
    let l = not-over t k.kind k.channel c.requires.1 k.head.sizes.items k.rest.now clock s.0 c.requires.3 in
    let found = c.seek-self.ensures.stands t (s.0.place + 1) (c.skip-after.ensures.at t s.0.place s.0.at l) in
    let h = c.seek-self.new.head in
    let y = c.seek-self.new.tally in
    small-front t found.place h.sizes.items c.seek-self.result.now (counted y) found.at h.starts k.channel

pub returns-then-self-gt0-clause-stands : goal.returns-then-self-gt0-clause-stands
returns-then-self-gt0-clause-stands c t j s more =
    let k = c.args.self.now in
    let n = length k.head.sizes.items in
    let y = c.skip-after.new.tally in
    let clock = counted k.clock in
    let after = c.skip-after.result.now in
    let behind-it = c.skip-after.ensures.behind in
    let l = not-over t k.kind k.channel j k.head.sizes.items k.rest.now clock s.0 more in (
      stands-next t k.kind k.channel j k.head.sizes.items k.rest.now clock s.0 l after (counted y)
          (c.skip-after.ensures.at t s.0.place s.0.at l)
          (alike-next n k.head.reset k.head.starts k.head.ends k.head.len k.same k.rest.now after behind-it s.1.ahead c.if-self-gt0.true),
      record {
        channel = s.1.channel;
        at = s.1.at;
        widths = s.1.widths;
        below = s.1.below;
        ahead = alike-later n k.head.reset k.head.starts k.head.ends k.head.len k.same k.rest.now after behind-it s.1.ahead;
      },
    )

pub returns-else-self-gt0-clause-stands : goal.returns-else-self-gt0-clause-stands
returns-else-self-gt0-clause-stands c t j s more =
    let k = c.args.self.now in
    let clock = counted k.clock in
    let l = not-over t k.kind k.channel j k.head.sizes.items k.rest.now clock s.0 more in
    let n = behind t k.kind k.channel j k.head.sizes.items k.rest.now clock s.0 l in
    let found = c.seek-self.ensures.stands t (s.0.place + 1) (c.skip-after.ensures.at t s.0.place s.0.at l) in
    let h = c.seek-self.new.head in
    let y = c.seek-self.new.tally in (
      subst (λ m. StandsAt t k.kind k.channel m h.sizes.items c.seek-self.result.now (counted y) h.reset h.starts h.ends) n found,
      record { channel = s.1.channel; at = s.1.at; widths = s.1.widths; ahead = c.count_same-self.ensures; below = c.below-self.ensures },
    )
