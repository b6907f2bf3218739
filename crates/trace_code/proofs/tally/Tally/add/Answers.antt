use Rattle.std.proofs.Common.{◌≡◌, ◌+◌, ◌*◌, ap, ◌∙◌, arith, get_or, length, subst}
use Rattle.std.specs.Int.{bit_at}
use Rattle.vec_clock.proofs.trace_model_lemmas.MaskLemmas.{has-from-bit}
use Rattle.trace_code.specs.Tallied.{tallied}
use Rattle.trace_code.proofs.Tallying.{once-more, some-ends, tallied-at}
use Rattle.trace_code.proofs.tally.Tally.add.Goals as goal

pub overflow_add-self : goal.overflow_add-self
overflow_add-self c =
    let was = c.args.self.now in
    let now = c.turn_to.new.self in
    let some = some-ends (length was.clock) c.args.ends c.ranges.ends.fits c.requires.below c.if-ends-eq0.false in
    let small = c.requires.small some.0 some.1 (has-from-bit c.args.ends some.0 some.2) in
    let each = subst (λ b. get_or now.clock some.0 0 + now.times * b ≡ get_or (tallied was.clock was.ends was.times) some.0 0) some.2
    (c.turn_to.ensures.each some.0 some.1) in
    omega (arith, small, each)

pub returns-clause-each : goal.returns-clause-each
returns-clause-each c k l =
    let now = c.turn_to.new.self in
    let same = c.turn_to.ensures.each k l in
    let more = once-more now.times (bit_at c.args.ends k) in
    tallied-at now.clock now.ends (now.times + 1) k (let long = c.turn_to.ensures.len in omega (arith, l, long))
    ∙ ap (λ d. get_or now.clock k 0 + (now.times + 1) * bit_at d k) c.turn_to.ensures.ends ∙ omega (arith, more, same)
