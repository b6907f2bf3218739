use Rattle.std.proofs.Common.{arith, ap, ◌∙◌}
use Rattle.std.proofs.lemmas.Nat.Bits.{bit_at-zero}
use Rattle.std.specs.Int.{bit_at}
use Rattle.trace_code.proofs.Totals.{under-more, under-none}
use Rattle.trace_code.proofs.head.starts_len.Goals as goal

pub returns-then-channel-sizes : goal.returns-then-channel-sizes
returns-then-channel-sizes c =
    let past = c.if-channel-sizes.true in
    let none = under-none c.starts.left c.args.sizes.now (λ d l. c.in-Some.ensures.1.below d (omega (arith, l, past))) in
    let is = c.starts.invariant in
    omega (arith, is, none)

pub overflow_add-total : goal.overflow_add-total
overflow_add-total c =
    let more = under-more c.starts.left c.in-Some.channel c.in-Some.others c.args.sizes.now c.in-Some.ensures.1 c.if-channel-sizes.false in
    let is = c.starts.invariant in
    let small = c.requires in
    omega (arith, is, more, small)

pub starts-preserved : goal.starts-preserved
starts-preserved c =
    let more = under-more c.starts.left c.in-Some.channel c.in-Some.others c.args.sizes.now c.in-Some.ensures.1 c.if-channel-sizes.false in
    let is = c.starts.invariant in
    omega (arith, is, more)

pub returns : goal.returns
returns c =
    let none = under-none c.starts.left c.args.sizes.now (λ d l. ap (λ m. bit_at m d) c.in_default.ensures ∙ bit_at-zero d) in
    let is = c.starts.invariant in
    omega (arith, is, none)
