use Rattle.std.proofs.Common.{ℕ, get_or, refl, arith}
use Rattle.std.specs.Prelude.{nat_lt}
use Rattle.trace_compare.specs.Walking.{early_at}
use Rattle.trace_compare.proofs.PairMarks.{marks-before, marks-on, marks-done}
use Rattle.trace_compare.proofs.pairs.early_events.Goals as goal

pub add-requires-clause-before : goal.add-requires-clause-before
add-requires-clause-before c = omega (
  arith,
  (marks-before (early_at c.args.covering.now c.args.in_a.now c.args.in_b.now) c.loop-i.i c.loop-i.tally c.loop-i.invariant).0,
  c.min-i-end.ensures,
  c.loop-i-test.true,
  c.requires.few,
)

pub add-requires-clause-marked : goal.add-requires-clause-marked
add-requires-clause-marked c = omega (
  arith,
  (marks-before (early_at c.args.covering.now c.args.in_a.now c.args.in_b.now) c.loop-i.i c.loop-i.tally c.loop-i.invariant).1,
  c.min-i-end.ensures,
  c.loop-i-test.true,
  c.requires.few,
)

pub loop-i-preserved : goal.loop-i-preserved
loop-i-preserved c =
    let i : ℕ = c.loop-i.i in
    let p : ℕ = get_or c.args.in_a.now i 0 in
    let q : ℕ = get_or c.args.in_b.now i 0 in
    let covering = c.args.covering.now in
    marks-on (λ x. nat_lt x.1 (get_or covering x.0 0)) c.args.in_a.now c.args.in_b.now i p q c.loop-i.tally c.add.new.self
    (nat_lt q (get_or covering p 0)) (omega (arith, c.min-i-end.ensures, c.loop-i-test.true)) refl refl refl c.loop-i.invariant
    c.add.ensures

pub returns : goal.returns
returns c =
    let covering = c.args.covering.now in
    marks-done (λ x. nat_lt x.1 (get_or covering x.0 0)) c.args.in_a.now c.args.in_b.now c.loop-i.i c.loop-i.tally
    (omega (arith, c.min-i-end.ensures, c.loop-i-test.false)) c.loop-i.invariant
