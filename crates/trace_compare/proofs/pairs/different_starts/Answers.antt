use Rattle.std.proofs.Common.{ℕ, get_or, refl, arith}
use Rattle.trace_compare.specs.Findings.{differs}
use Rattle.trace_compare.specs.Walking.{no_packet, differing_at}
use Rattle.trace_compare.proofs.PairMarks.{marks-before, marks-on, marks-done, unequal-at}
use Rattle.trace_compare.proofs.pairs.different_starts.Goals as goal

pub add-requires-clause-before : goal.add-requires-clause-before
add-requires-clause-before c = omega (
  arith,
  (marks-before (differing_at c.args.channels.now c.args.channel c.args.a.now c.args.b.now c.args.in_a.now c.args.in_b.now) c.loop-i.i
      c.loop-i.tally c.loop-i.invariant).0,
  c.min-i-end.ensures,
  c.loop-i-test.true,
  c.requires.few,
)

pub add-requires-clause-marked : goal.add-requires-clause-marked
add-requires-clause-marked c = omega (
  arith,
  (marks-before (differing_at c.args.channels.now c.args.channel c.args.a.now c.args.b.now c.args.in_a.now c.args.in_b.now) c.loop-i.i
      c.loop-i.tally c.loop-i.invariant).1,
  c.min-i-end.ensures,
  c.loop-i-test.true,
  c.requires.few,
)

pub loop-i-preserved : goal.loop-i-preserved
loop-i-preserved c =
    let i : ℕ = c.loop-i.i in
    let k : ℕ = c.args.channel in
    let channels = c.args.channels.now in
    let a = c.args.a.now in
    let b = c.args.b.now in
    let p : ℕ = get_or c.args.in_a.now i 0 in
    let q : ℕ = get_or c.args.in_b.now i 0 in
    marks-on (λ x. differs channels k ((x.0, get_or a x.0 no_packet), (x.1, get_or b x.1 no_packet))) c.args.in_a.now c.args.in_b.now i p q
    c.loop-i.tally c.add.new.self c.ne.result (omega (arith, c.min-i-end.ensures, c.loop-i-test.true)) refl refl
    (unequal-at channels k a b p q c.index-a-in_a.result c.index-b-in_b.result c.content-one.result.now c.content-other.result.now
    c.ne.result
    (c.requires.in_a i 0 (omega (arith, c.min-i-end.ensures, c.loop-i-test.true)))
    (c.requires.in_b i 0 (omega (arith, c.min-i-end.ensures, c.loop-i-test.true)))
    c.index-a-in_a.is c.index-b-in_b.is c.content-one.ensures c.content-other.ensures c.ne.ensures)
    c.loop-i.invariant c.add.ensures

pub returns : goal.returns
returns c =
    let channels = c.args.channels.now in
    let a = c.args.a.now in
    let b = c.args.b.now in
    marks-done (λ x. differs channels c.args.channel ((x.0, get_or a x.0 no_packet), (x.1, get_or b x.1 no_packet))) c.args.in_a.now
    c.args.in_b.now c.loop-i.i c.loop-i.tally (omega (arith, c.min-i-end.ensures, c.loop-i-test.false)) c.loop-i.invariant
