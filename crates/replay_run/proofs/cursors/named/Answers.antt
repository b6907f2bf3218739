use Rattle.std.proofs.Common.{◌<◌, ◌^◌, ◌+◌, length, ◌≡◌, subst, arith}
use Rattle.replay_run.proofs.Forward.{cursor-there, few-channels, named-below, named-more}
use Rattle.replay_run.proofs.cursors.named.Goals as goal

pub is_in-requires : goal.is_in-requires
is_in-requires c =
    let w = c.requires in (
      w.0,
      w.1,
      c.loop-c.c,
      w.2 c.loop-c.c,
      cursor-there w.0 c.args.epoch w.1 w.2 c.args.cursors.now c.loop-c.c c.index-cursors-c.result w.3 c.loop-c-test.true c.index-cursors-c.is,
    )

pub with_bit-more-requires-clause-few : goal.with_bit-more-requires-clause-few
with_bit-more-requires-clause-few c =
    let w = c.requires in
    let there = cursor-there w.0 c.args.epoch w.1 w.2 c.args.cursors.now c.loop-c.c c.index-cursors-c.result w.3 c.loop-c-test.true c.index-cursors-c.is in
    let few = few-channels w.0 c.args.epoch w.1 c.loop-c.c (w.2 c.loop-c.c) c.index-cursors-c.result there in
    let many = w.3.many in
    let l = c.loop-c-test.true in omega (arith, few, many, l)

pub with_bit-more-requires-clause-below : goal.with_bit-more-requires-clause-below
with_bit-more-requires-clause-below c = c.loop-c.invariant.below

pub loop-c-preserved : goal.loop-c-preserved
loop-c-preserved c = record {
  below = named-below c.loop-c.c c.loop-c.more c.with_bit-more.result c.is_in.result c.loop-c.invariant.below c.with_bit-more.ensures;
  named = λ t kind have are. named-more t c.args.epoch kind have c.loop-c.c c.loop-c.more c.with_bit-more.result c.is_in.result
      c.loop-c.invariant.below c.with_bit-more.ensures
      (c.is_in.ensures t kind c.loop-c.c (have c.loop-c.c)
      (cursor-there t c.args.epoch kind have c.args.cursors.now c.loop-c.c c.index-cursors-c.result are c.loop-c-test.true c.index-cursors-c.is))
      (c.loop-c.invariant.named t kind have are);
}

pub returns : goal.returns
returns c t kind have are =
    let far = c.loop-c-test.false in
    let end = c.loop-c.auto.c-end in
    let many = are.many in
    let all : c.loop-c.c ≡ length t.channels = omega (arith, far, end, many) in
    record {
      below = subst (λ n. c.loop-c.more < 2 ^ n) all c.loop-c.invariant.below;
      more = λ d l. c.loop-c.invariant.named t kind have are d (omega (arith, l, all));
    }
