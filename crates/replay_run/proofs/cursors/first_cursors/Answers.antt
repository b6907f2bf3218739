use Rattle.std.proofs.Common.{◌≡◌, ◌∙◌, ◌+◌, length, ap, arith}
use Rattle.std.proofs.lemmas.List.{length_push}
use Rattle.replay_run.proofs.Forward.{opened-more}
use Rattle.replay_run.proofs.cursors.first_cursors.Goals as goal

pub loop-c-preserved : goal.loop-c-preserved
loop-c-preserved c = record {
  many = ap length c.in_ok-push.ensures.items ∙ length_push c.loop-c.cursors.items c.in_ok-new.field-0 ∙ ap (λ n. n + 1) c.loop-c.invariant.many;
  each = opened-more c.args.kind c.args.bytes.now c.loop-c.c c.loop-c.cursors.items c.push.new.self.items c.in_ok-new.field-0 c.requires.event
      c.loop-c.invariant.many c.in_ok-push.ensures.items c.in_ok-new.ensures.over c.in_ok-new.ensures.stands c.loop-c.invariant.each;
}

pub returns : goal.returns
returns c t is long =
    let far = c.loop-c-test.false in
    let end = c.loop-c.auto.c-end in
    record {
      many = (let m = c.loop-c.invariant.many in omega (arith, m, far, end, long));
      each = c.loop-c.invariant.each t is;
    }
