use Rattle.std.proofs.Common.{List, ◌<◌, set, sym, subst, ◌∙◌, ◌+◌, length, arith}
use Rattle.trace_code.specs.declared.cursor.Cursor.{Cursor}
use Rattle.replay_run.specs.Behind.{AreAt, IsBehind}
use Rattle.replay_run.proofs.Forward.{cursor-there, few-channels, moved, moved-all, moved-first, moved-none, moved-one}
use Rattle.replay_run.proofs.cursors.forward_all.Goals as goal
use Rattle.replay_run.proofs.cursors.forward_all.Goals.{then-names, else-names}

pub loop-c-init : goal.loop-c-init
loop-c-init c t kind have are = moved-first t c.args.epoch kind have c.args.ends c.args.cursors.now c.args.more are

pub forward-requires : goal.forward-requires
forward-requires c =
    let have = c.requires.2 in
    let are = c.loop-c.invariant c.requires.0 c.requires.1 have c.requires.3 in
    let k = c.index-cursors-c.result in
    let l = c.loop-c-test.true in
    let long = c.loop-c.auto.cursors in (
      c.requires.0,
      c.requires.1,
      c.loop-c.c,
      moved have c.args.ends c.loop-c.c c.loop-c.c,
      subst (IsBehind c.requires.0 c.args.epoch c.requires.1 c.loop-c.c (moved have c.args.ends c.loop-c.c c.loop-c.c)) c.index-cursors-c.is
          (cursor-there c.requires.0 c.args.epoch c.requires.1 (moved have c.args.ends c.loop-c.c) c.loop-c.cursors c.loop-c.c k are.all (omega (arith, l, long))
          c.index-cursors-c.is),
    )

pub loop-c-preserved : goal.loop-c-preserved
loop-c-preserved c t kind have are = elim c.if-names.branch [
  | then-names w ↦ (let at = c.loop-c.invariant t kind have are in
      let l = c.loop-c-test.true in
      let long = c.loop-c.auto.cursors in
      let within : c.loop-c.c < length c.loop-c.cursors = omega (arith, l, long) in
      let now = subst (IsBehind t c.args.epoch kind c.loop-c.c (moved have c.args.ends c.loop-c.c c.loop-c.c)) w.index-cursors-c.is
      (cursor-there t c.args.epoch kind (moved have c.args.ends c.loop-c.c) c.loop-c.cursors c.loop-c.c w.index-cursors-c.result at.all within w.index-cursors-c.is) in
      subst (λ (ks : List Cursor). AreAt t c.args.epoch kind (moved have c.args.ends (c.loop-c.c + 1)) ks c.if-names.left) (sym w.cursors-is)
      (subst (AreAt t c.args.epoch kind (moved have c.args.ends (c.loop-c.c + 1)) (set c.loop-c.cursors c.loop-c.c w.forward.new.cursor)) (sym w.left-is)
      (moved-one t c.args.epoch kind have c.args.ends c.loop-c.c c.loop-c.cursors c.loop-c.left w.with_bit_as-left.result w.forward.new.cursor w.forward.result within
      (sym c.names.ensures ∙ w.if-names.true) at (w.forward.ensures.behind t kind c.loop-c.c (moved have c.args.ends c.loop-c.c c.loop-c.c) now)
      (w.forward.ensures.more t kind c.loop-c.c (moved have c.args.ends c.loop-c.c c.loop-c.c) now)
      w.with_bit_as-left.ensures.here w.with_bit_as-left.ensures.others)))
  | else-names w ↦ subst (λ (ks : List Cursor). AreAt t c.args.epoch kind (moved have c.args.ends (c.loop-c.c + 1)) ks c.if-names.left) (sym w.cursors-is)
      (subst (AreAt t c.args.epoch kind (moved have c.args.ends (c.loop-c.c + 1)) c.loop-c.cursors) (sym w.left-is)
      (moved-none t c.args.epoch kind have c.args.ends c.loop-c.c c.loop-c.cursors c.loop-c.left (sym c.names.ensures ∙ w.if-names.false)
      (c.loop-c.invariant t kind have are)))
]

pub with_bit_as-left-requires : goal.with_bit_as-left-requires
with_bit_as-left-requires c =
    let have = c.requires.2 in
    let are = c.loop-c.invariant c.requires.0 c.requires.1 have c.requires.3 in
    let k = c.index-cursors-c.result in
    let l = c.loop-c-test.true in
    let long = c.loop-c.auto.cursors in
    let m = are.all.many in
    let few = few-channels c.requires.0 c.args.epoch c.requires.1 c.loop-c.c (moved have c.args.ends c.loop-c.c c.loop-c.c) k
    (cursor-there c.requires.0 c.args.epoch c.requires.1 (moved have c.args.ends c.loop-c.c) c.loop-c.cursors c.loop-c.c k are.all (omega (arith, l, long))
    c.index-cursors-c.is) in
    omega (arith, l, long, m, few)

pub returns : goal.returns
returns c t kind have are = moved-all t c.args.epoch kind have c.args.ends c.loop-c.c c.loop-c.cursors c.loop-c.left
    (let l = c.loop-c-test.false in let long = c.loop-c.auto.cursors in omega (arith, l, long)) (c.loop-c.invariant t kind have are)
