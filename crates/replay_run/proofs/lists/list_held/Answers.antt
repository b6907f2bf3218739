use Rattle.std.proofs.Common.{ℕ, ◌≡◌, ◌+◌, ◌-◌, ◌++◌, length, ap, subst, ◌∙◌, arith}
use Rattle.std.specs.List.{flat_map}
use Rattle.trace_code.specs.trace_model.declared.channel.Channel.{Channel}
use Rattle.run_stage.specs.run_model.Held.{controlled_in, held_event, held_in, held_reset}
use Rattle.replay_run.specs.Behind.{epoch_at, has_later}
use Rattle.replay_run.specs.Lists.{AreSpare}
use Rattle.replay_run.proofs.Listing.{spare-less, walk-done, walk-on}
use Rattle.replay_run.proofs.lists.list_held.Goals as goal

pub put_controlled-requires-clause-empty : goal.put_controlled-requires-clause-empty
put_controlled-requires-clause-empty c =
    let n = length c.args.channels.now in
    (spare-less n (n - c.loop-c.c) c.loop-c.spare.items c.take_last-list.new.self.items c.take_last-list.result c.take_last-list.ensures.items
    c.loop-c.invariant.spare).1

pub put_controlled-requires-clause-list : goal.put_controlled-requires-clause-list
put_controlled-requires-clause-list c =
    let n = length c.args.channels.now in
    (spare-less n (n - c.loop-c.c) c.loop-c.spare.items c.take_last-list.new.self.items c.take_last-list.result c.take_last-list.ensures.items
    c.loop-c.invariant.spare).2

pub loop-c-preserved : goal.loop-c-preserved
loop-c-preserved c = record {
  listed = λ t rows are same kept.
      (let here = epoch_at t c.args.cursors.now in
      let f = held_event c.args.channels.now here rows in
      walk-on (λ (d : ℕ × Channel). flat_map f (controlled_in c.args.cursors.now.epoch rows d.0 d.1.dir)) c.args.channels.now c.loop-c.c
      c.index-channels-c.result c.loop-c.out.items c.put_controlled.new.out.items
      (held_in c.args.cursors.now.epoch c.args.channels.now here rows) c.loop-c-test.true c.index-channels-c.is
      (c.put_controlled.ensures.items t rows are same kept) (c.loop-c.invariant.listed t rows are same kept));
  room = let a = c.put_controlled.ensures.len in let b = c.put_controlled.ensures.capacity in let d = c.loop-c.invariant.room in
      let l = c.loop-c-test.true in omega (arith, a, b, d, l);
  spare = let n = length c.args.channels.now in
      let l = c.loop-c-test.true in
      let e : n - c.loop-c.c ≡ n - (c.loop-c.c + 1) + 1 = omega (arith, l) in
      subst (λ k. AreSpare n k c.take_last-list.new.self.items) e
      (spare-less n (n - c.loop-c.c) c.loop-c.spare.items c.take_last-list.new.self.items c.take_last-list.result
      c.take_last-list.ensures.items c.loop-c.invariant.spare).0;
}

pub returns : goal.returns
returns c t rows are same kept =
    let here = epoch_at t c.args.cursors.now in
    let f = held_event c.args.channels.now here rows in
    let n = c.args.cursors.now.epoch in
    c.from_vec.ensures ∙ c.put_reset.ensures t rows are same kept.counts
    ∙ ap (λ hs. hs ++ held_reset n (has_later t c.args.cursors.now) c.args.channels.now here rows)
    (walk-done (λ (d : ℕ × Channel). flat_map f (controlled_in n rows d.0 d.1.dir)) c.args.channels.now c.loop-c.c c.loop-c.out.items
    (held_in n c.args.channels.now here rows) (let l = c.loop-c-test.false in omega (arith, l)) (c.loop-c.invariant.listed t rows are same kept))
