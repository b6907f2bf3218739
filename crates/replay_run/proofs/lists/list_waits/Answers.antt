use Rattle.std.proofs.Common.{List, ℕ, ◌<◌, ◌++◌, length, sym, ap, subst, ◌∙◌, arith}
use Rattle.std.specs.List.{enumerate_from, flat_map}
use Rattle.trace_code.specs.trace_model.declared.channel.Channel.{Channel}
use Rattle.run_stage.specs.run_model.Held.{waits_reset}
use Rattle.run_stage.specs.run_model.Replay.{done}
use Rattle.replay_run.specs.Behind.{epoch_at, has_later}
use Rattle.replay_run.specs.Lists.{IsKept}
use Rattle.replay_run.proofs.Listing.{waits_on, waits-plain, walk-done, walk-on}
use Rattle.replay_run.proofs.lists.list_waits.Goals as goal

pub loop-c-preserved : goal.loop-c-preserved
loop-c-preserved c = record {
  listed = λ t rows are same kept.
      (let g = λ (d : ℕ × Channel). waits_on c.args.helds.now c.args.cursors.now.epoch (epoch_at t c.args.cursors.now) rows d.0 in
      let own = subst (λ (cs : List Channel). IsKept (length cs) rows c.args.have.now c.args.last.now) (sym same) kept in
      let within = subst (λ (cs : List Channel). c.loop-c.c < length cs) (sym same) c.loop-c-test.true in
      walk-on g c.args.channels.now c.loop-c.c c.index-channels-c.result c.loop-c.out.items c.put_wait.new.out.items
      (flat_map g (enumerate_from 0 c.args.channels.now)) c.loop-c-test.true c.index-channels-c.is (c.put_wait.ensures.items t rows are own within)
      (c.loop-c.invariant.listed t rows are same kept));
  room = let a = c.put_wait.ensures.len in let b = c.put_wait.ensures.capacity in let d = c.loop-c.invariant.room in
      let l = c.loop-c-test.true in omega (arith, a, b, d, l);
}

pub returns : goal.returns
returns c t rows are same kept helds-are =
    let n = c.args.cursors.now.epoch in
    let here = epoch_at t c.args.cursors.now in
    let more = has_later t c.args.cursors.now in
    let g = λ (d : ℕ × Channel). waits_on c.args.helds.now n here rows d.0 in
    c.from_vec.ensures ∙ c.put_reset_wait.ensures t (done rows) c.args.channels.now rows are helds-are
    ∙ ap (λ es. es ++ waits_reset n more c.args.channels.now here rows)
    (walk-done g c.args.channels.now c.loop-c.c c.loop-c.out.items (flat_map g (enumerate_from 0 c.args.channels.now))
    (let l = c.loop-c-test.false in omega (arith, l)) (c.loop-c.invariant.listed t rows are same kept)
    ∙ waits-plain c.args.helds.now n more here rows c.args.channels.now helds-are)
