use Rattle.std.proofs.Common.{List, ℕ, subst, sym, length, ◌<◌, ◌++◌, arith}
use Rattle.std.specs.Prelude.{slice_index}
use Rattle.trace_code.specs.trace_model.declared.channel.Channel.{Channel}
use Rattle.run_stage.specs.run_model.Held.{await_on, awaits}
use Rattle.replay_run.specs.Behind.{epoch_clock}
use Rattle.replay_run.proofs.Listing.{await-here, walk-done, walk-on}
use Rattle.replay_run.proofs.lists.list_awaits.Goals as goal

pub loop-c-preserved : goal.loop-c-preserved
loop-c-preserved c = record {
  listed = λ t j p packet s same is.
      (let have = slice_index c.args.have.now in
      let need = epoch_clock t.packets p in
      walk-on (λ (d : ℕ × Channel). await_on have need d.0) c.args.channels.now c.loop-c.c c.index-channels-c.result c.loop-c.out.items
      c.put_await.new.out.items (c.args.out.now.items ++ awaits c.args.channels.now have need) c.loop-c-test.true c.index-channels-c.is
      (await-here have need c.loop-c.c c.get.result c.need-need.result c.loop-c.out.items c.put_await.new.out.items c.get.ensures
      (c.need-need.ensures t j p packet s (subst (λ (cs : List Channel). c.loop-c.c < length cs) (sym same) c.loop-c-test.true) is)
      c.put_await.ensures.items)
      (c.loop-c.invariant.listed t j p packet s same is));
  room = let a = c.put_await.ensures.len in let b = c.put_await.ensures.capacity in let d = c.loop-c.invariant.room in
      let l = c.loop-c-test.true in omega (arith, a, b, d, l);
}

pub returns : goal.returns
returns c t j p packet s same is =
    let have = slice_index c.args.have.now in
    let need = epoch_clock t.packets p in
    walk-done (λ (d : ℕ × Channel). await_on have need d.0) c.args.channels.now c.loop-c.c c.loop-c.out.items
    (c.args.out.now.items ++ awaits c.args.channels.now have need) (let l = c.loop-c-test.false in omega (arith, l))
    (c.loop-c.invariant.listed t j p packet s same is)
