use Rattle.std.proofs.Common.{◌≡◌, ℕ, ◌-◌, List, Some, ap, length, refl, subst, sym, ◌∙◌, arith}
use Rattle.std.specs.Prelude.{◌↔◌, slice_get}
use Rattle.std.proofs.lemmas.List.{length-replicate}
use Rattle.trace_code.specs.trace_model.declared.channel.Channel.{Channel}
use Rattle.trace_code.specs.trace_model.Channel.{IsTable}
use Rattle.trace_code.specs.trace_model.Epoch.{epoch}
use Rattle.run_stage.proofs.chan_replayer_lemmas.Feeding.{none-yet}
use Rattle.run_stage.specs.chan_replayer.Feed.{IsFeed}
use Rattle.replay_run.specs.Behind.{none_yet}
use Rattle.replay_run.specs.Output.{HasRoomFor}
use Rattle.replay_run.proofs.feeder.Feeder.new.Goals as goal

pub inward_of-inward-requires : goal.inward_of-inward-requires
inward_of-inward-requires c =
    let given = c.requires.trace in
    let table = subst IsTable given.2 given.1.0.table in
    let few = table.few in
    let e = ap length c.as_slice.ensures in
    omega (arith, few, e)

pub returns-clause-stands : goal.returns-clause-stands
returns-clause-stands c =
    let given = c.requires.trace in
    let m = c.args.map.now in
    let zeros = c.in_ok-have.ensures in
    let behind = c.in_ok-cursors.ensures.behind given.0 given.1 (c.len.ensures ∙ ap length (sym given.2)) in
    let all : c.args.cycles ≡ c.args.cycles - 0 = omega arith in
    record {
      map = refl;
      most = refl;
      few = c.requires.few;
      within = omega arith;
      table = subst IsTable given.2 given.1.0.table;
      kept = record {
        feed = c.in_ok-feed.ensures.over;
        long = ap length zeros ∙ length-replicate _ 0 ∙ c.len-2.ensures;
        counts = λ k l. none-yet _ _ zeros k;
        inward = λ k x at. c.inward_of-inward.ensures k x (ap (λ (cs : List Channel). slice_get cs k) c.as_slice.ensures ∙ at);
        written = c.in_ok-output.ensures.written;
        room = subst (λ (n : ℕ). HasRoomFor m.channels n c.in_ok-output.output) all c.in_ok-output.ensures.room;
      };
      trace = given.0;
      encodes = given.1;
      at = record {
        same = given.2;
        epoch_is = c.in_ok-cursors.ensures.first;
        behind = behind;
        fed = subst (λ e. IsFeed m.channels (epoch e given.0.packets) none_yet c.in_ok-feed.feed) c.in_ok-cursors.ensures.first
            (c.in_ok-feed.ensures.feed given.0 behind given.2);
      };
    }
