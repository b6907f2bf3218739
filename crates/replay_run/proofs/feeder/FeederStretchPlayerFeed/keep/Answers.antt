use Rattle.std.proofs.Common.{ℕ, ◌+◌, ◌-◌, ◌<◌, [], ◌∷◌, ◌++◌, List, length, ap, refl, subst, sym, ◌∙◌, arith}
use Rattle.std.specs.Int.{bit_at}
use Rattle.trace_code.specs.trace_model.declared.row.Row.{Row}
use Rattle.trace_code.specs.trace_model.Epoch.{epoch}
use Rattle.trace_code.specs.trace_model.Row.{IsOver}
use Rattle.run_stage.specs.chan_map.declared.pins.Map.{Map}
use Rattle.run_stage.specs.chan_replayer.Feed.{IsFeed, IsFeedOver}
use Rattle.run_stage.specs.run_model.Replay.{done}
use Rattle.run_stage.specs.run_model.Stretches.{rows_of}
use Rattle.run_stage.specs.Stretching.{all_rows}
use Rattle.run_stage.proofs.Stretching.{all-longer, over-last, all-more}
use Rattle.trace_code.proofs.RowsBytes.{end-within, rows-few}
use Rattle.replay_run.specs.Behind.{AreBehind}
use Rattle.replay_run.specs.Output.{HasRoomFor, IsWritten}
use Rattle.replay_run.specs.Standing.{IsNextRow, IsTurn}
use Rattle.replay_run.proofs.Playing.{done-push, kept-here, room-left}
use Rattle.replay_run.proofs.feeder.FeederStretchPlayerFeed.keep.Goals as goal

pub follow-requires-clause-stands : goal.follow-requires-clause-stands
follow-requires-clause-stands c = let s = c.requires.5 in (s.trace, done c.requires.2, s.at.behind, s.at.same)

pub push-requires-clause-over : goal.push-requires-clause-over
push-requires-clause-over c =
    let w = c.requires in
    subst (λ (m : Map). IsOver m.channels c.args.last.now) (sym w.5.map)
    (over-last w.0.map.now (IsNextRow w.0) (IsTurn w.0) w.1 w.2 c.args.last.now w.6)

pub push-requires-clause-cycle : goal.push-requires-clause-cycle
push-requires-clause-cycle c = let w = c.requires in let a = w.4 in let few = w.5.few in omega (arith, a, few)

pub push-requires-clause-end : goal.push-requires-clause-end
push-requires-clause-end c =
    let w = c.requires in
    let e = w.5.kept.written.end_is in
    let within = end-within (all_rows w.1 w.2) in
    let long = w.3 in
    omega (arith, e, within, long)

pub push-requires-clause-few : goal.push-requires-clause-few
push-requires-clause-few c =
    let w = c.requires in
    let count = w.5.kept.written.count in
    let most = rows-few w.0.map.now.channels (all_rows w.1 w.2) in
    let few = w.5.few in
    let within = w.5.within in
    omega (arith, count, most, few, within)

pub returns-clause-stands : goal.returns-clause-stands
returns-clause-stands c first past here long stands ruled =
    let w = c.requires in
    let self = c.args.self.now in
    let last = c.args.last.now in
    let all = all_rows past here in
    let next = all_rows past (here ++ last ∷ []) in
    let below : length all < first.cycles =
    (let a = w.4 in let b = w.3 in let e = w.5.most in let f = stands.most in omega (arith, a, b, e, f, long)) in
    let kept = kept-here first self past here stands in
    record {
      map = stands.map;
      most = stands.most;
      few = stands.few;
      within = (let e = all-longer past here last in omega (arith, below, e));
      table = stands.table;
      kept = record {
        feed = subst (λ (m : Map). IsFeedOver m.channels c.follow.new.feed) stands.map c.follow.ensures.over;
        long = c.add.ensures.len ∙ stands.kept.long;
        counts = λ k l. c.add.ensures.each k (let n = stands.kept.long in omega (arith, n, l))
            ∙ ap (λ n. n + bit_at last.ends k) (stands.kept.counts k l) ∙ ap (λ (f : ℕ → ℕ). f k) (done-push here last last.ends refl);
        inward = stands.kept.inward;
        written = subst (λ (m : Map). IsWritten m.channels next c.push.new.self) stands.map
            (subst (λ (rows : List Row). IsWritten self.map.now.channels rows c.push.new.self) (all-more past here last)
            (c.push.ensures.written all long kept.written));
        room = subst (λ (m : Map). HasRoomFor m.channels (first.cycles - length next) c.push.new.self) stands.map
            (c.push.ensures.room (first.cycles - length next)
            (subst (λ n. HasRoomFor self.map.now.channels n self.output) (room-left first.cycles past here last below) kept.room));
      };
      trace = stands.trace;
      encodes = stands.encodes;
      at = (let at = stands.at in
          let t = stands.trace in
          record {
            same = at.same;
            epoch_is = c.follow.ensures.epoch ∙ at.epoch_is;
            behind = subst (λ (have : ℕ → ℕ). AreBehind t have c.follow.new.cursors) (done-push here last last.ends refl)
                (c.follow.ensures.behind t (done here) at.behind);
            fed = subst (λ e. IsFeed self.map.now.channels (epoch e t.packets) (done (here ++ last ∷ [])) c.follow.new.feed)
                (c.follow.ensures.epoch ∙ at.epoch_is)
                (subst (λ (have : ℕ → ℕ). IsFeed self.map.now.channels (epoch c.follow.new.cursors.epoch t.packets) have c.follow.new.feed)
                (done-push here last last.ends refl)
                (c.follow.ensures.feed t (done here) at.behind at.same
                (subst (λ e. IsFeed self.map.now.channels (epoch e t.packets) (done here) self.feed) (sym at.epoch_is) at.fed)));
          });
    }
