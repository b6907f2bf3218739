use Rattle.std.proofs.Common.{◌≡◌, ℕ, ◌-◌, ◌+◌, ◌<◌, ◌≤◌, true, [], List, length, ap, refl, subst, sym, ◌∙◌, arith}
use Rattle.std.proofs.lemmas.Bool.{false≢true}
use Rattle.std.proofs.lemmas.List.{length-replicate, length_push}
use Rattle.trace_code.specs.trace_model.declared.row.Row.{Row}
use Rattle.trace_code.specs.trace_model.Epoch.{epoch}
use Rattle.run_stage.specs.chan_map.declared.pins.Map.{Map}
use Rattle.run_stage.specs.chan_replayer.Feed.{IsFeed, IsFeedOver}
use Rattle.run_stage.specs.run_model.Replay.{done}
use Rattle.run_stage.specs.run_model.Stretches.{and_stretch}
use Rattle.run_stage.specs.Stretching.{all_rows}
use Rattle.run_stage.proofs.chan_replayer_lemmas.Feeding.{none-yet}
use Rattle.run_stage.proofs.Stretching.{all-same}
use Rattle.replay_run.specs.Behind.{none_yet}
use Rattle.replay_run.specs.Output.{HasRoomFor, IsWritten}
use Rattle.replay_run.proofs.Playing.{at-trace, some-stretch, turn-back, turn-of, turn-said}
use Rattle.replay_run.proofs.feeder.FeederStretchPlayerFeed.turns.Goals as goal

pub returns-then-not-may_turn-clause-on : goal.returns-then-not-may_turn-clause-on
returns-then-not-may_turn-clause-on c stays first past here stands some ruled last =
    let self = c.args.self.now in
    let t = stands.trace in
    let says = turn-said first self past here c.args.last.now stands ruled last c.may_turn.result
    (c.may_turn.ensures t (done here) stands.at.behind) in
    ((λ turns. false≢true (sym c.if-not-may_turn.true ∙ says.1 (turns t stands.encodes))), stands)

pub follow_turn-requires-clause-stands : goal.follow_turn-requires-clause-stands
follow_turn-requires-clause-stands c =
    let w = c.requires in
    let s = w.3 in
    let h = (c.may_turn.ensures s.trace (done w.2) s.at.behind).0 c.if-not-may_turn.false in
    (s.trace, done w.2, s.at.behind, s.at.same, h.0, λ d l. (h.1 d l).ends)

pub returns-clause-turned : goal.returns-clause-turned
returns-clause-turned c comes first past here stands some ruled last =
    let self = c.args.self.now in
    let t = stands.trace in
    let e = length past in
    let now = and_stretch past here in
    let told = c.may_turn.ensures t (done here) stands.at.behind in
    let says = turn-said first self past here c.args.last.now stands ruled last c.may_turn.result told in
    let h = told.0 c.if-not-may_turn.false in
    let behind = c.follow_turn.ensures.behind t (done here) stands.at.behind h.0 (λ d l. (h.1 d l).ends) in
    let number : c.follow_turn.new.cursors.epoch ≡ length now =
    c.follow_turn.ensures.epoch ∙ ap (λ n. n + 1) stands.at.epoch_is ∙ sym (length_push past here) in
    let same = sym (all-same past here) in (
      turn-back first first.map.now refl t stands.encodes past here (says.0 c.if-not-may_turn.false),
      record {
        map = stands.map;
        most = stands.most;
        few = stands.few;
        within = subst (λ (rows : List Row). length rows ≤ first.cycles) same stands.within;
        table = stands.table;
        kept = record {
          feed = subst (λ (m : Map). IsFeedOver m.channels c.follow_turn.new.feed) stands.map c.follow_turn.ensures.over;
          long = ap length c.clear.ensures ∙ length-replicate _ 0 ∙ stands.kept.long;
          counts = λ k l. none-yet _ _ c.clear.ensures k;
          inward = stands.kept.inward;
          written = subst (λ (rows : List Row). IsWritten first.map.now.channels rows self.output) same stands.kept.written;
          room = subst (λ (rows : List Row). HasRoomFor first.map.now.channels (first.cycles - length rows) self.output) same stands.kept.room;
        };
        trace = t;
        encodes = stands.encodes;
        at = record {
          same = stands.at.same;
          epoch_is = number;
          behind = behind;
          fed = subst (λ n. IsFeed self.map.now.channels (epoch n t.packets) none_yet c.follow_turn.new.feed) number
              (c.follow_turn.ensures.feed t behind stands.at.same);
        };
      },
    )
