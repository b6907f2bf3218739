use Rattle.std.proofs.Common.{List, ℕ, ◌+◌, sym, subst, ap, ◌∙◌}
use Rattle.std.specs.Int.{bit_at}
use Rattle.trace_code.specs.trace_model.declared.channel.Channel.{Channel}
use Rattle.trace_code.specs.trace_model.Epoch.{epoch}
use Rattle.run_stage.specs.chan_replayer.Feed.{IsFeed}
use Rattle.replay_run.specs.Feeding.{IsFeedBut}
use Rattle.replay_run.proofs.Fills.{but-next}
use Rattle.replay_run.proofs.feeding.follow.Goals as goal

pub fill-requires-clause-stands : goal.fill-requires-clause-stands
fill-requires-clause-stands c =
    let s = c.requires.stands in
    (s.0, λ d. s.1 d + bit_at c.args.ends d, c.advance.ensures.behind s.0 s.1 s.2, s.3 ∙ sym c.as_slice.ensures)

pub returns-clause-feed : goal.returns-clause-feed
returns-clause-feed c t have are same is =
    let now = λ (d : ℕ). have d + bit_at c.args.ends d in
    let was = epoch c.args.cursors.now.epoch t.packets in
    subst (λ (cs : List Channel). IsFeed cs (epoch c.advance.new.self.epoch t.packets) now c.fill.new.feed) c.as_slice.ensures
    (c.fill.ensures.feed t now (c.advance.ensures.behind t have are) (same ∙ sym c.as_slice.ensures)
    (subst (λ e. IsFeedBut c.args.ends c.as_slice.result.now (epoch e t.packets) now c.args.feed.now) (sym c.advance.ensures.epoch)
    (but-next c.as_slice.result.now was have c.args.ends c.args.feed.now
    (subst (λ (cs : List Channel). IsFeed cs was have c.args.feed.now) (sym c.as_slice.ensures) is))))
