use Rattle.std.proofs.Common.{List, length, ap, sym, subst, ◌∙◌, arith}
use Rattle.trace_code.specs.trace_model.declared.channel.Channel.{Channel}
use Rattle.trace_code.specs.trace_model.Epoch.{epoch}
use Rattle.run_stage.specs.chan_replayer.Feed.{IsFeed}
use Rattle.replay_run.proofs.Fills.{but-all}
use Rattle.replay_run.proofs.feeding.refill.Goals as goal

pub returns-clause-feed : goal.returns-clause-feed
returns-clause-feed c t have are same =
    let packets = epoch c.args.cursors.now.epoch t.packets in
    subst (λ (cs : List Channel). IsFeed cs packets have c.fill.new.feed) c.as_slice.ensures
    (c.fill.ensures.feed t have are (same ∙ sym c.as_slice.ensures)
    (but-all c.as_slice.result.now packets have _ (let few = c.requires.table.few in let e = ap length c.as_slice.ensures in omega (arith, few, e))))
