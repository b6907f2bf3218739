use Rattle.std.proofs.Common.{List, length, subst, sym}
use Rattle.trace_code.specs.trace_model.declared.channel.Channel.{Channel}
use Rattle.replay_run.specs.Lists.{IsKept}
use Rattle.replay_run.specs.Standing.{PlaysTo}
use Rattle.replay_run.proofs.Answering.{held-numbered_so, waits-numbered_so}
use Rattle.replay_run.proofs.replaying.outcome_of.Goals as goal

pub returns-in-Whole : goal.returns-in-Whole
returns-in-Whole c t d m n past here at same kept to =
    let feeder = c.args.feeder.now in
    let own = subst (λ (cs : List Channel). IsKept (length cs) here feeder.have c.args.last.now) same kept in
    let lists = c.held_and_waits-held in (
      subst (PlaysTo d m t.packets n past here) c.in-Whole.is to,
      held-numbered_so feeder.cursors.epoch m.channels feeder.map.now.channels t.packets past here lists.result.0 at.epoch_is (sym same)
          (lists.ensures.held t here at.behind at.same own),
      waits-numbered_so feeder.cursors.epoch m.channels feeder.map.now.channels t.packets past here lists.result.1 at.epoch_is (sym same)
          (lists.ensures.waits t here at.behind at.same own),
    )
