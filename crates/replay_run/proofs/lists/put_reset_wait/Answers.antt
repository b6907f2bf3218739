use Rattle.std.proofs.Common.{sym, ◌∙◌}
use Rattle.replay_run.proofs.Listing.{reset-waits_not, wait-last, wait-reset}
use Rattle.replay_run.proofs.lists.put_reset_wait.Goals as goal
use Rattle.replay_run.proofs.lists.put_reset_wait.Goals.{else-not-at_end-via-then-not-at_end+else-not-is_held, else-not-at_end-via-else-not-at_end}

pub at_end-requires : goal.at_end-requires
at_end-requires c = let s = c.requires.stands in (s.0, c.args.cursors.now.epoch, s.2.reset)

pub returns-then-not-is_held : goal.returns-then-not-is_held
returns-then-not-is_held c t have channels rows are is =
    wait-reset t c.args.cursors.now have are c.at_end.result c.at_end.ensures channels rows c.args.helds.now c.args.out.now.items is
    c.push_reserved.new.self.items c.reset_event-event.result c.if-not-at_end.true c.reset_event-event.ensures
    (sym c.is_held.ensures ∙ c.if-not-is_held.true) c.push_reserved.ensures.items

pub returns-else-not-at_end : goal.returns-else-not-at_end
returns-else-not-at_end c t have channels rows are is = elim c.else-not-at_end.branch [
  | else-not-at_end-via-then-not-at_end+else-not-is_held w ↦ reset-waits_not t c.args.cursors.now have are c.at_end.result c.at_end.ensures channels
      rows c.args.helds.now c.args.out.now.items is c.reset_event-event.result w.if-not-at_end.true c.reset_event-event.ensures
      (sym w.is_held.ensures ∙ w.if-not-is_held.false)
  | else-not-at_end-via-else-not-at_end w ↦ wait-last t c.args.cursors.now have are c.at_end.result c.at_end.ensures channels rows
      c.args.helds.now c.args.out.now.items is w.if-not-at_end.false
]
