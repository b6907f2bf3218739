use Rattle.std.proofs.Common.{◌++◌, ap, ◌∙◌}
use Rattle.std.specs.Prelude.{slice_index}
use Rattle.run_stage.specs.run_model.Held.{awaits}
use Rattle.run_stage.specs.run_model.Replay.{done}
use Rattle.replay_run.specs.Behind.{epoch_clock}
use Rattle.replay_run.proofs.Listing.{reset-past, reset-put}
use Rattle.replay_run.proofs.lists.put_reset.Goals as goal

pub at_end-requires : goal.at_end-requires
at_end-requires c = let s = c.requires.stands in (s.0, c.args.cursors.now.epoch, s.2.reset)

pub list_awaits-requires-clause-stands : goal.list_awaits-requires-clause-stands
list_awaits-requires-clause-stands c = let s = c.requires.stands in (s.0, c.args.cursors.now.epoch, s.2.reset, s.3)

pub returns-then-not-at_end : goal.returns-then-not-at_end
returns-then-not-at_end c t rows are same counts =
    reset-put t c.args.cursors.now (done rows) are c.at_end.result c.at_end.ensures c.args.channels.now c.args.have.now rows c.from_vec.result
    c.reset_event.result c.args.out.now.items c.put_held.new.out.items c.if-not-at_end.true counts
    (λ j p packet st nth. c.from_vec.ensures ∙ c.list_awaits.ensures t j p packet st same nth
    ∙ ap (λ xs. xs ++ awaits c.args.channels.now (slice_index c.args.have.now) (epoch_clock t.packets p)) c.requires.empty)
    c.reset_event.ensures c.put_held.ensures.items

pub returns-else-not-at_end : goal.returns-else-not-at_end
returns-else-not-at_end c t rows are same counts =
    reset-past t c.args.cursors.now (done rows) are c.at_end.result c.at_end.ensures c.args.channels.now rows c.args.out.now.items c.if-not-at_end.false
