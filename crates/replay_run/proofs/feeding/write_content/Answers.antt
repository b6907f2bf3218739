use Rattle.std.proofs.Common.{ap, ◌∙◌}
use Rattle.trace_code.specs.trace_model.Packet.{content_of}
use Rattle.trace_code.specs.trace_model.Row.{replaced}
use Rattle.run_stage.proofs.chan_monitor_lemmas.RowOfCycle.{refill-is}
use Rattle.replay_run.proofs.feeding.write_content.Goals as goal

pub returns : goal.returns
returns c t j p packet st many nth =
    let long = c.copy_content.auto.contents in
    let filled = refill-is c.args.contents.now c.copy_content.new.contents (rw c.as_mut_slice.ensures.value at long) in
    filled ∙ c.copy_content.ensures t j p packet st many nth
    ∙ ap (λ xs. replaced xs c.args.at (content_of t.channels packet c.args.cursor.now.channel)) c.as_mut_slice.ensures.value
