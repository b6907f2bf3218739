use Rattle.std.proofs.Common.{◌*◌, length, ap, ◌∙◌}
use Rattle.std.proofs.lemmas.List.{length-replicate}
use Rattle.trace_code.specs.trace_model.declared.row.Row.{Row}
use Rattle.replay_run.proofs.Fills.{zero-feed}
use Rattle.replay_run.proofs.feeding.feed_over.Goals as goal

pub returns : goal.returns
returns c = zero-feed c.args.channels.now c.len.result c.in_ok-needs.needs c.in_ok-row.row.contents c.len.ensures
    (ap length c.in_ok-needs.ensures ∙ length-replicate (c.len.result * c.len.result) 0) (ap (λ (r : Row). r.contents) c.in_ok-row.ensures)
