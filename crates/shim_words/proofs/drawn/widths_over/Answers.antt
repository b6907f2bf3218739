use Rattle.std.proofs.Common.{ℕ, List, ◌++◌, ap, sym, take, ◌∙◌}
use Rattle.shim_runs.specs.trace_model.Row.{all_widths}
use Rattle.shim_words.proofs.DrawnLaws.{widths-more}
use Rattle.shim_words.proofs.drawn.widths_over.Goals as goal

pub loop-channel-preserved : goal.loop-channel-preserved
loop-channel-preserved c =
    let front = all_widths (take c.loop-channel.channel-index c.args.channels.now) in
    c.in_ok-extend_from_slice.ensures.items ∙ ap (λ (ws : List ℕ). ws ++ c.as_slice.result.now) c.loop-channel.invariant
    ∙ ap (λ (ws : List ℕ). front ++ ws) c.as_slice.ensures
    ∙ sym (widths-more c.args.channels.now c.loop-channel.channel-index c.channel-item.result c.loop-channel-test.true c.channel-item.is)
