use Rattle.std.proofs.Common.{List, ℕ, subst}
use Rattle.run_model.specs.trace_model.declared.channel.Channel.{Channel}
use Rattle.report_text.specs.Trace.{channel_line}
use Rattle.text_page.proofs.Items.{more_on}
use Rattle.report_text.proofs.trace_text.print_channels.Goals as goal

pub loop-number-preserved : goal.loop-number-preserved
loop-number-preserved g c =
    subst (λ (x : List ℕ). g.P.Page.went c.args.page.now c.print_channel.new.page x)
    (more_on (λ (x : ℕ × Channel). channel_line x.0 x.1) c.args.channels.now c.loop-number.number c.index-channels-number.result
    c.loop-number-test.true c.index-channels-number.is)
    (g.met.P.Page.onward _ _ _ _ _ c.loop-number.invariant c.print_channel.ensures)
