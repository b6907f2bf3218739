use Rattle.std.proofs.Common.{Bool, List, ℕ, [], ◌++◌, cond, codes, decimal, subst}
use Rattle.text_page.specs.vidi_io.vidi_bits.Number.{has}
use Rattle.run_model.specs.trace_model.declared.channel.Channel.{Channel}
use Rattle.report_text.specs.Rows.{row_end}
use Rattle.report_text.specs.Text.{newline}
use Rattle.text_page.proofs.Items.{more_on}
use Rattle.report_text.proofs.row_lines.print_row_ends.Goals as goal

pub loop-c-preserved : goal.loop-c-preserved
loop-c-preserved g c =
    let cycle = c.args.cycle in
    let channel = c.index-channels-c.result in
    let line = decimal cycle ++ (codes " end " ++ (channel.name ++ newline)) in
    let step = subst (λ (b : Bool). g.P.Page.went c.loop-c.page c.print_end.new.page (cond b line [])) c.names-ends.ensures
    c.print_end.ensures in
    subst (λ (x : List ℕ). g.P.Page.went c.args.page.now c.print_end.new.page x)
    (more_on (λ (x : ℕ × Channel). cond (has c.args.row.now.ends x.0) (row_end cycle x) []) c.args.channels.now c.loop-c.c channel
    c.loop-c-test.true c.index-channels-c.is)
    (g.met.P.Page.onward _ _ _ _ _ c.loop-c.invariant step)
