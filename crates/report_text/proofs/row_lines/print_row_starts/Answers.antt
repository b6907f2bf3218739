use Rattle.std.proofs.Common.{Bool, List, ℕ, [], ◌++◌, cond, codes, decimal, subst}
use Rattle.text_page.specs.vidi_io.vidi_bits.Number.{has}
use Rattle.run_model.specs.trace_model.declared.channel.Channel.{Channel}
use Rattle.report_text.specs.Rows.{row_start}
use Rattle.report_text.specs.Text.{newline, spaced}
use Rattle.text_page.proofs.Items.{more_on}
use Rattle.report_text.proofs.RowLines.{row_rest, row_there}
use Rattle.report_text.proofs.row_lines.print_row_starts.Goals as goal

pub loop-c-preserved : goal.loop-c-preserved
loop-c-preserved g c =
    let channels = c.args.channels.now in
    let row = c.args.row.now in
    let cycle = c.args.cycle in
    let i = c.loop-c.c in
    let channel = c.index-channels-c.result in
    let rest = c.loop-c.rest.now in
    let page = c.print_row_start.new.page in
    let content = c.split_content.result.0.now in
    let line = decimal cycle ++ (codes " start " ++ (channel.name ++ (spaced content ++ newline))) in
    let named = subst (λ (b : Bool). g.P.Page.went c.loop-c.page page (cond b line [])) c.names-starts.ensures c.print_row_start.ensures in
    let step = subst (λ (x : List ℕ). g.P.Page.went c.loop-c.page page x)
    (row_there channels row cycle i channel rest content c.loop-c-test.true c.index-channels-c.is c.loop-c.invariant.rest
    c.split_content.ensures.front) named in
    record {
      text = subst (λ (x : List ℕ). g.P.Page.went c.args.page.now page x)
          (more_on (λ (x : ℕ × Channel). cond (has row.starts x.0) (row_start channels cycle row x) []) channels i channel
          c.loop-c-test.true c.index-channels-c.is)
          (g.met.P.Page.onward _ _ _ _ _ c.loop-c.invariant.text step);
      rest = row_rest row.contents channels i channel rest c.split_content.result.1.now c.loop-c-test.true c.index-channels-c.is
          c.loop-c.invariant.rest c.split_content.ensures.rest;
    }
