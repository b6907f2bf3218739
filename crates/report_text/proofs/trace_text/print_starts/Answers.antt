use Rattle.std.proofs.Common.{Bool, List, ℕ, [], ◌++◌, length, take, drop, cond, codes, decimal, ap, subst, ◌∙◌}
use Rattle.run_model.proofs.trace_model_lemmas.ContentsLemmas.{rest-on}
use Rattle.text_page.specs.vidi_io.vidi_bits.Number.{has}
use Rattle.run_model.specs.trace_model.declared.channel.Channel.{Channel}
use Rattle.report_text.specs.Text.{spaced}
use Rattle.report_text.specs.Trace.{start_line}
use Rattle.text_page.proofs.Items.{more_on}
use Rattle.report_text.proofs.Lines.{start-there}
use Rattle.report_text.proofs.trace_text.print_starts.Goals as goal

pub loop-c-preserved : goal.loop-c-preserved
loop-c-preserved g c =
    let channels = c.args.channels.now in
    let packet = c.args.packet.now in
    let number = c.args.number in
    let clock = c.args.clock.now in
    let i = c.loop-c.c in
    let channel = c.index-channels-c.result in
    let rest = c.loop-c.rest.now in
    let page = c.print_start-rest.new.page in
    let line = decimal number ++ (codes " start " ++ (channel.name ++ (spaced (take (length channel.widths) rest) ++ clock))) in
    let named = subst (λ (b : Bool). g.P.Page.went c.loop-c.page page (cond b line [])) c.names-starts.ensures
    c.print_start-rest.ensures.text in
    let step = subst (λ (x : List ℕ). g.P.Page.went c.loop-c.page page x)
    (start-there channels packet number clock i channel rest c.loop-c-test.true c.index-channels-c.is c.loop-c.invariant.rest) named in
    record {
      text = subst (λ (x : List ℕ). g.P.Page.went c.args.page.now page x)
          (more_on (λ (x : ℕ × Channel). cond (has packet.starts x.0) (start_line channels number packet clock x) []) channels i channel
          c.loop-c-test.true c.index-channels-c.is)
          (g.met.P.Page.onward _ _ _ _ _ c.loop-c.invariant.text step);
      rest = rest-on packet.starts packet.contents channels i channel rest c.print_start-rest.result.now c.loop-c-test.true
          c.index-channels-c.is c.loop-c.invariant.rest
          (c.print_start-rest.ensures.rest ∙ ap (λ b. drop (length (cond b channel.widths [])) rest) c.names-starts.ensures);
    }
