use Rattle.std.proofs.Common.{◌≡◌, ap, sym, subst, ◌∙◌}
use Rattle.std.specs.Io.KnownBytes.{append_known}
use Rattle.text_page.specs.vidi_io.Sink.{AppendsSome}
use Rattle.text_page.specs.Pad.{shown}
use Rattle.report_text.specs.Trace.{dump_text}
use Rattle.text_page.proofs.Printed.{mapped_ok, mapped_err, printed_ok, printed_err}
use Rattle.report_text.proofs.trace_lines.TraceLines.print.Goals as goal

pub returns-clause-ok : goal.returns-clause-ok
returns-clause-ok g c =
    let told = g.O.Sink.told in
    let same : c.new-arg-1.given ≡ c.finish.new.self.out.ghost_name =
    sym (c.finish.ensures.same ∙ c.print_trace.ensures.4 ∙ c.new-printer.ensures.same) in
    let moved = c.out-1.given.1 same in
    let text = dump_text c.args.self.trace in
    mapped_ok c.finish.result (λ whole. ap told moved
    ∙ printed_ok (told c.new-printer.result.out.now) (told c.print_trace.new.page.out.now) (told c.finish.new.self.out.now)
    (shown c.new-printer.result.pad.now) (shown c.print_trace.new.page.pad.now) (shown c.finish.new.self.pad.now)
    c.new-printer.result.lost c.print_trace.new.page.lost c.finish.new.self.lost text
    (ap shown c.new-printer.ensures.pad ∙ c.args.self.blank) c.new-printer.ensures.found c.print_trace.ensures.0 c.finish.ensures.prints
    c.finish.ensures.empty whole
    ∙ ap (λ o. append_known (told o) text) c.new-printer.ensures.out) c.finish.ensures.ok

pub returns-clause-err : goal.returns-clause-err
returns-clause-err g c =
    let told = g.O.Sink.told in
    let same : c.new-arg-1.given ≡ c.finish.new.self.out.ghost_name =
    sym (c.finish.ensures.same ∙ c.print_trace.ensures.4 ∙ c.new-printer.ensures.same) in
    let moved = c.out-1.given.1 same in
    let text = dump_text c.args.self.trace in
    mapped_err c.finish.result (λ broken.
    subst (λ o. AppendsSome (told o) (told c.out-1.given.0) text) c.new-printer.ensures.out
    (subst (λ o. AppendsSome (told c.new-printer.result.out.now) (told o) text) (sym moved)
    (printed_err (told c.new-printer.result.out.now) (told c.print_trace.new.page.out.now) (told c.finish.new.self.out.now)
    (shown c.new-printer.result.pad.now) (shown c.print_trace.new.page.pad.now) (shown c.finish.new.self.pad.now)
    c.new-printer.result.lost c.print_trace.new.page.lost c.finish.new.self.lost text
    (ap shown c.new-printer.ensures.pad ∙ c.args.self.blank) c.new-printer.ensures.found c.print_trace.ensures.0 c.finish.ensures.prints
    broken))) c.finish.ensures.err
