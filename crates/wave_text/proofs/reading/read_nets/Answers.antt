use Rattle.std.proofs.Common.{◌++◌, false, true, refl, sym, ap, ◌∙◌}
use Rattle.vidi_lines.proofs.Parts.{is_some, is_none}
use Rattle.wave_text.specs.Reading.{nets_in}
use Rattle.wave_text.specs.Text.{last_line}
use Rattle.wave_text.proofs.ReadLines.{test-is, nets-more, nets-end, nets-over}
use Rattle.wave_text.proofs.reading.read_nets.Goals as goal

pub returns-then-eq : goal.returns-then-eq
returns-then-eq c =
    let line = c.cut_line.result.0.now in
    nets-end c.lines.path c.lines.nets c.args.text.now c.lines.rest.now line c.cut_line.result.1.now
    (is_some c.lines.rest.now (sym c.is_empty.ensures ∙ c.lines-test.true)) c.cut_line.ensures.line c.cut_line.ensures.behind
    (test-is c.eq.result line line c.as_slice.result.now last_line true refl c.as_slice.ensures c.eq.ensures c.if-eq.true) c.lines.invariant

pub lines-preserved : goal.lines-preserved
lines-preserved c =
    let line = c.cut_line.result.0.now in
    nets-more c.lines.path c.follow.new.path c.lines.nets c.declare.new.nets c.args.text.now c.lines.rest.now line c.cut_line.result.1.now
    (is_some c.lines.rest.now (sym c.is_empty.ensures ∙ c.lines-test.true)) c.cut_line.ensures.line c.cut_line.ensures.behind
    (test-is c.eq.result line line c.as_slice.result.now last_line false refl c.as_slice.ensures c.eq.ensures c.if-eq.false)
    (c.in_ok-declare.ensures ∙ ap (λ p. c.lines.nets ++ nets_in p line) c.as_slice-in-lines.ensures) c.in_ok-follow.ensures c.lines.invariant

pub returns : goal.returns
returns c = nets-over c.lines.path c.lines.nets c.args.text.now c.lines.rest.now
    (is_none c.lines.rest.now (sym c.is_empty.ensures ∙ c.lines-test.false)) c.lines.invariant
