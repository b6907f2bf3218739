use Rattle.std.proofs.Common.{◌≡◌, false, true, sym, ◌∙◌}
use Rattle.std.proofs.lemmas.Result.{err_from_is_err_and}
use Rattle.wave_text.proofs.ReadLines.{no-candidate, not-wave, not-text}
use Rattle.wave_text.proofs.reading.read_wave.Goals as goal

pub returns-in_err-wave : goal.returns-in_err-wave
returns-in_err-wave c =
    let p = err_from_is_err_and c.from_residual.result c.from_residual.ensures.1 in
    rw (p.1, p.2) (no-candidate c.args.text.now c.in_err-wave.field-0.0 c.in_err-wave.ensures)

pub returns-then-not-lawful : goal.returns-then-not-lawful
returns-then-not-lawful c = not-wave c.args.text.now c.in_ok-wave.wave c.in_ok-wave.ensures
    (λ is. let z : false ≡ true = sym c.if-not-lawful.true ∙ c.in_ok-lawful.ensures.1 is in absurd (cc))

pub returns-then-not-is_text : goal.returns-then-not-is_text
returns-then-not-is_text c = not-text c.args.text.now c.in_ok-wave.wave c.in_ok-wave.ensures
    (λ same. let z : false ≡ true = sym c.if-not-is_text.true ∙ c.is_text.ensures.1 same in absurd (cc))
