use Rattle.std.proofs.Common.{◌≡◌, ◌++◌, ◌∷◌, sym, subst, ◌∙◌, ap, drop, ◌+◌}
use Rattle.std.proofs.lemmas.List.{drop_more}
use Rattle.std.proofs.lemmas.Result.{err_from_is_err_and}
use Rattle.env_script.specs.Reasons.{form_faults, line_faults}
use Rattle.env_script.specs.Reads.{IsFirstLine}
use Rattle.env_script.proofs.Fitting.{line_refused}
use Rattle.env_script.proofs.reading.gathered.Goals as goal

pub returns-in_err-read : goal.returns-in_err-read
returns-in_err-read c =
    let p = err_from_is_err_and c.from_residual-in_err-read.result c.from_residual-in_err-read.ensures.1 in
    let channels = c.args.channels.now in
    let rest = drop (c.loop-line.line-index + 1) c.args.lines.now in
    let front : form_faults channels c.args.first c.args.lines.now
    ≡ line_faults channels c.loop-line.number c.line-item.result ++ form_faults channels (c.loop-line.number + 1) rest =
    c.loop-line.invariant.faults
    ∙ ap (form_faults channels c.loop-line.number)
    (drop_more c.args.lines.now c.loop-line.line-index c.line-item.result c.loop-line-test.true
    ∙ ap (λ x. x ∷ rest) (sym c.line-item.is)) in
    rw (p.1, p.2)
    (subst (λ faults. IsFirstLine faults c.in_err-read.field-0.0) (sym front)
    (line_refused (line_faults channels c.loop-line.number c.line-item.result) _ c.in_err-read.field-0.0 c.in_err-read.ensures))
