use Rattle.std.proofs.Common.{refl, ap, sym, ◌∙◌}
use Rattle.run_model.specs.trace_model.Channel.{between}
use Rattle.env_script.proofs.Fitting.{script_made}
use Rattle.env_script.proofs.reading.finished.Goals as goal

pub returns : goal.returns
returns c = λ channels said is. script_made channels c.args.line c.args.cycles said c.args.gathered _ is c.in_default.is
    c.in_default-number.is
    (ap (λ most. between 1 most c.args.cycles) (sym c.from.ensures) ∙ sym c.between.ensures ∙ c.if-not-between.false) refl refl refl
