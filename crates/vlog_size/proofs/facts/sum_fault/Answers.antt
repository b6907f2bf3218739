use Rattle.std.proofs.Common.{◌∙◌, ap, Bool}
use Rattle.vlog_size.specs.declared.error.SizeError.TheVariants as error
use Rattle.vlog_tree.specs.vidi_bits.Findings.{first, told_if}
use Rattle.vlog_size.proofs.Totals.{sum_told}
use Rattle.vlog_size.proofs.facts.sum_fault.Goals as goal

pub returns : goal.returns
returns c = λ all small same whole.
    c.told_if.ensures
    ∙ (ap (λ (b : Bool). first (told_if b (error.Width c.args.line c.args.sum))) c.is_wrong_sum-wrong.ensures
    ∙ sum_told c.args.line c.args.sum c.args.lawful all small same whole)
