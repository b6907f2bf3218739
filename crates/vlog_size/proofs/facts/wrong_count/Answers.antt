use Rattle.std.proofs.Common.{◌<◌, ◌^◌, ◌∙◌, ap, Bool, arith}
use Rattle.vlog_size.specs.declared.error.SizeError.TheVariants as error
use Rattle.vlog_tree.specs.vidi_bits.Findings.{first, told_if}
use Rattle.vlog_size.proofs.Repeats.{count_told}
use Rattle.vlog_size.proofs.facts.wrong_count.Goals as goal

pub returns : goal.returns
returns c = λ all small same whole.
    let count : c.args.count < 2 ^ 32 = omega arith in
    c.told_if.ensures
    ∙ (ap (λ (b : Bool). first (told_if b (error.Width c.args.line c.repeat_width-got.result))) c.is_wrong_sum-wrong.ensures
    ∙ count_told c.args.line c.args.count c.repeat_width-got.result c.args.width c.args.lawful all count small same whole
    c.repeat_width-got.ensures)
