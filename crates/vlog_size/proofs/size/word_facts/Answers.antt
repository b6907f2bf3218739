use Rattle.std.proofs.Common.{◌∙◌, ◌++◌}
use Rattle.vlog_size.specs.Size.{part_width, part_const_faults, part_fault, part_width_faults, outside}
use Rattle.vlog_size.proofs.Firsts.{first_both}
use Rattle.vlog_size.proofs.size.word_facts.Goals as goal

pub returns : goal.returns
returns c = λ I L width n l.
    c.read_facts.ensures (part_width width 1 L) (I.const_faults ++ part_const_faults L)
    (part_fault c.args.line width L ++ ((outside c.args.limit I ++ I.width_faults) ++ part_width_faults width width L))
    l.width
    (c.either-consts.ensures ∙ first_both _ _ _ _ n.facts.const_fault l.const_fault)
    (c.either.ensures ∙ first_both _ _ _ _ l.own_fault
    (c.either-parts.ensures ∙ first_both _ _ _ _
    (c.either-index.ensures ∙ first_both _ _ _ _ (c.outside.ensures I n) n.facts.width_fault) l.width_fault))
