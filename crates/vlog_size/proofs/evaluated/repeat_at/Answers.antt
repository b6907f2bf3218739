use Rattle.vlog_size.specs.Facts.{ShowsAt}
use Rattle.vlog_size.specs.Size.{of_concat, of_repeat, times}
use Rattle.vlog_size.proofs.Reaches.{repeat_same}
use Rattle.vlog_size.proofs.evaluated.repeat_at.Goals as goal

pub returns : goal.returns
returns c = λ C parts s a.
    let unit : ShowsAt 0 c.concat_at-unit.result (of_concat c.args.line parts) = c.concat_at-unit.ensures parts a in
    c.reached.ensures (of_repeat c.args.line C parts)
    (c.repeat_facts-facts.ensures C parts a.few s (c.times-many.ensures C s) unit.facts a.none_left.parts)
    (λ h k. repeat_same c.times-many.result (times C) c.concat_at-unit.result c.args.line parts c.repeated_number-n.result unit
    (c.times-many.ensures C s) c.repeated_number-n.ensures)
