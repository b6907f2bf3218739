use Rattle.std.proofs.Common.{◌∙◌, ap, Bool, if◌then◌else◌, None}
use Rattle.vlog_size.specs.Facts.{Shows}
use Rattle.vlog_size.specs.Size.{of_concat}
use Rattle.vlog_size.proofs.Reaches.{concat_same}
use Rattle.vlog_size.proofs.evaluated.concat_at.Goals as goal

pub returns : goal.returns
returns c = λ parts s.
    let facts : Shows c.concat_facts-facts.result (of_concat c.args.line parts) =
    c.concat_facts-facts.ensures parts s.few s.none_left.parts in
    c.reached.ensures (of_concat c.args.line parts) facts
    (λ h k. concat_same c.args.all.now c.concat_facts-facts.result.width parts c.kept-n.result s facts.width
    (c.kept-n.ensures ∙ ap (λ (b : Bool). if b then c.args.all.now.number else None) c.is_lawful-test.ensures) h)
