use Rattle.std.proofs.Common.{◌∙◌, ap, Bool, if◌then◌else◌, None}
use Rattle.vlog_size.proofs.Reaches.{assigned_same}
use Rattle.vlog_size.proofs.evaluated.wide_number.Goals as goal

pub returns : goal.returns
returns c = λ E s.
    c.wide_from.ensures E s.facts
    (assigned_same c.args.w c.args.found.now E c.kept-n.result c.requires.1 s
    (c.kept-n.ensures ∙ ap (λ (b : Bool). if b then c.args.found.now.value else None) c.is_lawful-test.ensures))
