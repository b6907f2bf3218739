use Rattle.std.proofs.Common.{◌∙◌, ap, Bool, if◌then◌else◌, None}
use Rattle.vlog_size.proofs.Reaches.{shown_at}
use Rattle.vlog_size.proofs.evaluated.reached.Goals as goal

pub returns : goal.returns
returns c = λ E s same.
    shown_at c.args.wide c.args.facts c.args.n c.kept-value.result E s same
    (c.kept-value.ensures ∙ ap (λ (b : Bool). if b then c.args.n else None) c.is_reached-test.ensures)
