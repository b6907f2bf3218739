use Rattle.std.proofs.Common.{ℕ, sym, subst}
use Rattle.vlog_tree.specs.Plain.{plain}
use Rattle.vlog_tree.specs.Shape.{IsGood}
use Rattle.vlog_tree.specs.Tree.{FileOf}
use Rattle.wrap_command.proofs.shims.wrapped_tree.Goals as goal

pub returns-in-Ok-clause-good : goal.returns-in-Ok-clause-good
returns-in-Ok-clause-good c =
    subst (λ (f : FileOf ℕ). IsGood f) (sym c.in-Ok.ensures.tree)
    (c.wrapped_is_good.ensures (plain c.args.file.now) c.args.map.now c.requires.good c.requires.map)
