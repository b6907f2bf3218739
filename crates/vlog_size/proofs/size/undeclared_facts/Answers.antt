use Rattle.std.proofs.Common.{[], ◌∷◌, refl, arith}
use Rattle.vlog_size.specs.declared.error.SizeError.TheVariants as error
use Rattle.vlog_size.proofs.size.undeclared_facts.Goals as goal

pub returns : goal.returns
returns c = c.read_facts.ensures 0 (error.Const c.args.line ∷ []) [] (omega arith) refl refl
