use Rattle.std.proofs.Common.{ℕ, List, ◌++◌, ◌∷◌, [], sym, subst, arith}
use Rattle.net_instr.specs.declared.instr.Step.TheVariants.{Copy}
use Rattle.net_instr.specs.declared.instr.Instr.{Instr}
use Rattle.net_instr.specs.declared.instr.Instr.TheVariants.{Do}
use Rattle.net_instr.specs.InPlace.{Follows}
use Rattle.net_instr.proofs.InPlaceLaws.{follows_copy}
use Rattle.net_instr.proofs.places.take_copy.Goals as goal

pub returns-in-Some-clause-taken : goal.returns-in-Some-clause-taken
returns-in-Some-clause-taken c = λ t first code out f.
    let old = c.args.places.now in
    let to = c.in-Some.to in
    let from = c.in-Some.from in
    subst (λ (i : Instr). Follows first c.read_copy.new.places 0 (code ++ i ∷ []) out) (sym c.in-Some.ensures.0)
    (subst (λ (ps : List ℕ). Follows first ps 0 (code ++ Do to (Copy from) ∷ []) out) (sym c.read_copy.ensures.places)
    (follows_copy first old code out to from (let h = c.in-Some.ensures.1 in let n = c.len.ensures in omega (arith, h, n)) f))
