use Rattle.std.proofs.Common.{◌≡◌, ◌-◌, max, List, All, ◌++◌, ◌∷◌, [], sym, subst, arith}
use Rattle.std.proofs.lemmas.List.Elements.{All-push}
use Rattle.net_instr.specs.declared.instr.Instr.{Instr}
use Rattle.net_instr.specs.Machine.{IsInstr}
use Rattle.net_instr.specs.InPlace.{moved_instr, most_left, Follows}
use Rattle.net_instr.proofs.InPlaceLaws.{moved_safe, follows_more}
use Rattle.net_instr.proofs.places.push_apart.Goals as goal

pub returns-clause-safe : goal.returns-clause-safe
returns-clause-safe c = λ old is.
    subst (λ (xs : List Instr). All (λ (i : Instr). IsInstr i) xs) (sym c.in_ok-push.ensures.ok)
    (All-push (λ (i : Instr). IsInstr i) c.args.out.now c.instr_at.result old
    (subst (λ (i : Instr). IsInstr i) (sym c.instr_at.ensures) (moved_safe c.args.places.now c.args.instr.now is)))

pub returns-clause-follows : goal.returns-clause-follows
returns-clause-follows c = λ first code f.
    let ps = c.args.places.now in
    let i = c.args.instr.now in
    let out = c.args.out.now in
    let next : c.max.result ≡ max (c.args.left - 1) (most_left i)
    = (let m = c.max.ensures in let s = c.saturating_sub.ensures in let l = c.left_out.ensures in omega (arith, m, s, l)) in
    subst (λ (xs : List Instr). Follows first ps c.max.result (code ++ i ∷ []) xs) (sym c.in_ok-push.ensures.ok)
    (subst (λ (j : Instr). Follows first ps c.max.result (code ++ i ∷ []) (out ++ j ∷ [])) (sym c.instr_at.ensures)
    (subst (λ n. Follows first ps n (code ++ i ∷ []) (out ++ moved_instr ps i ∷ [])) (sym next)
    (follows_more first ps c.args.left code out i c.requires.below (c.is_apart.ensures c.if-not-is_apart.false) f)))
