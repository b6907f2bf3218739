use Rattle.std.proofs.Common.{List, All, take, sym, subst, rules}
use Rattle.std.proofs.lemmas.List.{take_more, take_all}
use Rattle.std.proofs.lemmas.List.Elements.{All-push}
use Rattle.net_instr.specs.declared.instr.Instr.{Instr}
use Rattle.net_instr.specs.Needs.{HasWordsBehind}
use Rattle.net_instr.proofs.needs.have_words_behind.Goals as goal

pub loop-instr-preserved : goal.loop-instr-preserved
loop-instr-preserved c =
    let l = c.loop-instr in
    let ps = c.args.places.now in
    let code = c.args.code.now in
    subst (λ (xs : List Instr). All (λ (i : Instr). HasWordsBehind ps i) xs) (sym (take_more code l.instr-index _ c.loop-instr-test.true))
    (All-push (λ (i : Instr). HasWordsBehind ps i) (take l.instr-index code) _ l.invariant (c.has_words_behind.ensures (search rules)))

pub returns : goal.returns
returns c = λ h.
    let l = c.loop-instr in
    let ps = c.args.places.now in
    let code = c.args.code.now in
    subst (λ (xs : List Instr). All (λ (i : Instr). HasWordsBehind ps i) xs) (take_all l.instr-index code c.loop-instr-test.false) l.invariant
