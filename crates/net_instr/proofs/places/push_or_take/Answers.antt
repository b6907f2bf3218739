use Rattle.std.proofs.Common.{◌≡◌, ℕ, List, ◌++◌, ◌∷◌, [], IfOk, MatchOption, subst, arith}
use Rattle.net_instr.specs.declared.instr.Instr.{Instr}
use Rattle.net_instr.specs.InPlace.{Follows}
use Rattle.net_instr.proofs.places.push_or_take.Goals as goal

pub returns-then-left-gt0-clause-follows : goal.returns-then-left-gt0-clause-follows
returns-then-left-gt0-clause-follows c =
    subst (λ (ps : List ℕ). IfOk c.push_apart.result (λ r. MatchOption r (Unit {0}) (λ next. (first : List ℕ) (code : List Instr)
    → Follows first ps c.args.left code c.args.out.now → Follows first ps next (code ++ c.args.instr.now ∷ []) c.push_apart.new.out)))
    c.as_slice.ensures c.push_apart.ensures.follows

pub returns-then-take_copy-clause-follows : goal.returns-then-take_copy-clause-follows
returns-then-take_copy-clause-follows c = λ first code f.
    let none : c.args.left ≡ 0 = (let h = c.if-left-gt0.false in omega (arith, h)) in
    c.take_copy.ensures.taken c.if-take_copy.true first code c.args.out.now
    (subst (λ n. Follows first c.args.places.now n code c.args.out.now) none f)

pub returns-clause-follows : goal.returns-clause-follows
returns-clause-follows c =
    subst (λ (qs : List ℕ). IfOk c.push_apart-2.result (λ r. MatchOption r (Unit {0}) (λ next. (first : List ℕ) (code : List Instr)
    → Follows first qs c.args.left code c.args.out.now
    → Follows first c.take_copy.new.places next (code ++ c.args.instr.now ∷ []) c.push_apart-2.new.out)))
    (c.take_copy.ensures.kept c.if-take_copy.false)
    (subst (λ (ps : List ℕ). IfOk c.push_apart-2.result (λ r. MatchOption r (Unit {0}) (λ next. (first : List ℕ) (code : List Instr)
    → Follows first ps c.args.left code c.args.out.now → Follows first ps next (code ++ c.args.instr.now ∷ []) c.push_apart-2.new.out)))
    c.as_slice-2.ensures c.push_apart-2.ensures.follows)
