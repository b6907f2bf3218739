use Rattle.std.proofs.Common.{◌≡◌, List, ℕ, take, refl, subst, sym, ◌∙◌, true}
use Rattle.std.proofs.lemmas.Bool.{false≢true}
use Rattle.std.proofs.lemmas.List.{take_all}
use Rattle.trace_code.proofs.Names.{NamesDiffer, HasName, clash, apart_more}
use Rattle.trace_code.proofs.header.names_differ.Goals as goal

pub returns-then-has_name : goal.returns-then-has_name
returns-then-has_name c =
    let cs = c.args.channels.now in
    let twice : HasName (take c.loop-i.i cs) c.index-channels-i.result.name = subst (λ (n : List ℕ). HasName (take c.loop-i.i cs) n)
    c.as_slice.ensures (c.has_name.ensures.0 c.if-has_name.true) in (
      λ e. absurd (false≢true e),
      λ apart. absurd (clash cs c.loop-i.i c.index-channels-i.result c.loop-i-test.true c.index-channels-i.is
          twice apart),
    )

pub loop-i-preserved : goal.loop-i-preserved
loop-i-preserved c =
    let cs = c.args.channels.now in
    apart_more cs c.loop-i.i c.index-channels-i.result c.loop-i-test.true c.index-channels-i.is
    (λ twice. false≢true (sym c.if-has_name.false ∙ c.has_name.ensures.1
    (subst (λ (n : List ℕ). HasName (take c.loop-i.i cs) n) (sym c.as_slice.ensures) twice)))
    c.loop-i.invariant

pub returns : goal.returns
returns c =
    let all : take c.loop-i.i c.args.channels.now ≡ c.args.channels.now = take_all _ _ c.loop-i-test.false in
    let apart = subst NamesDiffer all c.loop-i.invariant in
    let yes : true ≡ true = refl in
    (λ _. apart, λ _. yes)
