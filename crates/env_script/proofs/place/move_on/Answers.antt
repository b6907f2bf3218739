use Rattle.std.proofs.Common.{◌≡◌, sym, ap, ◌∙◌, subst, arith, length, get_or, Some, List}
use Rattle.std.proofs.lemmas.Option.{slice_get-get_or}
use Rattle.env_script.specs.declared.place.Place.{Place}
use Rattle.std.specs.Prelude.{slice_get}
use Rattle.env_script.specs.declared.script.Step.{Step}
use Rattle.env_script.specs.Fits.{steps_of}
use Rattle.env_script.specs.Places.{IsAt, Waited, IsMoved}
use Rattle.env_script.proofs.Moves.{steps_are, moved_more, all_moved}
use Rattle.env_script.proofs.place.move_on.Goals as goal

pub moved-requires-clause-reads : goal.moved-requires-clause-reads
moved-requires-clause-reads c = λ j step at.
    let same : c.as_slice.result.now ≡ steps_of c.args.script.now c.loop-c.c =
    steps_are c.args.script.now c.as_slice-lists.result.now c.loop-c.c c.index-lists-c.result c.as_slice.result.now
    c.as_slice-lists.ensures
    (omega (arith, ap length c.as_slice-lists.ensures, c.requires.lists, c.requires.places, c.loop-c-test.true, c.loop-c.auto.places))
    c.index-lists-c.is c.as_slice.ensures in
    c.requires.reads c.loop-c.c j step (ap (λ (xs : List Step). slice_get xs j) (sym same) ∙ at)

pub loop-c-preserved : goal.loop-c-preserved
loop-c-preserved c = λ rows counts are.
    let script = c.args.script.now in let k = c.loop-c.c in
    let from : Place = get_or c.loop-c.places k (record { step = 0; reached = 0; before = 0 }) in
    let same : c.as_slice.result.now ≡ steps_of script k =
    steps_are script c.as_slice-lists.result.now k c.index-lists-c.result c.as_slice.result.now c.as_slice-lists.ensures
    (omega (arith, ap length c.as_slice-lists.ensures, c.requires.lists, c.requires.places, c.loop-c-test.true, c.loop-c.auto.places))
    c.index-lists-c.is c.as_slice.ensures in
    let have = c.loop-c.invariant rows counts are in
    let here : slice_get c.loop-c.places k ≡ Some from = slice_get-get_or c.loop-c.places k _
    (omega (arith, c.loop-c-test.true, c.loop-c.auto.places)) in
    moved_more rows script c.loop-c.places c.args.cycle k c.moved.result have
    (subst (λ (s : List Step). IsMoved rows k s c.args.cycle c.moved.result) same
    (c.moved.ensures rows counts
    (subst (λ (s : List Step). IsAt rows k s from) (sym same) (have.are.at k from here))
    (subst (λ (s : List Step). Waited rows k s from c.args.cycle) (sym same) (have.are.waited k from here))))

pub returns : goal.returns
returns c = λ rows counts are.
    all_moved rows c.args.script.now c.loop-c.places c.args.cycle c.loop-c.c (omega arith) (c.loop-c.invariant rows counts are)
