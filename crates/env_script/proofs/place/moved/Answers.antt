use Rattle.std.proofs.Common.{◌≡◌, ◌+◌, sym, ap, ◌∙◌, refl, arith, length, get_or, Some}
use Rattle.std.specs.Prelude.{slice_get}
use Rattle.std.proofs.lemmas.Option.{slice_get_read}
use Rattle.env_script.proofs.Moves.{stays_at, goes_on, ends_at}
use Rattle.env_script.proofs.place.moved.Goals as goal

pub returns-then-not-is_over : goal.returns-then-not-is_over
returns-then-not-is_over c = λ rows counts at waited.
    let steps = c.args.steps.now in let step = c.index-steps-at.result in
    let here : slice_get steps c.loop-at.at ≡ Some step =
    slice_get_read steps (length steps) c.loop-at.at step refl c.loop-at-test.true c.index-steps-at.is in
    let stands = c.loop-at.invariant.stands rows counts at waited in
    stays_at rows c.args.done.now c.args.c c.args.cycle steps step c.loop-at.place counts c.requires.channel
    (c.requires.reads c.loop-at.at step here) (ap (slice_get steps) c.loop-at.invariant.step ∙ here)
    (sym c.is_over.ensures ∙ c.if-not-is_over.true) stands.0 stands.1

pub loop-at-preserved : goal.loop-at-preserved
loop-at-preserved c = record {
  step = refl;
  stands = λ rows counts at waited.
      let steps = c.args.steps.now in let step = c.index-steps-at.result in
      let here : slice_get steps c.loop-at.at ≡ Some step =
      slice_get_read steps (length steps) c.loop-at.at step refl c.loop-at-test.true c.index-steps-at.is in
      let stands = c.loop-at.invariant.stands rows counts at waited in
      goes_on rows c.args.done.now c.args.c c.args.cycle steps step c.loop-at.place
      record { step = c.loop-at.at + 1; reached = c.args.cycle; before = get_or c.args.done.now c.args.c 0 } counts c.requires.channel
      (c.requires.reads c.loop-at.at step here) (ap (slice_get steps) c.loop-at.invariant.step ∙ here)
      (sym c.is_over.ensures ∙ c.if-not-is_over.false) (ap (λ n. n + 1) (sym c.loop-at.invariant.step)) refl refl stands.0 stands.1;
}

pub returns : goal.returns
returns c = λ rows counts at waited.
    ends_at rows c.args.c c.args.cycle c.args.steps.now c.loop-at.place (omega (arith, c.loop-at.invariant.step))
    (c.loop-at.invariant.stands rows counts at waited).0
