use Rattle.std.proofs.Common.{◌≡◌, true, arith}
use borrow.Author.Count.{below_more}
use Rattle.vlog_hierarchy.specs.Plain.{plain_outlines}
use Rattle.vlog_hierarchy.specs.Labels.{IsOpen}
use Rattle.vlog_hierarchy.proofs.Labelled.{none_open}
use Rattle.vlog_hierarchy.proofs.walk.first_open.Goals as goal

pub loop-place-preserved : goal.loop-place-preserved
loop-place-preserved c =
    below_more (λ j. IsOpen (plain_outlines c.args.outlines.now) c.args.labels.now c.args.top j → ⊥) c.loop-place.place
    c.loop-place.invariant (λ h. let yes : c.is_open.result ≡ true = c.is_open.ensures.1 h in absurd (cc))

pub returns : goal.returns
returns c =
    none_open c.args.outlines.now c.args.labels.now c.args.top c.loop-place.place (omega (arith, c.loop-place-test.false))
    c.loop-place.invariant
