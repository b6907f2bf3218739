use Rattle.std.proofs.Common.{◌++◌, ◌<◌, List, ℕ, length, false, replicate, ap, sym, ◌∙◌, arith}
use Rattle.std.specs.Prelude.{slice_index}
use Rattle.std.proofs.lemmas.List.{length-map}
use Rattle.vlog_hierarchy.specs.Plain.{plain_outline, plain_outlines}
use Rattle.vlog_hierarchy.specs.Nested.{kids}
use Rattle.vlog_hierarchy.specs.Reach.{fresh}
use Rattle.vlog_hierarchy.proofs.Reaching.{unmarked_long, start_at, next_at, place_within, end_reach}
use Rattle.vlog_hierarchy.proofs.walk.walk_from.Goals as goal

pub visit-requires-clause-long : goal.visit-requires-clause-long
visit-requires-clause-long c = unmarked_long c.in_ok-marks.marks (length c.args.outlines.now) c.in_ok-marks.ensures

pub loop-next-init : goal.loop-next-init
loop-next-init c =
    start_at (plain_outlines c.args.outlines.now) c.args.from c.in_ok-marks.marks c.visit.new.self.marks c.visit.new.self.found
    c.requires.closed
    (unmarked_long c.in_ok-marks.marks (length c.args.outlines.now) c.in_ok-marks.ensures
    ∙ sym (length-map c.args.outlines.now plain_outline))
    (c.in_ok-marks.ensures ∙ ap (λ n. replicate n false) (sym (length-map c.args.outlines.now plain_outline)))
    c.in_ok-visit.ensures.marks
    (c.in_ok-visit.ensures.found
    ∙ ap (λ (xs : List ℕ). xs ++ fresh c.in_ok-marks.marks (kids (plain_outlines c.args.outlines.now) c.args.from)) c.new.ensures)

pub visit-requires-in-loop-next-clause-within : goal.visit-requires-in-loop-next-clause-within
visit-requires-in-loop-next-clause-within c =
    let some : c.loop-next.next < length c.loop-next.reached.found = omega (arith, c.loop-next-test.true, c.len.ensures) in
    let l = place_within (plain_outlines c.args.outlines.now) c.args.from c.loop-next.next c.loop-next.reached.marks
    c.loop-next.reached.found (slice_index c.as_slice.result.now c.loop-next.next) c.requires.closed c.loop-next.invariant some
    (ap (λ (xs : List ℕ). slice_index xs c.loop-next.next) c.as_slice.ensures) in
    omega (arith, l, length-map c.args.outlines.now plain_outline)

pub loop-next-preserved : goal.loop-next-preserved
loop-next-preserved c =
    let some : c.loop-next.next < length c.loop-next.reached.found = omega (arith, c.loop-next-test.true, c.len.ensures) in
    next_at (plain_outlines c.args.outlines.now) c.args.from c.loop-next.next c.loop-next.reached.marks
    c.visit-in-loop-next.new.self.marks c.loop-next.reached.found c.visit-in-loop-next.new.self.found
    (slice_index c.as_slice.result.now c.loop-next.next) c.requires.closed c.loop-next.invariant some
    (ap (λ (xs : List ℕ). slice_index xs c.loop-next.next) c.as_slice.ensures) c.in_ok-visit-2.ensures.marks
    c.in_ok-visit-2.ensures.found

pub returns-clause-below : goal.returns-clause-below
returns-clause-below c = λ k. end_reach (plain_outlines c.args.outlines.now) c.args.from c.loop-next.next c.loop-next.reached.marks
    c.loop-next.reached.found c.loop-next.invariant (omega (arith, c.loop-next-test.false, c.len.ensures)) k
