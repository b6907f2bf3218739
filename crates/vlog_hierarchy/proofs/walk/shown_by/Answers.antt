use Rattle.std.proofs.Common.{◌≡◌, Some, None, subst}
use Rattle.vlog_hierarchy.specs.Plain.{plain_outlines}
use Rattle.vlog_hierarchy.specs.Nested.{IsFirstNested}
use Rattle.vlog_hierarchy.proofs.Labelled.{first_none, first_some}
use Rattle.vlog_hierarchy.proofs.walk.shown_by.Goals as goal

pub returns-then-branch : goal.returns-then-branch
returns-then-branch c = λ answer e.
    let same : Some c.in-Some.place ≡ answer = cc in
    subst (IsFirstNested (plain_outlines c.args.outlines.now) c.args.top) same
    (first_some (plain_outlines c.args.outlines.now) c.args.labels.now c.args.top c.in-Some.place c.requires.fall c.in-Some.ensures
    (c.in_ok-contains_itself-in-Some.ensures.0 c.if-branch.true))

pub returns-in-None : goal.returns-in-None
returns-in-None c = λ answer e.
    let same : None ≡ answer = cc in
    subst (IsFirstNested (plain_outlines c.args.outlines.now) c.args.top) same
    (first_none (plain_outlines c.args.outlines.now) c.args.labels.now c.args.top c.requires.fall c.in-None.ensures)
