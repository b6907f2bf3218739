use Rattle.std.proofs.Common.{ap, sym, ◌∙◌, ◌++◌, List, ℕ}
use Rattle.vlog_hierarchy.specs.declared.outline.Outline.{Outline}
use Rattle.vlog_hierarchy.specs.Reach.{marked_all, fresh}
use Rattle.vlog_hierarchy.proofs.Closed.{visit_same, visit_below}
use Rattle.vlog_hierarchy.proofs.walk.Reached.visit.Goals as goal

pub add_all-requires : goal.add_all-requires
add_all-requires c =
    visit_below c.args.outlines.now c.args.self.now.marks c.args.place c.index-outlines-place.result c.as_slice.result.now
    c.requires.closed c.requires.long c.requires.within c.index-outlines-place.is
    (c.as_slice.ensures ∙ ap (λ (o : Outline). o.children) (sym c.index-outlines-place.is))

pub returns-clause-marks : goal.returns-clause-marks
returns-clause-marks c =
    c.in_ok-add_all.ensures.marks
    ∙ ap (λ (ks : List ℕ). marked_all c.args.self.now.marks ks)
    (visit_same c.args.outlines.now c.args.place c.index-outlines-place.result c.as_slice.result.now c.requires.within
    c.index-outlines-place.is (c.as_slice.ensures ∙ ap (λ (o : Outline). o.children) (sym c.index-outlines-place.is)))

pub returns-clause-found : goal.returns-clause-found
returns-clause-found c =
    c.in_ok-add_all.ensures.found
    ∙ ap (λ (ks : List ℕ). c.args.self.now.found ++ fresh c.args.self.now.marks ks)
    (visit_same c.args.outlines.now c.args.place c.index-outlines-place.result c.as_slice.result.now c.requires.within
    c.index-outlines-place.is (c.as_slice.ensures ∙ ap (λ (o : Outline). o.children) (sym c.index-outlines-place.is)))
