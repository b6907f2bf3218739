use Rattle.std.proofs.Common.{ap, sym, ◌∙◌}
use Rattle.vlog_hierarchy.specs.declared.outline.Outline.{Outline}
use Rattle.vlog_hierarchy.proofs.Labelled.{keeps_at}
use Rattle.vlog_hierarchy.proofs.labels.keeps_label.Goals as goal

pub returns : goal.returns
returns c =
    keeps_at c.args.outlines.now c.args.labels.now c.args.place c.index-outlines-place.result c.as_slice.result.now c.label_at.result
    c.some_keeps.result c.requires.within c.index-outlines-place.is
    (c.as_slice.ensures ∙ ap (λ (o : Outline). o.children) (sym c.index-outlines-place.is)) c.label_at.ensures c.some_keeps.ensures
