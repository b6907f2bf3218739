use Rattle.std.proofs.Common.{◌≡◌, List, map, length, ap, sym, subst, ◌∙◌, arith}
use Rattle.std.proofs.lemmas.List.{length-map}
use Rattle.vlog_tree.specs.Plain.{plain_module}
use Rattle.vlog_hierarchy.specs.Outlines.{Outline, outlines_of}
use Rattle.vlog_hierarchy.specs.Plain.{plain_outline, plain_outlines}
use Rattle.vlog_hierarchy.specs.Reach.{IsClosed}
use Rattle.vlog_hierarchy.proofs.Closed.{outlines_closed, top_below, long_outlines}
use Rattle.vlog_hierarchy.proofs.walk.nested.Goals as goal

pub first_nested-requires-clause-closed : goal.first_nested-requires-clause-closed
first_nested-requires-clause-closed c =
    let e : plain_outlines c.as_slice-in-Some.result.now ≡ outlines_of (map plain_module c.in_ok-index.index.modules.now) =
    ap plain_outlines c.as_slice-in-Some.ensures ∙ c.in_ok-outlines-in-Some.ensures in
    subst IsClosed (sym e) (outlines_closed (map plain_module c.in_ok-index.index.modules.now))

pub first_nested-requires-clause-within : goal.first_nested-requires-clause-within
first_nested-requires-clause-within c =
    let e : plain_outlines c.as_slice-in-Some.result.now ≡ outlines_of (map plain_module c.in_ok-index.index.modules.now) =
    ap plain_outlines c.as_slice-in-Some.ensures ∙ c.in_ok-outlines-in-Some.ensures in
    let same : length (plain_outlines c.as_slice-in-Some.result.now)
    ≡ length (outlines_of (map plain_module c.in_ok-index.index.modules.now)) =
    ap (λ (xs : List Outline). length xs) e in
    let l = top_below (map plain_module c.in_ok-index.index.modules.now) c.args.top.now c.in-Some.place
    (sym c.place_named.ensures ∙ c.in-Some.is) in
    omega (
      arith,
      l,
      same,
      long_outlines (map plain_module c.in_ok-index.index.modules.now),
      length-map c.as_slice-in-Some.result.now plain_outline,
    )
