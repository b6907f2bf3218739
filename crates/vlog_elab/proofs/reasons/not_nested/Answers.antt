use Rattle.std.proofs.Common.{ℕ, map, subst, arith, Option}
use Rattle.std.proofs.lemmas.List.{length-map}
use Rattle.vlog_tree.specs.Plain.{plain_module}
use Rattle.vlog_hierarchy.specs.Outlines.{place_of, outlines_of}
use Rattle.vlog_hierarchy.specs.Nested.{IsNestedAnswer}
use Rattle.vlog_elab.proofs.Firsts.{nested_there}
use Rattle.vlog_elab.proofs.reasons.not_nested.Goals as goal

pub name_at-requires : goal.name_at-requires
name_at-requires c =
    let l = nested_there (map plain_module c.args.file.now.modules) (place_of (map plain_module c.args.file.now.modules) c.args.top.now)
    c.in-Some.place
    (subst
    (λ (a : Option ℕ). IsNestedAnswer (outlines_of (map plain_module c.args.file.now.modules))
    (place_of (map plain_module c.args.file.now.modules) c.args.top.now) a)
    c.in-Some.is c.in_ok-place.ensures) in
    omega (arith, l, length-map c.args.file.now.modules plain_module)
