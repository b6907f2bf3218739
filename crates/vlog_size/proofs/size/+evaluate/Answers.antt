use Rattle.std.proofs.Common.{◌<◌, ◌^◌, length, arith, ap, sym, ◌∙◌, subst, ℕ}
use Rattle.vlog_tree.specs.Plain.{plain_expr, plain_prim, plain_sel}
use Rattle.vlog_size.specs.Names.{Readable, readable_in}
use Rattle.vlog_size.specs.Size.{Sizes, Bracket, Part, Indexed, sizes_of, sizes_of_prim, sizes_of_sel}
use Rattle.vlog_size.specs.Sides.{left_of, right_of, operand_of, other_side}
use Rattle.vlog_size.specs.Facts.{ShowsSelect, ShowsAt, ShowsBoth}
use Rattle.vlog_size.specs.declared.length.Side.{Side}
use Rattle.vlog_size.proofs.Rests.{parts_few, next_gathered, none_gathered}
use Rattle.vlog_size.proofs.Reaches.{enough, not_enough}
use Rattle.vlog_tree.specs.declared.expr.Expr.{Expr}
use Rattle.vlog_tree.specs.declared.expr.Sel.{Sel}
use Rattle.vlog_tree.specs.declared.expr.Operand.{Operand}
use Rattle.vlog_size.proofs.size.+evaluate.Goals as goal

pub gather-loop-part-preserved : goal.gather-loop-part-preserved
gather-loop-part-preserved t c =
    c.with_next-so_far.ensures _ _ _
    (next_gathered c.loop-part.so_far
    (readable_in c.args.view.now) c.args.parts.now c.loop-part.part-index c.part-item.result _ c.loop-part-test.true c.part-item.is
    c.loop-part.invariant)
    c.evaluate-found.ensures

pub gather-returns : goal.gather-returns
gather-returns t c =
    let few : length c.args.parts.now < 2 ^ 64 = omega arith in
    record {
      none_left = none_gathered c.loop-part.so_far
          (readable_in c.args.view.now) c.args.parts.now c.loop-part.part-index _ c.loop-part-test.false c.loop-part.invariant;
      few = parts_few (readable_in c.args.view.now) c.args.parts.now few;
    }

pub in_turn-returns-then-is_enough : goal.in_turn-returns-then-is_enough
in_turn-returns-then-is_enough t c =
    let r = readable_in c.args.view.now in
    let x = plain_expr c.args.e.now in
    let A = sizes_of r (operand_of c.args.first x) in
    let B = sizes_of r (operand_of (other_side c.args.first) x) in
    let P : ℕ → Type 0 = λ w. ShowsAt w c.evaluate_side-other.result B in
    let S : Side → Type 0 = λ s. ShowsAt c.reach_after-reach.result c.evaluate_side-other.result (sizes_of r (operand_of s x)) in
    enough c.args.wide c.evaluate_side-one.result c.evaluate_side-other.result A B (sym c.is_enough.ensures ∙ c.if-is_enough.true)
    c.evaluate_side-one.ensures (subst P c.reach_after-reach.ensures (subst S c.other_side-second.ensures c.evaluate_side-other.ensures))

pub in_turn-returns : goal.in_turn-returns
in_turn-returns t c =
    let r = readable_in c.args.view.now in
    let x = plain_expr c.args.e.now in
    let A = sizes_of r (operand_of c.args.first x) in
    let B = sizes_of r (operand_of (other_side c.args.first) x) in
    let P : ℕ → Type 0 = λ w. ShowsAt w c.evaluate_side-other.result B in
    let S : Side → Type 0 = λ s. ShowsAt c.reach_after-reach.result c.evaluate_side-other.result (sizes_of r (operand_of s x)) in
    not_enough c.args.wide c.evaluate_side-one.result c.evaluate_side-other.result c.evaluate_side-again.result A B
    (sym c.is_enough.ensures ∙ c.if-is_enough.false) c.evaluate_side-one.ensures
    (subst P c.reach_after-reach.ensures (subst S c.other_side-second.ensures c.evaluate_side-other.ensures)) c.evaluate_side-again.ensures

pub evaluate-returns-in-Choice : goal.evaluate-returns-in-Choice
evaluate-returns-in-Choice t c =
    let r = readable_in c.args.view.now in
    let C : Expr → Type 0 = λ x. ShowsAt 0 c.evaluate-chosen.result (sizes_of r (plain_expr x)) in
    let P : Expr → Type 0 = λ x. ShowsBoth c.args.wide c.together-branches.result (sizes_of r (left_of (plain_expr x)))
    (sizes_of r (right_of (plain_expr x))) in
    let Q : Expr → Type 0 = λ x. ShowsAt c.args.wide c.choice_at.result (sizes_of r (plain_expr x)) in
    subst Q (sym c.in-Choice.is)
    (c.choice_at.ensures _ _ _ (subst C c.deref-in-Choice.ensures c.evaluate-chosen.ensures)
    (subst P c.in-Choice.is c.together-branches.ensures))

pub evaluate_prim-returns-in-Ref : goal.evaluate_prim-returns-in-Ref
evaluate_prim-returns-in-Ref t c =
    let P : Sizes → Type 0 = λ s. ShowsAt c.args.wide c.evaluate_ref.result s in
    subst P (sym (ap (λ (p : Operand). sizes_of_prim (readable_in c.args.view.now) (plain_prim p)) c.in-Ref.is)) c.evaluate_ref.ensures

pub evaluate_ref-returns : goal.evaluate_ref-returns
evaluate_ref-returns t c = c.name_at.ensures c.ref_facts-facts.ensures

pub select-returns-in-Index : goal.select-returns-in-Index
select-returns-in-Index t c =
    let P : Bracket → Type 0 = λ b. ShowsSelect c.args.line c.args.whole c.args.picked c.args.limit c.bit_select.result b in
    subst P (sym (ap (λ (s : Sel). sizes_of_sel (readable_in c.args.view.now) (plain_sel s)) c.in-Index.is))
    (c.bit_select.ensures _ _ _ c.numbered-index.ensures)

pub select-returns-in-Part : goal.select-returns-in-Part
select-returns-in-Part t c =
    let P : Bracket → Type 0 = λ b. ShowsSelect c.args.line c.args.whole c.args.picked c.args.limit c.part_select.result b in
    subst P
    (ap (λ (s : Readable). Part (sizes_of s (plain_expr c.in-Part.first))
    (sizes_of s (plain_expr c.in-Part.second))) c.fixed-constants.ensures
    ∙ sym (ap (λ (s : Sel). sizes_of_sel (readable_in c.args.view.now) (plain_sel s)) c.in-Part.is))
    (c.part_select.ensures _ _ _ _ _ c.numbered-a.ensures c.numbered-b.ensures)

pub select-returns-in-Indexed : goal.select-returns-in-Indexed
select-returns-in-Indexed t c =
    let P : Bracket → Type 0 = λ b. ShowsSelect c.args.line c.args.whole c.args.picked c.args.limit c.indexed_select.result b in
    subst P
    (ap (λ (s : Readable). Indexed (sizes_of (readable_in c.args.view.now) (plain_expr c.in-Indexed.base))
    (sizes_of s (plain_expr c.in-Indexed.width))) c.fixed-constants-in-Indexed.ensures
    ∙ sym (ap (λ (s : Sel). sizes_of_sel (readable_in c.args.view.now) (plain_sel s)) c.in-Indexed.is))
    (c.indexed_select.ensures _ _ _ _ c.evaluate-base.ensures.facts c.numbered-width.ensures)
