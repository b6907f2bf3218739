use Rattle.std.proofs.Common.{inl, inr}
use Rattle.vlog_tree.specs.Plain.{plain}
use Rattle.vidi_bench.specs.Design.{Building, IsAccepted, IsLooped, IsRefusedFile}
use Rattle.vidi_bench.specs.Devices.{Binding, IsUnbound}
use Rattle.vidi_answer.specs.Ended.{EndsWith}
use Rattle.vidi_answer.specs.Steps.{Never}
use Rattle.vidi_answer.proofs.Chain.{passed-as}
use Rattle.vidi_bench.proofs.device.built.Goals as goal

pub returns-in_err-design-clause-refused : goal.returns-in_err-design-clause-refused
returns-in_err-design-clause-refused c =
    let file = plain c.args.file.now in
    let text = c.args.text.now in
    let e = c.in_err-design.field-0.0 in
    let refused : EndsWith (IsRefusedFile text.top file) e =
    rw c.top.ensures at (rw c.as_slice.ensures at c.in_err-design.ensures.refused) in
    passed-as (IsRefusedFile text.top file) (Building text.top file (λ d. Binding text d (λ _. Never))) e c.from_residual.result
    c.from_residual.ensures.1 (λ a x is. inl is) refused

pub returns-in_err-order-clause-refused : goal.returns-in_err-order-clause-refused
returns-in_err-order-clause-refused c =
    let file = plain c.args.file.now in
    let text = c.args.text.now in
    let design = c.in_ok-design.design in
    let accepted : IsAccepted text.top file design = rw c.top.ensures at (rw c.as_slice.ensures at c.in_ok-design.ensures.accepted) in
    passed-as (IsLooped design) (Building text.top file (λ d. Binding text d (λ _. Never))) c.in_err-order.field-0.0
    c.from_residual-in_err-order.result c.from_residual-in_err-order.ensures.1 (λ a x is. inr (design, accepted, inl is))
    c.in_err-order.ensures.refused

pub returns-in_err-map-clause-refused : goal.returns-in_err-map-clause-refused
returns-in_err-map-clause-refused c =
    let file = plain c.args.file.now in
    let text = c.args.text.now in
    let design = c.in_ok-design.design in
    let accepted : IsAccepted text.top file design = rw c.top.ensures at (rw c.as_slice.ensures at c.in_ok-design.ensures.accepted) in
    passed-as (IsUnbound text design) (Building text.top file (λ d. Binding text d (λ _. Never))) c.in_err-map.field-0.0
    c.from_residual-in_err-map.result c.from_residual-in_err-map.ensures.1
    (λ a x is. inr (design, accepted, inr (c.in_ok-order.order.drivers, c.in_ok-order.ensures.ordered, inl is)))
    c.in_err-map.ensures.refused

pub returns-clause-accepted : goal.returns-clause-accepted
returns-clause-accepted c = rw c.top.ensures at (rw c.as_slice.ensures at c.in_ok-design.ensures.accepted)

pub returns-clause-runnable : goal.returns-clause-runnable
returns-clause-runnable c = record {
  lawful = c.in_ok-design.ensures.accepted.1.lawful;
  ordered = c.in_ok-order.ensures.ordered;
  mapped = c.bound_is_map_of.ensures c.args.text.now c.in_ok-design.design c.in_ok-map.map c.in_ok-map.ensures.bound;
  table = c.in_ok-map.ensures.bound.1.table;
}
