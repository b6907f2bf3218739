use Rattle.std.proofs.Common.{inl, inr}
use Rattle.vlog_tree.specs.Plain.{plain}
use Rattle.vidi_bench.specs.Design.{Building, IsNoText}
use Rattle.vidi_bench.specs.Devices.{Binding, IsNoMap, Wiring}
use Rattle.vidi_answer.specs.Steps.{Never}
use Rattle.vidi_answer.proofs.Chain.{all-as, passed-as}
use Rattle.vidi_bench.proofs.Wired.{device-said}
use Rattle.vidi_bench.proofs.device.device_of.Goals as goal

pub returns-in_err-file-clause-refused : goal.returns-in_err-file-clause-refused
returns-in_err-file-clause-refused c =
    passed-as (IsNoText c.args.design.now) (Wiring c.args.design.now c.args.map.now (λ _. Never)) c.in_err-file.field-0.0
    c.from_residual.result c.from_residual.ensures.1 (λ a x is. inl is) c.in_err-file.ensures.refused

pub returns-in_err-text-clause-refused : goal.returns-in_err-text-clause-refused
returns-in_err-text-clause-refused c =
    passed-as (IsNoMap c.args.map.now) (Wiring c.args.design.now c.args.map.now (λ _. Never)) c.in_err-text.field-0.0
    c.from_residual-in_err-text.result c.from_residual-in_err-text.ensures.1
    (λ a x is. inr (plain c.in_ok-file.file, c.in_ok-file.ensures.spelled, inl is)) c.in_err-text.ensures.refused

pub returns-clause-device : goal.returns-clause-device
returns-clause-device c =
    device-said c.args.design.now c.args.map.now (plain c.in_ok-file.file) c.in_ok-text.text c.built.result c.in_ok-file.ensures.spelled
    c.in_ok-text.ensures.mapped c.built.ensures.accepted c.built.ensures.bound c.built.ensures.runnable

pub returns-clause-refused : goal.returns-clause-refused
returns-clause-refused c =
    let file = plain c.in_ok-file.file in
    let text = c.in_ok-text.text in
    all-as (Building text.top file (λ d. Binding text d (λ _. Never))) (Wiring c.args.design.now c.args.map.now (λ _. Never))
    c.built.result (λ a x is. inr (file, c.in_ok-file.ensures.spelled, inr (text, c.in_ok-text.ensures.mapped, is)))
    c.built.ensures.refused
