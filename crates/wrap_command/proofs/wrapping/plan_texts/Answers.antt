use Rattle.std.proofs.Common.{inl, inr}
use Rattle.vlog_tree.specs.Plain.{plain}
use Rattle.vidi_bench.specs.Design.{Building, IsNoText}
use Rattle.vidi_bench.specs.Devices.{Binding, IsNoMap}
use Rattle.wrap_command.specs.Shims.{IsUnwrapped}
use Rattle.vidi_bench.specs.Steps.{Never}
use Rattle.wrap_command.specs.Wraps.{RefusedWrap}
use Rattle.vidi_bench.proofs.Chain.{passed-as}
use Rattle.wrap_command.proofs.Fitted.{spelled_good}
use Rattle.wrap_command.proofs.Written.{fitted-then, never-built, texts-said}
use Rattle.wrap_command.proofs.wrapping.plan_texts.Goals as goal

pub wrapped_text-requires-clause-good : goal.wrapped_text-requires-clause-good
wrapped_text-requires-clause-good c = spelled_good c.args.design.now (plain c.in_ok-file.file) c.in_ok-file.ensures.spelled

pub returns-in_err-file-clause-refused : goal.returns-in_err-file-clause-refused
returns-in_err-file-clause-refused c =
    passed-as (IsNoText c.args.design.now) (RefusedWrap c.args.design.now c.args.map.now) c.in_err-file.field-0.0
    c.from_residual.result c.from_residual.ensures.1 (λ a x is. inl is) c.in_err-file.ensures.refused

pub returns-in_err-text-clause-refused : goal.returns-in_err-text-clause-refused
returns-in_err-text-clause-refused c =
    passed-as (IsNoMap c.args.map.now) (RefusedWrap c.args.design.now c.args.map.now) c.in_err-text.field-0.0
    c.from_residual-in_err-text.result c.from_residual-in_err-text.ensures.1
    (λ a x is. inr (plain c.in_ok-file.file, c.in_ok-file.ensures.spelled, inl is)) c.in_err-text.ensures.refused

pub returns-in_err-map-clause-refused : goal.returns-in_err-map-clause-refused
returns-in_err-map-clause-refused c =
    let file = plain c.in_ok-file.file in
    let text = c.in_ok-text.text in
    passed-as (Building text.top file (λ d. Binding text d (λ _. Never))) (RefusedWrap c.args.design.now c.args.map.now)
    c.in_err-map.field-0.0 c.from_residual-in_err-map.result c.from_residual-in_err-map.ensures.1
    (λ a x is. inr (
      file,
      c.in_ok-file.ensures.spelled,
      inr (text, c.in_ok-text.ensures.mapped, never-built text.top text file (IsUnwrapped file) a x is),
    )) c.in_err-map.ensures.refused

pub returns-in_err-text-2-clause-refused : goal.returns-in_err-text-2-clause-refused
returns-in_err-text-2-clause-refused c =
    let file = plain c.in_ok-file.file in
    let map = c.in_ok-map.map in
    passed-as (IsUnwrapped file map) (RefusedWrap c.args.design.now c.args.map.now) c.in_err-text-2.field-0.0
    c.from_residual-in_err-text-2.result c.from_residual-in_err-text-2.ensures.1
    (fitted-then c.args.design.now c.args.map.now file c.in_ok-text.text map c.in_ok-file.ensures.spelled c.in_ok-text.ensures.mapped
    c.in_ok-map.ensures.fitted) c.in_err-text-2.ensures.refused

pub returns-clause-planned : goal.returns-clause-planned
returns-clause-planned c =
    texts-said c.args.design.now c.args.map.now (plain c.in_ok-file.file) c.in_ok-text.text c.in_ok-map.map c.in_ok-text-2.text
    c.len.result c.in_ok-file.ensures.spelled c.in_ok-text.ensures.mapped c.in_ok-map.ensures.fitted
    c.in_ok-text-2.ensures.wrapped c.in_ok-text-2.ensures.text c.len.ensures
