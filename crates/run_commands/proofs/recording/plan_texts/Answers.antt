use Rattle.std.proofs.Common.{inl, inr}
use Rattle.vidi_bench.specs.Benches.{RefusedTexts}
use Rattle.vidi_bench.specs.Ended.{EndsWith}
use Rattle.run_commands.specs.Records.{RefusedPlanned, RefusedStore}
use Rattle.vidi_bench.proofs.Chain.{passed-as}
use Rattle.run_commands.proofs.recording.plan_texts.Goals as goal

pub returns-in_err-bench-clause-refused : goal.returns-in_err-bench-clause-refused
returns-in_err-bench-clause-refused c =
    let texts = c.args.texts.now in
    passed-as (RefusedTexts texts.design texts.map texts.script) (RefusedPlanned texts.design texts.map texts.script c.args.stalls.now)
    c.in_err-bench.field-0.0 c.from_residual.result c.from_residual.ensures.1 (λ a x is. inl is) c.in_err-bench.ensures.refused

pub returns-in_err-store-clause-refused : goal.returns-in_err-store-clause-refused
returns-in_err-store-clause-refused c =
    let texts = c.args.texts.now in
    let bench = c.in_ok-bench.bench in
    let refused : EndsWith (RefusedStore c.args.stalls.now bench.device.map.channels bench.script) c.in_err-store.field-0.0 =
    rw c.has_resets-resets.ensures at c.in_err-store.ensures.refused in
    passed-as (RefusedStore c.args.stalls.now bench.device.map.channels bench.script)
    (RefusedPlanned texts.design texts.map texts.script c.args.stalls.now)
    c.in_err-store.field-0.0 c.from_residual-in_err-store.result c.from_residual-in_err-store.ensures.1
    (λ a x is. inr (bench, c.in_ok-bench.ensures.ready, is)) refused
