use Rattle.std.proofs.Common.{inl, inr}
use Rattle.replay_command.specs.vidi_bench.Devices.{IsDevice, Wiring}
use Rattle.replay_command.specs.vidi_bench.Ended.{EndsWith}
use Rattle.replay_command.specs.Replays.{RefusedTrace}
use Rattle.sample_command.specs.Samples.{SamplesReplay}
use Rattle.replay_command.specs.vidi_bench.Steps.{Never}
use Rattle.replay_command.proofs.vidi_bench_lemmas.Chain.{answered-as}
use Rattle.replay_command.proofs.vidi_bench_lemmas.Wired.{never-wired, wired-then}
use Rattle.sample_command.proofs.sampling.replayed_texts.Goals as goal

pub returns-in_err-device : goal.returns-in_err-device
returns-in_err-device c =
    let x = c.args.texts.now in
    let bytes = c.args.bytes.now in
    let refused : EndsWith (Wiring x.design x.map (λ _. Never)) c.in_err-device.field-0.0 =
    rw (c.as_slice.ensures, c.as_slice-2.ensures) at c.in_err-device.ensures.refused in
    answered-as (Wiring x.design x.map (λ _. Never)) (SamplesReplay c.args.figures x.design x.map bytes) c.in_err-device.field-0.0
    c.from_residual.result c.from_residual.ensures.1 (λ a y is. inl (never-wired x.design x.map (RefusedTrace bytes) a y is)) refused

pub returns-in_err-trace : goal.returns-in_err-trace
returns-in_err-trace c =
    let x = c.args.texts.now in
    let bytes = c.args.bytes.now in
    let v = c.in_ok-device.device in
    let device : IsDevice x.design x.map v = rw (c.as_slice.ensures, c.as_slice-2.ensures) at c.in_ok-device.ensures.device in
    answered-as (RefusedTrace bytes v.map) (SamplesReplay c.args.figures x.design x.map bytes) c.in_err-trace.field-0.0
    c.from_residual-in_err-trace.result c.from_residual-in_err-trace.ensures.1
    (λ a y is. inl (wired-then x.design x.map v (RefusedTrace bytes) device a y is)) c.in_err-trace.ensures.refused

pub returns : goal.returns
returns c =
    let x = c.args.texts.now in
    let v = c.in_ok-device.device in
    let device : IsDevice x.design x.map v = rw (c.as_slice.ensures, c.as_slice-2.ensures) at c.in_ok-device.ensures.device in
    inr (
      v,
      c.in_ok-trace.trace,
      record {
        device = device;
        encodes = c.in_ok-trace.ensures.encodes;
        same = c.in_ok-trace.ensures.same;
      },
      c.in_ok-answer.ensures,
    )
