use Rattle.vidi_bench.specs.Devices.{Wiring}
use Rattle.vidi_bench.specs.Ended.{EndsWith}
use Rattle.replay_command.specs.Replays.{RefusedReplay, RefusedTrace}
use Rattle.vidi_bench.specs.Steps.{Never}
use Rattle.vidi_bench.proofs.Chain.{passed-as}
use Rattle.vidi_bench.proofs.Wired.{never-wired, wired-then}
use Rattle.replay_command.proofs.replaying.plan_texts.Goals as goal

pub returns-in_err-device-clause-refused : goal.returns-in_err-device-clause-refused
returns-in_err-device-clause-refused c =
    let design = c.args.design.now in
    let map = c.args.map.now in
    passed-as (Wiring design map (λ _. Never)) (RefusedReplay design map c.args.bytes) c.in_err-device.field-0.0
    c.from_residual.result c.from_residual.ensures.1 (never-wired design map (RefusedTrace c.args.bytes)) c.in_err-device.ensures.refused

pub returns-in_err-trace-clause-refused : goal.returns-in_err-trace-clause-refused
returns-in_err-trace-clause-refused c =
    let design = c.args.design.now in
    let map = c.args.map.now in
    let v = c.in_ok-device.device in
    let e = c.in_err-trace.field-0.0 in
    let refused : EndsWith (RefusedTrace c.args.bytes v.map) e = rw c.as_slice.ensures at c.in_err-trace.ensures.refused in
    passed-as (RefusedTrace c.args.bytes v.map) (RefusedReplay design map c.args.bytes) e c.from_residual-in_err-trace.result
    c.from_residual-in_err-trace.ensures.1 (wired-then design map v (RefusedTrace c.args.bytes) c.in_ok-device.ensures.device) refused

pub returns-clause-encodes : goal.returns-clause-encodes
returns-clause-encodes c = rw c.as_slice.ensures at c.in_ok-trace.ensures.encodes
