use Rattle.std.proofs.Common.{Ok}
use Rattle.env_script.specs.Reads.{ReadsScript}
use Rattle.env_script.specs.Reasons.{read_lines}
use Rattle.vidi_bench.specs.Benches.{IsNoScript, RefusedTexts}
use Rattle.vidi_bench.specs.Devices.{IsDevice, Wiring}
use Rattle.vidi_answer.specs.Ended.{EndsWith}
use Rattle.vidi_answer.specs.Steps.{Never}
use Rattle.vidi_answer.proofs.Chain.{passed-as}
use Rattle.vidi_bench.proofs.Wired.{never-wired, wired-then}
use Rattle.vidi_bench.proofs.bench.bench_of.Goals as goal

pub returns-in_err-device-clause-refused : goal.returns-in_err-device-clause-refused
returns-in_err-device-clause-refused c =
    let texts = c.args.texts.now in
    let e = c.in_err-device.field-0.0 in
    let refused : EndsWith (Wiring texts.design texts.map (λ _. Never)) e =
    rw c.as_slice-2.ensures at (rw c.as_slice.ensures at c.in_err-device.ensures.refused) in
    passed-as (Wiring texts.design texts.map (λ _. Never)) (RefusedTexts texts.design texts.map texts.script) e c.from_residual.result
    c.from_residual.ensures.1 (never-wired texts.design texts.map (IsNoScript texts.script)) refused

pub returns-in_err-script-clause-refused : goal.returns-in_err-script-clause-refused
returns-in_err-script-clause-refused c =
    let texts = c.args.texts.now in
    let v = c.in_ok-device.device in
    let e = c.in_err-script.field-0.0 in
    let device : IsDevice texts.design texts.map v =
    rw c.as_slice-2.ensures at (rw c.as_slice.ensures at c.in_ok-device.ensures.device) in
    let refused : EndsWith (IsNoScript texts.script v.map) e = rw c.as_slice-3.ensures at c.in_err-script.ensures.refused in
    passed-as (IsNoScript texts.script v.map) (RefusedTexts texts.design texts.map texts.script) e
    c.from_residual-in_err-script.result c.from_residual-in_err-script.ensures.1
    (wired-then texts.design texts.map v (IsNoScript texts.script) device) refused

pub returns-clause-ready : goal.returns-clause-ready
returns-clause-ready c =
    let texts = c.args.texts.now in
    let v = c.in_ok-device.device in
    let device : IsDevice texts.design texts.map v =
    rw c.as_slice-2.ensures at (rw c.as_slice.ensures at c.in_ok-device.ensures.device) in
    let plays : ReadsScript v.map.channels (read_lines texts.script) (Ok c.in_ok-script.script) =
    rw c.as_slice-3.ensures at c.in_ok-script.ensures.plays in
    record { device = device; plays = plays }

pub returns-clause-playable : goal.returns-clause-playable
returns-clause-playable c =
    record { runnable = c.in_ok-device.ensures.runnable; fits = c.in_ok-script.ensures.plays.2 }
