use Rattle.std.proofs.Common.{inl}
use Rattle.run_commands.specs.Records.{course_of, RefusedPlanned}
use Rattle.sample_command.specs.Sampled.{IsUnstable}
use Rattle.sample_command.specs.Samples.{IsUntraced}
use Rattle.replay_command.proofs.vidi_bench_lemmas.Chain.{all-as, passed-as}
use Rattle.sample_command.proofs.Sampled.{traced-all, unstable-texts}
use Rattle.sample_command.proofs.sampling.traced.Goals as goal

pub returns-in_err-planned-clause-refused : goal.returns-in_err-planned-clause-refused
returns-in_err-planned-clause-refused c =
    let x = c.args.texts.now in
    let stalls = c.args.stalls.now in
    passed-as (RefusedPlanned x.design x.map x.script stalls) (IsUntraced x.design x.map x.script stalls) c.in_err-planned.field-0.0
    c.from_residual.result c.from_residual.ensures.1 (λ a y is. inl is) c.in_err-planned.ensures.refused

pub returns-clause-traced : goal.returns-clause-traced
returns-clause-traced c =
    let x = c.args.texts.now in
    let p = c.in_ok-planned.planned in
    let made = c.in_ok-planned.ensures in
    traced-all x.design x.map x.script c.args.stalls.now p.bench p.plan made.bench made.planned made.holds c.recorded.result
    c.recorded.ensures.traced

pub returns-clause-refused : goal.returns-clause-refused
returns-clause-refused c =
    let x = c.args.texts.now in
    let p = c.in_ok-planned.planned in
    let made = c.in_ok-planned.ensures in
    all-as (IsUnstable (course_of p.bench p.plan)) (IsUntraced x.design x.map x.script c.args.stalls.now) c.recorded.result
    (unstable-texts x.design x.map x.script c.args.stalls.now p.bench p.plan made.bench made.planned made.holds)
    c.recorded.ensures.refused
