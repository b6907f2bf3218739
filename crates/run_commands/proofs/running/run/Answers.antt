use Rattle.std.proofs.Common.{ℕ, List, inl, inr}
use Rattle.vidi_recorder.specs.vidi_io.Cause.{Rose}
use Rattle.vidi_bench.specs.Benches.{ReadTexts, RefusedTexts}
use Rattle.run_commands.specs.Runs.{Runs, RunTexts}
use Rattle.vidi_bench.specs.Steps.{Never}
use Rattle.vidi_bench.proofs.Chain.{answered-as}
use Rattle.run_commands.proofs.Texts.{never-read}
use Rattle.run_commands.proofs.running.run.Goals as goal

pub returns-in_err-texts-clause-answered : goal.returns-in_err-texts-clause-answered
returns-in_err-texts-clause-answered g c =
    let S = g.S.Shelf in
    let files = S.files c.args.shelf.now in
    let F = λ (name : List ℕ). Rose (S.read_faults c.args.shelf.now name) (S.read_faults c.read_texts.new.shelf name) in
    let design = c.args.design.now in
    let map = c.args.map.now in
    let script = c.args.script.now in
    answered-as (ReadTexts design map script files F (λ _ _ _. Never)) (Runs design map script files F) c.in_err-texts.field-0.0
    c.from_residual.result c.from_residual.ensures.1 (never-read design map script files F RunTexts) c.in_err-texts.ensures.refused

pub returns-in_err-bench-clause-answered : goal.returns-in_err-bench-clause-answered
returns-in_err-bench-clause-answered g c =
    let S = g.S.Shelf in
    let files = S.files c.args.shelf.now in
    let F = λ (name : List ℕ). Rose (S.read_faults c.args.shelf.now name) (S.read_faults c.read_texts.new.shelf name) in
    let read = c.in_ok-texts.ensures in
    let texts = c.in_ok-texts.texts in
    answered-as (RefusedTexts texts.design texts.map texts.script) (Runs c.args.design.now c.args.map.now c.args.script.now files F)
    c.in_err-bench.field-0.0 c.from_residual-in_err-bench.result c.from_residual-in_err-bench.ensures.1
    (λ a x is. inr (texts.design, read.design, inr (texts.map, read.map, inr (texts.script, read.script, inl is))))
    c.in_err-bench.ensures.refused

pub returns-clause-answered : goal.returns-clause-answered
returns-clause-answered g c =
    let read = c.in_ok-texts.ensures in
    let texts = c.in_ok-texts.texts in
    inr (
      texts.design,
      read.design,
      inr (
        texts.map,
        read.map,
        inr (
          texts.script,
          read.script,
          inr (c.in_ok-bench.bench, c.in_ok-bench.ensures.ready, c.in_ok-played.ensures),
        ),
      ),
    )
