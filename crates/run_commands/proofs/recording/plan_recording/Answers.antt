use Rattle.std.proofs.Common.{ℕ, List, Ok, inl, inr}
use Rattle.std.specs.Prelude.{IfOk, IfErr}
use Rattle.vidi_recorder.specs.vidi_io.Cause.{Rose}
use Rattle.vidi_bench.specs.report_text.declared.reason.Word.TheVariants as words
use Rattle.bench_run.specs.env_script.Reasons.{read_lines}
use Rattle.bench_run.specs.env_script.Stalls.{ReadsStalls}
use Rattle.vidi_bench.specs.Benches.{ReadTexts}
use Rattle.vidi_bench.specs.Design.{text_limit}
use Rattle.vidi_bench.specs.Ended.{EndsWith}
use Rattle.vidi_bench.specs.Reading.{IsUnread, Reading}
use Rattle.run_commands.specs.Records.{IsUnrecorded, RefusedPlanned}
use Rattle.vidi_bench.specs.Steps.{Never}
use Rattle.vidi_bench.proofs.Chain.{all-as, passed-as, read-as, rose-since, unread-as}
use Rattle.run_commands.proofs.Texts.{never-read, plan-said}
use Rattle.run_commands.proofs.recording.plan_recording.Goals as goal

pub returns-in_err-texts-clause-refused : goal.returns-in_err-texts-clause-refused
returns-in_err-texts-clause-refused g c =
    let S = g.S.Shelf in
    let files = S.files c.args.shelf.now in
    let F = λ (name : List ℕ). Rose (S.read_faults c.args.shelf.now name) (S.read_faults c.read_texts.new.shelf name) in
    let design = c.args.design.now in
    let map = c.args.map.now in
    let script = c.args.script.now in
    let stalls = c.args.stalls.now in
    passed-as (ReadTexts design map script files F (λ _ _ _. Never)) (IsUnrecorded design map script stalls files F)
    c.in_err-texts.field-0.0 c.from_residual.result c.from_residual.ensures.1
    (never-read design map script files F (λ d m s. Reading text_limit words.Stalls stalls files F (RefusedPlanned d m s)))
    c.in_err-texts.ensures.refused

pub returns-in_err-stalls-clause-refused : goal.returns-in_err-stalls-clause-refused
returns-in_err-stalls-clause-refused g c =
    let S = g.S.Shelf in
    let files = S.files c.args.shelf.now in
    let old = S.read_faults c.args.shelf.now in
    let middle = S.read_faults c.read_texts.new.shelf in
    let now = S.read_faults c.read_file.new.shelf in
    let F = λ (name : List ℕ). Rose (old name) (now name) in
    let G = λ (name : List ℕ). Rose (middle name) (now name) in
    let stalls = c.args.stalls.now in
    let read = c.in_ok-texts.ensures in
    let texts = c.in_ok-texts.texts in
    let unread = unread-as text_limit words.Stalls stalls files (S.files c.read_texts.new.shelf) G F c.read_texts.ensures.files
    (λ rose. rose-since (old stalls) (middle stalls) (now stalls) (c.read_texts.ensures.counts.reads stalls) rose) in
    passed-as (IsUnread text_limit words.Stalls stalls (S.files c.read_texts.new.shelf) G)
    (IsUnrecorded c.args.design.now c.args.map.now c.args.script.now stalls files F) c.in_err-stalls.field-0.0
    c.from_residual-in_err-stalls.result c.from_residual-in_err-stalls.ensures.1
    (λ a x is. inr (texts.design, read.design, inr (texts.map, read.map, inr (texts.script, read.script, inl (unread a x is)))))
    c.in_err-stalls.ensures.refused

pub returns-clause-planned : goal.returns-clause-planned
returns-clause-planned g c =
    let S = g.S.Shelf in
    let files = S.files c.args.shelf.now in
    let read = c.in_ok-texts.ensures in
    let texts = c.in_ok-texts.texts in
    let stalls = c.in_ok-stalls.stalls in
    let stalls-read = read-as text_limit c.args.stalls.now files (S.files c.read_texts.new.shelf) stalls c.read_texts.ensures.files
    c.in_ok-stalls.ensures.read in
    let planned : IfOk c.plan_texts.result (λ p. ReadsStalls (read_lines stalls) (Ok p.plan)) =
    rw c.as_slice.ensures at c.plan_texts.ensures.planned in
    plan-said c.args.design.now c.args.map.now c.args.script.now c.args.stalls.now files texts.design texts.map texts.script stalls
    c.plan_texts.result read.design read.map read.script stalls-read c.plan_texts.ensures.bench planned c.plan_texts.ensures.holds

pub returns-clause-refused : goal.returns-clause-refused
returns-clause-refused g c =
    let S = g.S.Shelf in
    let files = S.files c.args.shelf.now in
    let F = λ (name : List ℕ). Rose (S.read_faults c.args.shelf.now name) (S.read_faults c.read_file.new.shelf name) in
    let read = c.in_ok-texts.ensures in
    let texts = c.in_ok-texts.texts in
    let stalls = c.in_ok-stalls.stalls in
    let stalls-read = read-as text_limit c.args.stalls.now files (S.files c.read_texts.new.shelf) stalls c.read_texts.ensures.files
    c.in_ok-stalls.ensures.read in
    let refused : IfErr c.plan_texts.result (EndsWith (RefusedPlanned texts.design texts.map texts.script stalls)) =
    rw c.as_slice.ensures at c.plan_texts.ensures.refused in
    all-as (RefusedPlanned texts.design texts.map texts.script stalls)
    (IsUnrecorded c.args.design.now c.args.map.now c.args.script.now c.args.stalls.now files F) c.plan_texts.result
    (λ a x is. inr (
      texts.design,
      read.design,
      inr (
        texts.map,
        read.map,
        inr (
          texts.script,
          read.script,
          inr (stalls, stalls-read, is),
        ),
      ),
    )) refused
