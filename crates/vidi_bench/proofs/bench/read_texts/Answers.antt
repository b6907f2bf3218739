use Rattle.std.proofs.Common.{ℕ, List, inl, inr, ◌∙◌}
use Rattle.vidi_answer.specs.vidi_io.Cause.{Rose}
use Rattle.vidi_answer.specs.report_text.declared.reason.Word.TheVariants as words
use Rattle.vidi_bench.specs.Benches.{ReadTexts}
use Rattle.vidi_bench.specs.Design.{text_limit}
use Rattle.vidi_answer.specs.Reading.{IsUnread}
use Rattle.vidi_answer.specs.Steps.{Never}
use Rattle.vidi_answer.proofs.Chain.{passed-as, read-as, rose-since, unread-as}
use Rattle.vidi_bench.proofs.bench.read_texts.Goals as goal

pub returns-in_err-map-clause-refused : goal.returns-in_err-map-clause-refused
returns-in_err-map-clause-refused g c =
    let S = g.S.Shelf in
    let files = S.files c.args.shelf.now in
    let old = S.read_faults c.args.shelf.now in
    let middle = S.read_faults c.read_file.new.shelf in
    let now = S.read_faults c.read_file-2.new.shelf in
    let F = λ (name : List ℕ). Rose (old name) (now name) in
    let G = λ (name : List ℕ). Rose (middle name) (now name) in
    let map = c.args.map.now in
    let unread = unread-as text_limit words.Map map files (S.files c.read_file.new.shelf) G F c.read_file.ensures.files
    (λ rose. rose-since (old map) (middle map) (now map) (c.read_file.ensures.counts.reads map) rose) in
    passed-as (IsUnread text_limit words.Map map (S.files c.read_file.new.shelf) G)
    (ReadTexts c.args.design.now map c.args.script.now files F (λ _ _ _. Never)) c.in_err-map.field-0.0
    c.from_residual-in_err-map.result c.from_residual-in_err-map.ensures.1
    (λ a x is. inr (c.in_ok-design.design, c.in_ok-design.ensures.read, inl (unread a x is))) c.in_err-map.ensures.refused

pub returns-in_err-script-clause-refused : goal.returns-in_err-script-clause-refused
returns-in_err-script-clause-refused g c =
    let S = g.S.Shelf in
    let files = S.files c.args.shelf.now in
    let old = S.read_faults c.args.shelf.now in
    let first = S.read_faults c.read_file.new.shelf in
    let second = S.read_faults c.read_file-2.new.shelf in
    let now = S.read_faults c.read_file-3.new.shelf in
    let F = λ (name : List ℕ). Rose (old name) (now name) in
    let G = λ (name : List ℕ). Rose (second name) (now name) in
    let script = c.args.script.now in
    let read = read-as text_limit c.args.map.now files (S.files c.read_file.new.shelf) c.in_ok-map.map c.read_file.ensures.files
    c.in_ok-map.ensures.read in
    let unread = unread-as text_limit words.Script script files (S.files c.read_file-2.new.shelf) G F
    (c.read_file-2.ensures.files ∙ c.read_file.ensures.files)
    (λ rose. rose-since (old script) (first script) (now script) (c.read_file.ensures.counts.reads script)
    (rose-since (first script) (second script) (now script) (c.read_file-2.ensures.counts.reads script) rose)) in
    passed-as (IsUnread text_limit words.Script script (S.files c.read_file-2.new.shelf) G)
    (ReadTexts c.args.design.now c.args.map.now script files F (λ _ _ _. Never)) c.in_err-script.field-0.0
    c.from_residual-in_err-script.result c.from_residual-in_err-script.ensures.1
    (λ a x is. inr (c.in_ok-design.design, c.in_ok-design.ensures.read, inr (c.in_ok-map.map, read, inl (unread a x is))))
    c.in_err-script.ensures.refused
