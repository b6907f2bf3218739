use Rattle.std.proofs.Common.{ℕ, List, inl, inr}
use Rattle.std.specs.Prelude.{IfOk, IfErr}
use Rattle.vidi_bench.specs.vidi_io.Cause.{Rose}
use Rattle.vidi_bench.specs.report_text.declared.reason.Word.TheVariants as words
use Rattle.vidi_bench.specs.Design.{text_limit}
use Rattle.vidi_bench.specs.Ended.{EndsWith}
use Rattle.vidi_bench.specs.Reading.{IsUnread}
use Rattle.wrap_command.specs.Wraps.{IsPlannedTexts, IsUnwritten, RefusedWrap}
use Rattle.vidi_bench.proofs.Chain.{all-as, passed-as, read-as, rose-since, unread-as}
use Rattle.wrap_command.proofs.Written.{planned-said}
use Rattle.wrap_command.proofs.wrapping.plan_wrap.Goals as goal

pub returns-in_err-map-clause-refused : goal.returns-in_err-map-clause-refused
returns-in_err-map-clause-refused g c =
    let S = g.S.Shelf in
    let files = S.files c.args.shelf.now in
    let old = S.read_faults c.args.shelf.now in
    let middle = S.read_faults c.read_file.new.shelf in
    let now = S.read_faults c.read_file-2.new.shelf in
    let F = λ (name : List ℕ). Rose (old name) (now name) in
    let G = λ (name : List ℕ). Rose (middle name) (now name) in
    let map = c.args.map.now in
    let unread = unread-as text_limit words.Map map files (S.files c.read_file.new.shelf) G F c.read_file.ensures.files
    (λ rose. rose-since (old map) (middle map) (now map) (c.read_file.ensures.counts.reads map) rose) in
    passed-as (IsUnread text_limit words.Map map (S.files c.read_file.new.shelf) G)
    (IsUnwritten c.args.design.now map files F) c.in_err-map.field-0.0
    c.from_residual-in_err-map.result c.from_residual-in_err-map.ensures.1
    (λ a x is. inr (c.in_ok-design.design, c.in_ok-design.ensures.read, inl (unread a x is))) c.in_err-map.ensures.refused

pub returns-clause-planned : goal.returns-clause-planned
returns-clause-planned g c =
    let S = g.S.Shelf in
    let files = S.files c.args.shelf.now in
    let design = c.in_ok-design.design in
    let map = c.in_ok-map.map in
    let map-read = read-as text_limit c.args.map.now files (S.files c.read_file.new.shelf) map c.read_file.ensures.files
    c.in_ok-map.ensures.read in
    let planned : IfOk c.plan_texts.result (λ p. IsPlannedTexts design map p.text p.channels) =
    rw c.as_slice-2.ensures at (rw c.as_slice.ensures at c.plan_texts.ensures.planned) in
    planned-said c.args.design.now c.args.map.now files design map c.plan_texts.result c.in_ok-design.ensures.read map-read planned

pub returns-clause-refused : goal.returns-clause-refused
returns-clause-refused g c =
    let S = g.S.Shelf in
    let files = S.files c.args.shelf.now in
    let F = λ (name : List ℕ). Rose (S.read_faults c.args.shelf.now name) (S.read_faults c.read_file-2.new.shelf name) in
    let design = c.in_ok-design.design in
    let map = c.in_ok-map.map in
    let map-read = read-as text_limit c.args.map.now files (S.files c.read_file.new.shelf) map c.read_file.ensures.files
    c.in_ok-map.ensures.read in
    let refused : IfErr c.plan_texts.result (EndsWith (RefusedWrap design map)) =
    rw c.as_slice-2.ensures at (rw c.as_slice.ensures at c.plan_texts.ensures.refused) in
    all-as (RefusedWrap design map) (IsUnwritten c.args.design.now c.args.map.now files F) c.plan_texts.result
    (λ a x is. inr (design, c.in_ok-design.ensures.read, inr (map, map-read, is))) refused
