use Rattle.std.proofs.Common.{◌≡◌, ℕ, List, inl, inr, ◌∙◌}
use Rattle.std.specs.Prelude.{IfOk, IfErr}
use Rattle.vidi_bench.specs.vidi_io.Cause.{Rose}
use Rattle.vidi_bench.specs.report_text.declared.reason.Word.TheVariants as words
use Rattle.vidi_bench.specs.Design.{text_limit}
use Rattle.vidi_bench.specs.Devices.{IsDevice}
use Rattle.vidi_bench.specs.Ended.{EndsWith}
use Rattle.vidi_bench.specs.Reading.{IsUnread}
use Rattle.replay_command.specs.Replays.{IsUnreplayed, RefusedReplay}
use Rattle.vidi_bench.specs.Traces.{trace_limit}
use Rattle.vidi_bench.proofs.Chain.{all-as, passed-as, read-as, rose-since, unread-as}
use Rattle.replay_command.proofs.Replayed.{bytes-encode, replayable-said}
use Rattle.replay_command.proofs.replaying.plan_replay.Goals as goal

pub returns-in_err-map-clause-refused : goal.returns-in_err-map-clause-refused
returns-in_err-map-clause-refused g c =
    let S = g.S.Shelf in
    let files = S.files c.args.shelf.now in
    let old = S.read_faults c.args.shelf.now in
    let middle = S.read_faults c.read_file.new.shelf in
    let now = S.read_faults c.read_file-2.new.shelf in
    let F = λ (name : List ℕ). Rose (old name) (now name) in
    let G = λ (name : List ℕ). Rose (middle name) (now name) in
    let map = c.args.map.now in
    let unread = unread-as text_limit words.Map map files (S.files c.read_file.new.shelf) G F c.read_file.ensures.files
    (λ rose. rose-since (old map) (middle map) (now map) (c.read_file.ensures.counts.reads map) rose) in
    passed-as (IsUnread text_limit words.Map map (S.files c.read_file.new.shelf) G)
    (IsUnreplayed c.args.design.now map c.args.trace.now files F) c.in_err-map.field-0.0
    c.from_residual-in_err-map.result c.from_residual-in_err-map.ensures.1
    (λ a x is. inr (c.in_ok-design.design, c.in_ok-design.ensures.read, inl (unread a x is))) c.in_err-map.ensures.refused

pub returns-in_err-bytes-clause-refused : goal.returns-in_err-bytes-clause-refused
returns-in_err-bytes-clause-refused g c =
    let S = g.S.Shelf in
    let files = S.files c.args.shelf.now in
    let old = S.read_faults c.args.shelf.now in
    let first = S.read_faults c.read_file.new.shelf in
    let middle = S.read_faults c.read_file-2.new.shelf in
    let now = S.read_faults c.read_file-3.new.shelf in
    let F = λ (name : List ℕ). Rose (old name) (now name) in
    let G = λ (name : List ℕ). Rose (middle name) (now name) in
    let trace = c.args.trace.now in
    let same : S.files c.read_file-2.new.shelf ≡ files = c.read_file-2.ensures.files ∙ c.read_file.ensures.files in
    let unread = unread-as trace_limit words.Trace trace files (S.files c.read_file-2.new.shelf) G F same
    (λ rose. rose-since (old trace) (first trace) (now trace) (c.read_file.ensures.counts.reads trace)
    (rose-since (first trace) (middle trace) (now trace) (c.read_file-2.ensures.counts.reads trace) rose)) in
    let map-read = read-as text_limit c.args.map.now files (S.files c.read_file.new.shelf) c.in_ok-map.map c.read_file.ensures.files
    c.in_ok-map.ensures.read in
    passed-as (IsUnread trace_limit words.Trace trace (S.files c.read_file-2.new.shelf) G)
    (IsUnreplayed c.args.design.now c.args.map.now trace files F) c.in_err-bytes.field-0.0
    c.from_residual-in_err-bytes.result c.from_residual-in_err-bytes.ensures.1
    (λ a x is. inr (c.in_ok-design.design, c.in_ok-design.ensures.read, inr (c.in_ok-map.map, map-read, inl (unread a x is))))
    c.in_err-bytes.ensures.refused

pub returns-clause-planned : goal.returns-clause-planned
returns-clause-planned g c =
    let S = g.S.Shelf in
    let files = S.files c.args.shelf.now in
    let design = c.in_ok-design.design in
    let map = c.in_ok-map.map in
    let bytes = c.in_ok-bytes.bytes in
    let same : S.files c.read_file-2.new.shelf ≡ files = c.read_file-2.ensures.files ∙ c.read_file.ensures.files in
    let map-read = read-as text_limit c.args.map.now files (S.files c.read_file.new.shelf) map c.read_file.ensures.files
    c.in_ok-map.ensures.read in
    let trace-read = read-as trace_limit c.args.trace.now files (S.files c.read_file-2.new.shelf) bytes same c.in_ok-bytes.ensures.read in
    let device : IfOk c.plan_texts.result (λ p. IsDevice design map p.device) =
    rw c.as_slice-2.ensures at (rw c.as_slice.ensures at c.plan_texts.ensures.device) in
    replayable-said c.args.design.now c.args.map.now c.args.trace.now files design map bytes c.plan_texts.result
    c.in_ok-design.ensures.read map-read trace-read device c.plan_texts.ensures.encodes c.plan_texts.ensures.same

pub returns-clause-encodes : goal.returns-clause-encodes
returns-clause-encodes g c = bytes-encode c.in_ok-bytes.bytes c.plan_texts.result c.plan_texts.ensures.bytes c.plan_texts.ensures.encodes

pub returns-clause-refused : goal.returns-clause-refused
returns-clause-refused g c =
    let S = g.S.Shelf in
    let files = S.files c.args.shelf.now in
    let F = λ (name : List ℕ). Rose (S.read_faults c.args.shelf.now name) (S.read_faults c.read_file-3.new.shelf name) in
    let design = c.in_ok-design.design in
    let map = c.in_ok-map.map in
    let bytes = c.in_ok-bytes.bytes in
    let same : S.files c.read_file-2.new.shelf ≡ files = c.read_file-2.ensures.files ∙ c.read_file.ensures.files in
    let map-read = read-as text_limit c.args.map.now files (S.files c.read_file.new.shelf) map c.read_file.ensures.files
    c.in_ok-map.ensures.read in
    let trace-read = read-as trace_limit c.args.trace.now files (S.files c.read_file-2.new.shelf) bytes same c.in_ok-bytes.ensures.read in
    let refused : IfErr c.plan_texts.result (EndsWith (RefusedReplay design map bytes)) =
    rw c.as_slice-2.ensures at (rw c.as_slice.ensures at c.plan_texts.ensures.refused) in
    all-as (RefusedReplay design map bytes) (IsUnreplayed c.args.design.now c.args.map.now c.args.trace.now files F) c.plan_texts.result
    (λ a x is. inr (design, c.in_ok-design.ensures.read, inr (map, map-read, inr (bytes, trace-read, is)))) refused
