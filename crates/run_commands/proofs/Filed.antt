-- What a sink over a file has left of the files, by what it tells.
use Rattle.std.proofs.Common.{◌≡◌, ◌⊎◌, ℕ, ◌<◌, ◌≤◌, Bool, true, false, List, [], ◌∷◌, Option, None, Some, Ok, length, drop}
use Rattle.std.proofs.Common.{inl, inr, ⊎_elim, refl, sym, ap, subst, ◌∙◌, arith}
use Rattle.std.proofs.lemmas.Bool.{true≢false}
use Rattle.std.proofs.lemmas.Option.{same_Some}
use Rattle.std.specs.Prelude.{IfSome}
use Rattle.std.specs.Io.KnownBytes.{append_known}
use Rattle.bench_run.specs.trace_model.declared.row.Row.{Row}
use Rattle.bench_run.specs.trace_model.declared.trace.Trace.{Trace}
use Rattle.bench_run.specs.trace_model.Recording.{trace_of}
use Rattle.bench_run.specs.run_model.Stretches.{and_stretch}
use Rattle.vidi_recorder.specs.trace_code.Encoding.{encode}
use Rattle.net_design.specs.declared.design.Design.{Design}
use Rattle.net_design.specs.declared.values.Values.{Values}
use Rattle.net_design.specs.Lawful.{IsLawful}
use Rattle.vidi_recorder.specs.vidi_io.Shelf.{Files, HasStarted, Later, appended, holding, emptied}
use Rattle.vidi_recorder.specs.vidi_io.ShelfSink.{bytes_written, IsOver}
use Rattle.vidi_recorder.specs.vidi_io.Sink.{Frame}
use Rattle.vidi_recorder.specs.vidi_io.Writing.{IsKept}
use Rattle.vidi_recorder.proofs.vidi_io_lemmas.Started.{appended-holding, ok-pushed, written-started}
use Rattle.vidi_recorder.specs.declared.error.Outcome.{Outcome}
use Rattle.vidi_recorder.specs.declared.error.Outcome.TheVariants as outcomes
use Rattle.vidi_recorder.specs.declared.error.RecordError.{RecordError}
use Rattle.vidi_recorder.specs.declared.error.RecordError.TheVariants as errors
use Rattle.vidi_recorder.specs.Course.{Course, IsRunOf}
use Rattle.vidi_recorder.specs.Recording.{EndsWith, FailsWith, IsFrontOfTheRun}
use Rattle.vidi_recorder.specs.Standing.{Reached}
use Rattle.run_commands.specs.Recorded.{FileEnds, FileFails}
use Rattle.run_commands.specs.Records.{IsCutShort, IsStarted}
use Rattle.bench_run.proofs.run_stage_lemmas.Stretching.{rows-push}

-- the frame of a sink over the file of this name
abbrev pub frame : List ℕ → Option Files → (List ℕ → ℕ) → ℕ → Frame
frame name files reads starts = record { name = name; files = files; reads = reads; starts = starts }

told-held : (m : Files) (name bytes : List ℕ) → bytes_written true (holding (Some m) name bytes) name ≡ Some bytes
told-held m name bytes =
    let written : bytes_written true (appended (emptied (Some m) name) name bytes) name
    ≡ append_known (bytes_written false (Some m) name) bytes =
    ok-pushed {T = ℕ} {E = ℕ} (Ok 0) true (emptied (Some m) name) (appended (emptied (Some m) name) name bytes)
    (bytes_written false (Some m) name) name bytes refl (written-started (Some m) name) refl in
    ap (λ (fs : Option Files). bytes_written true fs name) (sym (appended-holding (Some m) name [] bytes)) ∙ written

-- no start succeeded, the file is as before or empty, and where the files are told, nothing was written
record IsUnstarted (files now : Option Files) (name bytes : List ℕ) (first starts : ℕ) : Type 0 where
  none : HasStarted first starts false
  kept : (now ≡ files) ⊎ (now ≡ emptied files name)
  empty : IfSome files (λ _. bytes ≡ [])

-- the file was started once and holds what was told
record IsHeld (files now : Option Files) (name bytes : List ℕ) (first starts : ℕ) : Type 0 where
  once : HasStarted first starts true
  held : now ≡ holding files name bytes

over-left : (started : Bool) (files now : Option Files) (name bytes : List ℕ) (reads before : List ℕ → ℕ) (starts first : ℕ)
    → IsOver started now name reads starts (frame name files before first)
    → bytes_written started now name ≡ append_known (bytes_written false files name) bytes
    → IsHeld files now name bytes first starts ⊎ IsUnstarted files now name bytes first starts
over-left true None now name bytes reads before starts first over told = inl (record { once = over.once; held = over.others.1 })
over-left true (Some m) now name bytes reads before starts first over told =
    let held = over.others in
    inl (record {
      once = over.once;
      held = held.1 ∙ ap (holding (Some m) name) (same_Some held.0 bytes (sym (told-held m name held.0)
          ∙ ap (λ (fs : Option Files). bytes_written true fs name) (sym held.1) ∙ told));
    })
over-left false files now name bytes reads before starts first over told =
    inr (record { none = over.once; kept = over.others; empty = empty files over.others told })
  where
    empty : (fs : Option Files) → (now ≡ fs) ⊎ (now ≡ emptied fs name)
        → bytes_written false now name ≡ append_known (bytes_written false fs name) bytes → IfSome fs (λ _. bytes ≡ [])
    empty None kept told = tt
    empty (Some m) (inl same) told = same_Some bytes [] (sym told ∙ ap (λ (fs : Option Files). bytes_written false fs name) same)
    empty (Some m) (inr same) told = same_Some bytes [] (sym told ∙ ap (λ (fs : Option Files). bytes_written false fs name) same)

-- the file holds these bytes, and was started
abbrev IsLeft : Option Files → Option Files → List ℕ → List ℕ → ℕ → ℕ → Type 0
IsLeft files now name bytes first starts = (now ≡ holding files name bytes) × IsStarted files (HasStarted first starts)

some-held : (files now : Option Files) (name bytes : List ℕ) (first starts : ℕ) → 0 < length bytes
    → IsHeld files now name bytes first starts ⊎ IsUnstarted files now name bytes first starts
    → IsLeft files now name bytes first starts
some-held files now name bytes first starts some (inl is) = (is.held, (true, is.once, λ e. absurd (true≢false e)))
some-held None now name bytes first starts some (inr is) =
    (⊎_elim (λ same. same) (λ same. same) is.kept, (false, is.none, λ _. refl))
some-held (Some m) now name bytes first starts some (inr is) =
    let nothing : length bytes ≡ 0 = ap (λ (bs : List ℕ). length bs) is.empty in absurd (omega (arith, some, nothing))

encoded-some : (t : Trace) → 0 < length (encode t)
encoded-some t = let first : encode t ≡ 86 ∷ drop 1 (encode t) = refl in
    let one : length (encode t) ≡ length (86 ∷ drop 1 (encode t)) = ap (λ (bs : List ℕ). length bs) first in
    omega (arith, one)

whole-left : (started : Bool) (files now : Option Files) (name : List ℕ) (t : Trace) (reads before : List ℕ → ℕ) (starts first : ℕ)
    → IsOver started now name reads starts (frame name files before first)
    → bytes_written started now name ≡ append_known (bytes_written false files name) (encode t)
    → IsLeft files now name (encode t) first starts
whole-left started files now name t reads before starts first over told =
    some-held files now name (encode t) first starts (encoded-some t)
    (over-left started files now name (encode t) reads before starts first over told)

pub file-ends : (w : Course) (runs : Design → Values → Option Row → Type 0) (stands : List Row → Type 0) (started : Bool)
    (files now : Option Files) (name : List ℕ) (reads before : List ℕ → ℕ) (starts first : ℕ) (o : Outcome)
    → IsOver started now name reads starts (frame name files before first)
    → EndsWith w runs stands (bytes_written false files name) (bytes_written started now name) o
    → FileEnds w files name (HasStarted first starts) now o
file-ends w runs stands started files now name reads before starts first (outcomes.Whole packets) over (rows, run, kept) =
    let left = whole-left started files now name (trace_of w.bound.channels rows) reads before starts first over kept.told in
    (rows, (run, left.0, left.1), kept.count)
file-ends w runs stands started files now name reads before starts first (outcomes.Unstable channel cycle packets) over
    (rows, run, is, kept) =
    let left = whole-left started files now name (trace_of w.bound.channels rows) reads before starts first over kept.told in
    (rows, (run, left.0, left.1), is)

reached-run : (w : Course) (runs : Design → Values → Option Row → Type 0) (rows : List Row) → Reached w runs rows → IsRunOf w rows
reached-run w runs rows x = record {
  stretches = and_stretch x.past x.here;
  rows_are = rows-push x.past x.here ∙ x.rows_are;
  run = x.run;
}

-- what a failed write leaves
left-short : (w : Course) (files now : Option Files) (name bytes : List ℕ) (first starts : ℕ) (rows : List Row) → IsRunOf w rows
    → IsFrontOfTheRun w rows bytes → IsHeld files now name bytes first starts ⊎ IsUnstarted files now name bytes first starts
    → IsCutShort w files name (HasStarted first starts) now
left-short w files now name bytes first starts rows run front (inl is) =
    inr (true, is.once, rows, bytes, run, front, is.held, λ e. absurd (true≢false e))
left-short w None now name bytes first starts rows run front (inr is) = inl (is.none, ⊎_elim (λ same. same) (λ same. same) is.kept)
left-short w (Some m) now name bytes first starts rows run front (inr is) = kept is.kept
  where
    kept : (now ≡ Some m) ⊎ (now ≡ emptied (Some m) name) → IsCutShort w (Some m) name (HasStarted first starts) now
    kept (inl same) = inl (is.none, same)
    kept (inr same) = inr (
      false,
      is.none,
      rows,
      [],
      run,
      subst (λ (bs : List ℕ). IsFrontOfTheRun w rows bs) is.empty front,
      same,
      λ _. refl,
    )

pub file-fails : (w : Course) (runs : Design → Values → Option Row → Type 0) (stands : List Row → Type 0) (started : Bool)
    (files now : Option Files) (name : List ℕ) (reads before : List ℕ → ℕ) (starts first : ℕ) (e : RecordError)
    → IsOver started now name reads starts (frame name files before first)
    → FailsWith w runs stands (bytes_written false files name) (bytes_written started now name) e
    → (e ≡ errors.Memory → IsKept files (HasStarted first starts) now) → IsLawful w.design
    → FileFails w files name (HasStarted first starts) now e
file-fails w runs stands started files now name reads before starts first errors.Memory over is kept lawful = kept refl
file-fails w runs stands started files now name reads before starts first errors.WriteFault over cut kept lawful =
    let rows = cut.rows in
    let front = cut.of_the_run lawful in
    let left = over-left started files now name cut.bytes reads before starts first over cut.told in
    left-short w files now name cut.bytes first starts rows (reached-run w runs rows cut.reached) front left

-- what holds of what a call gives, and of the error that it gives
pub later-as : (before now last : List ℕ → ℕ) (old was new end : ℕ) → last ≡ now → end ≡ new → was ≡ old
    → ((q : List ℕ) → before q ≤ now q) → was ≤ new → Later before last old end
later-as before now last old was new end l e w reads writes = record {
  reads = λ q. subst (λ (h : List ℕ → ℕ). before q ≤ h q) (sym l) (reads q);
  writes = omega (arith, e, w, writes);
}

-- ---- a sink that was made over a file
over-fresh : (files : Option Files) (name : List ℕ) (reads : List ℕ → ℕ) (starts first : ℕ) → starts ≡ first
    → IsOver false files name reads starts (frame name files reads first)
over-fresh files name reads starts first same = record {
  same_name = refl;
  others = inl refl;
  once = same;
  counts = λ q. omega (arith);
}

pub fresh-over : (started : Bool) (files now : Option Files) (name to : List ℕ) (reads before : List ℕ → ℕ) (starts first : ℕ)
    → started ≡ false → now ≡ files → name ≡ to → reads ≡ before → starts ≡ first
    → IsOver started now name reads starts (frame to files before first)
fresh-over started files now name to reads before starts first s f n r c =
    subst (λ (b : Bool). IsOver b now name reads starts (frame to files before first)) (sym s)
    (subst (λ (fs : Option Files). IsOver false fs name reads starts (frame to files before first)) (sym f)
    (subst (λ (q : List ℕ). IsOver false files q reads starts (frame to files before first)) (sym n)
    (subst (λ (h : List ℕ → ℕ). IsOver false files to h starts (frame to files before first)) (sym r)
    (over-fresh files to before starts first c))))

pub ends-in-file : (w : Course) (runs : Design → Values → Option Row → Type 0) (stands : List Row → Type 0)
    (started first : Bool) (files now was left : Option Files) (trace name called : List ℕ) (reads before : List ℕ → ℕ)
    (starts made end : ℕ) (o : Outcome) → first ≡ false → was ≡ files → called ≡ trace → left ≡ now → end ≡ starts
    → IsOver started now name reads starts (frame trace files before made)
    → EndsWith w runs stands (bytes_written first was called) (bytes_written started now name) o
    → FileEnds w files trace (HasStarted made end) left o
ends-in-file w runs stands started first files now was left trace name called reads before starts made end o s f n l m over ends =
    let old : bytes_written first was called ≡ bytes_written false files trace = λ i. bytes_written (s i) (f i) (n i) in
    let new : bytes_written started now name ≡ bytes_written started now trace =
    ap (λ (q : List ℕ). bytes_written started now q) over.same_name in
    let over' = subst (λ (q : List ℕ). IsOver started now q reads starts (frame trace files before made)) over.same_name over in
    let ends' = subst (λ (k : Option (List ℕ)). EndsWith w runs stands k (bytes_written started now trace) o) old
    (subst (λ (k : Option (List ℕ)). EndsWith w runs stands (bytes_written first was called) k o) new ends) in
    subst (λ (n : ℕ). FileEnds w files trace (HasStarted made n) left o) (sym m)
    (subst (λ (fs : Option Files). FileEnds w files trace (HasStarted made starts) fs o) (sym l)
    (file-ends w runs stands started files now trace reads before starts made o over' ends'))

pub fails-in-file : (w : Course) (runs : Design → Values → Option Row → Type 0) (stands : List Row → Type 0)
    (started first : Bool) (files now was left : Option Files) (trace name called : List ℕ) (reads before : List ℕ → ℕ)
    (starts made end : ℕ) (e : RecordError) → first ≡ false → was ≡ files → called ≡ trace → left ≡ now → end ≡ starts
    → IsOver started now name reads starts (frame trace files before made)
    → FailsWith w runs stands (bytes_written first was called) (bytes_written started now name) e
    → (e ≡ errors.Memory → IsKept files (HasStarted made starts) now) → IsLawful w.design
    → FileFails w files trace (HasStarted made end) left e
fails-in-file w runs stands started first files now was left trace name called reads before starts made end e s f n l m over fails kept
    lawful =
    let old : bytes_written first was called ≡ bytes_written false files trace = λ i. bytes_written (s i) (f i) (n i) in
    let new : bytes_written started now name ≡ bytes_written started now trace =
    ap (λ (q : List ℕ). bytes_written started now q) over.same_name in
    let over' = subst (λ (q : List ℕ). IsOver started now q reads starts (frame trace files before made)) over.same_name over in
    let fails' = subst (λ (k : Option (List ℕ)). FailsWith w runs stands k (bytes_written started now trace) e) old
    (subst (λ (k : Option (List ℕ)). FailsWith w runs stands (bytes_written first was called) k e) new fails) in
    subst (λ (n : ℕ). FileFails w files trace (HasStarted made n) left e) (sym m)
    (subst (λ (fs : Option Files). FileFails w files trace (HasStarted made starts) fs e) (sym l)
    (file-fails w runs stands started files now trace reads before starts made e over' fails' kept lawful))
