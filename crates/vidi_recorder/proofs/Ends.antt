-- What a recording leaves, by how it ends.
use Rattle.std.proofs.Common.{◌≡◌, ℕ, ◌<◌, ◌≤◌, Bool, true, false, not, nat_lt, List, [], ◌∷◌, ◌++◌, ⊎_elim, Option, Some, None, inl, inr, length}
use Rattle.std.proofs.Common.{refl, sym, subst, ap, ◌∙◌, arith}
use Rattle.std.proofs.lemmas.Bool.{and_left, and_right, cases_lt, false_from_ne_true, false≢true, le-ltb}
use Rattle.std.specs.Io.KnownBytes.{append_known}
use Rattle.trace_code.specs.trace_model.declared.row.Row.{Row}
use Rattle.trace_code.specs.trace_model.Channel.{IsTable}
use Rattle.trace_code.specs.Encoding.{end_mark, header_bytes}
use Rattle.net_design.specs.declared.design.Design.{Design}
use Rattle.net_design.specs.declared.values.Values.{Values}
use Rattle.room_ledger.specs.Ledger.{Ledger}
use Rattle.run_stage.specs.chan_monitor.Shell.{IsMapped}
use Rattle.trace_code.specs.trace_model.declared.packet.TheConstants.{MOST_CYCLES}
use Rattle.vidi_io.specs.Sink.{AppendsSome}
use Rattle.vidi_recorder.specs.declared.error.Outcome.{Outcome}
use Rattle.vidi_recorder.specs.declared.error.Outcome.TheVariants.{Whole, Unstable}
use Rattle.env_script.specs.chan_map.declared.pins.Map.{Map}
use Rattle.env_script.specs.chan_map.vidi_bits.Findings.{is_nil}
use Rattle.env_script.specs.Offer.{Offer}
use Rattle.env_script.specs.Resets.{is_due_behind}
use Rattle.room_ledger.specs.Gates.{Plan}
use Rattle.run_stage.specs.declared.ending.Ending.{Ending}
use Rattle.run_stage.specs.declared.ending.Ending.TheVariants as endings
use Rattle.run_stage.specs.Stretching.{all_rows, AllAreStable, ArePlayed, CameBehind, IsAsked, StopIn}
use Rattle.trace_code.specs.trace_model.declared.channel.Channel.{Channel}
use Rattle.trace_code.specs.trace_model.Row.{row_before}
use Rattle.vidi_recorder.specs.Course.{Course, IsTheRunOf, turns_under, turns_within}
use Rattle.vidi_recorder.specs.Recording.{EndsWith, IsCutOff, IsRecorded}
use Rattle.vidi_recorder.specs.Standing.{Cut, Going, IsNextFresh, Reached, RunsTo, bytes_so_far, ended}
use Rattle.vidi_recorder.proofs.Going.{count-closed, cut-end, told-closed}
use Rattle.vidi_recorder.proofs.Kept.{run-over}
use Rattle.vidi_recorder.proofs.Played.{Rule, Within, front-so_far, reached, stopped, the-run, the_course}
use Rattle.vidi_recorder.proofs.Runs.{FitsBehind, ended-front, run-long, run-of}
use Rattle.vidi_recorder.proofs.Short.{trace-short}

module _ (w : Course) (runs : Design → Values → Option Row → Type 0) (stands_for : List Row → Type 0) (rows : List Row)
    (first told now : Option (List ℕ)) (reached : Reached w runs rows) (fresh : Bool) (none : fresh ≡ false) where
  recorded : (room : Ledger) (items : List ℕ) (packets : ℕ) (stop : Option ℕ)
      → Going w.bound.channels w.plan first rows fresh room items told packets
      → stands_for rows → now ≡ append_known told (items ++ end_mark packets) → IsTable w.bound.channels → w.cycles ≤ MOST_CYCLES
      → IsTheRunOf w rows stop → IsRecorded w runs stands_for rows first now packets
  recorded room items packets stop going stands e table few the = record {
    played = stands;
    reached = reached;
    told = told-closed w.bound.channels w.plan first rows fresh none room items told now packets going e;
    count = count-closed w.bound.channels w.plan first rows fresh none room items told now packets going;
    short = (let l = run-within the in
        trace-short w.bound.channels table rows (run-over w rows (run-of w rows stop the)) (omega (arith, l, few)));
  }
    where
      run-within : IsTheRunOf w rows stop → length rows ≤ w.cycles
      run-within the = let l = run-long w the.past the.here stop the.run in let e = ap length the.rows_are in omega (arith, l, e)

  -- a push failed at the end
  cut-at_end : (room : Ledger) (items : List ℕ) (packets : ℕ) (stop : Option ℕ)
      → Going w.bound.channels w.plan first rows fresh room items told packets → stands_for rows
      → AppendsSome told now (items ++ end_mark packets) → IsMapped w.design w.bound → FitsBehind w
      → IsTheRunOf w rows stop → IsCutOff w runs stands_for first now
  cut-at_end room items packets stop going stands some ready fit the =
      let cut = cut-end w.bound.channels w.plan first rows fresh none room items told now packets going some in
      let l = run-long w the.past the.here stop the.run in
      let e = ap length the.rows_are in
      record {
        rows = rows;
        bytes = cut.bytes;
        played = stands;
        reached = reached;
        within = omega (arith, l, e);
        told = cut.told_is;
        front = (cut.lost, inr (stop, the, cut.all));
        of_the_run = ended-front w ready fit rows stop cut.bytes cut.lost the cut.all;
        out = cut.out;
      }

  -- by the outcome
  pub ends-as : (room : Ledger) (items : List ℕ) (packets : ℕ) (outcome : Outcome)
      → Going w.bound.channels w.plan first rows fresh room items told packets → stands_for rows
      → now ≡ append_known told (items ++ end_mark packets) → IsTable w.bound.channels → w.cycles ≤ MOST_CYCLES
      → RunsTo w rows packets outcome → EndsWith w runs stands_for first now outcome
  ends-as room items packets (Whole n) going stands e table few (run, same) = (
    rows,
    run,
    subst (IsRecorded w runs stands_for rows first now) (sym same)
        (recorded room items packets None going stands e table few run),
  )
  ends-as room items packets (Unstable channel cycle n) going stands e table few (run, long, same) = (
    rows,
    run,
    long,
    subst (IsRecorded w runs stands_for rows first now) (sym same)
        (recorded room items packets (Some channel) going stands e table few run),
  )

  pub cut-as : (room : Ledger) (items : List ℕ) (packets : ℕ) (outcome : Outcome)
      → Going w.bound.channels w.plan first rows fresh room items told packets → stands_for rows
      → AppendsSome told now (items ++ end_mark packets) → IsMapped w.design w.bound → FitsBehind w
      → RunsTo w rows packets outcome → IsCutOff w runs stands_for first now
  cut-as room items packets (Whole n) going stands some ready fit (run, same) = cut-at_end room items packets None going stands some ready fit run
  cut-as room items packets (Unstable channel cycle n) going stands some ready fit (run, long, same) =
      cut-at_end room items packets (Some channel) going stands some ready fit run

-- ---- the cycles ended
module _ (d : Design) (m : Map) (offer : List Row → ℕ → Offer) (plan : Plan) (times : List ℕ) (cycles : ℕ) (past : List (List Row))
    (here : List Row) where
  abbrev Comes : List (List Row) → List Row → Type 0
  Comes = Within d m offer plan times cycles

  abbrev Played : Type 0
  Played = ArePlayed d m (Rule d m offer plan times cycles) Comes past here

  -- a recorder is never done before
  pub ran-to : (packets : ℕ) (ending : Ending) → Played → AllAreStable m.channels past here → IsAsked past (length here)
      → StopIn d m (Rule d m offer plan times cycles) Comes past here ending → CameBehind (λ _ _ over. over ≡ false) cycles past here ending
      → RunsTo (the_course d m offer plan times cycles) (all_rows past here) packets (ended packets ending)
  ran-to packets endings.Whole played stable asked stops came = (
    record {
      past = past;
      here = here;
      rows_are = refl;
      run = (let long = came.0 in the-run d m offer plan times cycles past here played asked (omega (arith, long)) stable long);
    },
    refl,
  )
  ran-to packets (endings.Done n) played stable asked stops came = absurd (false≢true (sym came.1))
  ran-to packets (endings.Unstable channel cycle) played stable asked stops came = (
    record {
      past = past;
      here = here;
      rows_are = refl;
      run = stopped d m offer plan times cycles past here played channel stable stops.0 stops.1 came.1;
    },
    sym came.0,
    refl,
  )

  -- no reset comes behind the last row
  pub none-next : (fresh : Bool) (ending : Ending) → IsNextFresh m.channels plan times cycles past here fresh → IsAsked past (length here)
      → StopIn d m (Rule d m offer plan times cycles) Comes past here ending → CameBehind (λ _ _ over. over ≡ false) cycles past here ending
      → fresh ≡ false
  none-next fresh ending next asked stops came = ⊎_elim
      (λ (l : 0 < length here). next.goes_on l ∙ last ending stops came l)
      (λ (z : length here ≤ 0). first past here next.begins z asked)
      (cases_lt 0 (length here))
    where
      first : (p : List (List Row)) (rows : List Row) → (rows ≡ [] → fresh ≡ not (is_nil p)) → length rows ≤ 0 → IsAsked p (length rows)
          → fresh ≡ false
      first p (row ∷ rows) begins z a = absurd (omega (arith, z))
      first [] [] begins z a = begins refl
      first (s ∷ p) [] begins z a = ⊎_elim
          (λ (e : s ∷ p ≡ []). absurd (let n = ap (λ (x : List (List Row)). length x) e in omega (arith, n)))
          (λ (l : 0 < 0). absurd (omega (arith, l)))
          a

      last : (e : Ending) → StopIn d m (Rule d m offer plan times cycles) Comes past here e
          → CameBehind (λ _ _ over. over ≡ false) cycles past here e → 0 < length here
          → turns_within m.channels plan times cycles (all_rows past here) ≡ false
      last endings.Whole s c l =
          let long = c.0 in
          and_left (nat_lt (length (all_rows past here)) cycles) (turns_under m.channels plan times (all_rows past here))
          (le-ltb (length (all_rows past here)) cycles (omega (arith, long)))
      last (endings.Done n) s c l = absurd (false≢true (sym c.1))
      last (endings.Unstable channel cycle) s c l =
          false_from_ne_true (turns_within m.channels plan times cycles (all_rows past here)) (s.1 l)

  -- a push failed before
  pub cut-before : (runs : Design → Values → Option Row → Type 0) (stands_for : List Row → Type 0) (first now : Option (List ℕ))
      (fresh : Bool) → fresh ≡ turns_within m.channels plan times cycles (all_rows past here)
      → Cut m.channels plan first (all_rows past here) fresh now → stands_for (all_rows past here) → IsMapped d m
      → FitsBehind (the_course d m offer plan times cycles) → (played : Played) → AllAreStable m.channels past here
      → IsAsked past (length here) → length (all_rows past here) ≤ cycles
      → runs d (played.last.driven.state (length here)) (row_before here (length here))
      → IsCutOff (the_course d m offer plan times cycles) runs stands_for first now
  cut-before runs stands_for first now fresh same cut stands ready fit played stable asked few at =
      let all = cut.all ∙ ap (λ b. header_bytes m.channels ++ bytes_so_far m.channels (all_rows past here) b) same in
      record {
        rows = all_rows past here;
        bytes = cut.bytes;
        played = stands;
        reached = reached d m offer plan times cycles past here played asked few runs at;
        within = few;
        told = cut.told_is;
        front = (cut.lost, inl all);
        of_the_run = λ lawful. front-so_far d m offer plan times cycles past here played asked few stable ready fit lawful cut.bytes cut.lost all;
        out = cut.out;
      }

-- before row 0 no reset comes
pub none-first : (channels : List Channel) (plan : Plan) (times : List ℕ) (cycles : ℕ) → false ≡ turns_within channels plan times cycles []
none-first channels plan times cycles =
    sym (and_right (nat_lt 0 cycles) (turns_under channels plan times []) (and_right (is_due_behind times []) false refl))
