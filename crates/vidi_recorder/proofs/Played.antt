-- Stretches that a recorder has played are a run of its course.
use Rattle.std.proofs.Common.{◌≡◌, ℕ, zero, suc, ◌+◌, ◌<◌, ◌≤◌, ◌&&◌, true, false, not, List, [], ◌∷◌, ◌++◌, Option, Some, None, length, take}
use Rattle.std.proofs.Common.{slice_get, nat_lt, refl, ap, sym, subst, ◌∙◌, arith, ⊎_elim}
use Rattle.std.proofs.Math.Logic.{∥∥₁_elim, ∥∥₁_prop}
use Rattle.std.proofs.lemmas.Bool.{and_from, and_parts, cases_Bool, cases_lt, false≢true, lt-ltb, ltb-true}
use Rattle.std.proofs.lemmas.List.{length-append, length-take-le, length_push, take_at}
use Rattle.std.proofs.lemmas.Option.{slice_get_within}
use Rattle.trace_code.specs.trace_model.declared.channel.Channel.{Channel}
use Rattle.trace_code.specs.trace_model.declared.row.Row.{Row}
use Rattle.trace_code.specs.trace_model.Row.{row_before}
use Rattle.trace_code.specs.Encoding.{header_bytes}
use Rattle.net_design.specs.declared.design.Design.{Design}
use Rattle.net_design.specs.declared.values.Values.{Values}
use Rattle.net_design.specs.Lawful.{IsLawful}
use Rattle.env_script.specs.chan_map.declared.pins.Map.{Map}
use Rattle.env_script.specs.chan_map.vidi_bits.Findings.{is_nil}
use Rattle.env_script.specs.run_model.Played.{AreStable, IsPlayed, StopsBefore}
use Rattle.env_script.specs.run_model.Stretches.{IsRunBehind, IsTurned, IsUnturned, Turns, and_stretch, rows_of}
use Rattle.env_script.specs.Offer.{Offer}
use Rattle.env_script.specs.Offered.{offers_after}
use Rattle.env_script.specs.Resets.{is_due_behind}
use Rattle.room_ledger.specs.Gates.{Plan}
use Rattle.run_laws.proofs.Behind as behind
use Rattle.run_stage.specs.chan_monitor.Shell.{IsMapped}
use Rattle.run_stage.specs.Stretching.{all_rows, AllAreStable, ArePlayed, GoesOn, IsAsked}
use Rattle.run_stage.proofs.Stretching.{all-push, before-push, unturned-push, lone-row, rows-push}
use Rattle.vidi_recorder.specs.Course.{Course, AreRunOf, AreTheRunOf, IsTheRunOf, gates_behind, turns_under, turns_within}
use Rattle.vidi_recorder.specs.Recording.{IsFrontOfTheRun}
use Rattle.vidi_recorder.specs.Standing.{Reached, bytes_so_far, rule_within}
use Rattle.vidi_recorder.proofs.Runs.{FitsBehind, first-rows, front-first, front-next, front-there, is-ready, one-row}
use Rattle.vidi_recorder.proofs.Gated.{each-over}
use Rattle.vidi_recorder.proofs.Kept.{some-past}

module _ (d : Design) (m : Map) (offer : List Row → ℕ → Offer) (plan : Plan) (times : List ℕ) (cycles : ℕ) where
  abbrev pub the_course : Course
  the_course = record { design = d; bound = m; offers = offers_after m.channels offer; plan = plan; times = times; cycles = cycles }

  abbrev pub Within : List (List Row) → List Row → Type 0
  Within = Turns (turns_within m.channels plan times cycles)

  abbrev pub Under : List (List Row) → List Row → Type 0
  Under = Turns (turns_under m.channels plan times)

  abbrev pub Rule : List (List Row) → List Row → Row → Type 0
  Rule = rule_within m.channels offer plan times cycles

  abbrev pub Behind : List (List Row) → List Row → Type 0
  Behind = IsRunBehind d m (offers_after m.channels offer) (gates_behind m.channels plan)

  -- no row of a stretch comes behind one behind which a reset comes, so each is as *IsRun* says
  abbrev pub strict : (past : List (List Row)) (rows : List Row) → IsPlayed d m (Rule past) rows → IsUnturned Within past rows → Behind past rows
  strict past rows played unturned = record {
    marked = played.marked;
    driven = played.driven;
    ruled = λ t row at. played.ruled t row at (λ some turned.
        (let l = slice_get_within rows t row at in
        let long = length-take-le t rows (omega (arith, l)) in
        unturned t (omega (arith, some, long)) l turned));
  }

  -- where there is a row behind these, a reset comes behind them within the cycles exactly where it comes at all
  widen : (past : List (List Row)) (rows : List Row) → length (rows_of past ++ rows) ≤ cycles → IsUnturned Within past rows
      → IsUnturned Under past rows
  widen past rows few unturned k some l h =
      let front = rows_of past ++ take k rows in
      let a = length-append (rows_of past) (take k rows) in
      let b = length-append (rows_of past) rows in
      let c = length-take-le k rows (omega (arith, l)) in
      let less : length front < cycles = omega (arith, a, b, c, few, l) in
      unturned k some l (and_from (nat_lt (length front) cycles) (turns_under m.channels plan times front) (lt-ltb (length front) cycles less) h)

  -- behind rows behind which a reset comes there is a cycle
  pub some-left : (past : List (List Row)) (rows : List Row) → Within past rows → length (rows_of past ++ rows) < cycles
  some-left past rows h = ltb-true (length (rows_of past ++ rows)) cycles
      (and_parts (nat_lt (length (rows_of past ++ rows)) cycles) (turns_under m.channels plan times (rows_of past ++ rows)) h).0

  abbrev pub Turned : (List (List Row) → List Row → Type 0) → (List (List Row) → List Row → Type 0) → List (List Row) → Type 0
  Turned Is Turn past = (k : ℕ) (rows : List Row) → slice_get past k ≡ Some rows → IsTurned Is Turn (take k past) rows

  pub each-turned : (past : List (List Row)) → Turned (λ p. IsPlayed d m (Rule p)) Within past → Turned Behind Under past
  each-turned past each k rows at =
      let t = each k rows at in
      let left = some-left (take k past) rows t.turns in
      record {
        is = strict (take k past) rows t.is t.unturned;
        some = t.some;
        turns = (and_parts (nat_lt (length (rows_of (take k past) ++ rows)) cycles)
            (turns_under m.channels plan times (rows_of (take k past) ++ rows)) t.turns).1;
        unturned = widen (take k past) rows (omega (arith, left)) t.unturned;
      }

  -- before a row of a stretch no reset comes
  pub goes-on : (past : List (List Row)) (here : List Row) (row : Row) → IsUnturned Within past (here ++ row ∷ []) → GoesOn Within past here
  goes-on past here row unturned some h =
      let long = length_push here row in
      unturned (length here) some (omega (arith, long)) (subst (Within past) (sym (take_at here (row ∷ []) (length here) refl)) h)

  -- ---- the rows so far
  module _ (past : List (List Row)) (here : List Row) (played : ArePlayed d m Rule Within past here) where
    module _ (asked : IsAsked past (length here)) (few : length (all_rows past here) ≤ cycles) where
      some : 0 < length past → 0 < length here
      some l = ⊎_elim
          (λ (e : past ≡ []). (let n = ap (λ (p : List (List Row)). length p) e in absurd (omega (arith, n, l))))
          (λ (h : 0 < length here). h)
          asked

      pub are-run : AreRunOf the_course (and_stretch past here)
      are-run = behind.run-of d m (offers_after m.channels offer) (gates_behind m.channels plan) (turns_under m.channels plan times) past here
          (each-turned past played.before) (strict past here played.last played.unturned) (widen past here few played.unturned) some

      pub reached : (runs : Design → Values → Option Row → Type 0)
          → runs d (played.last.driven.state (length here)) (row_before here (length here)) → Reached the_course runs (all_rows past here)
      reached runs at = record {
        past = past;
        here = here;
        rows_are = refl;
        run = are-run;
        last = strict past here played.last played.unturned;
        at = at;
      }

      pub the-run : AllAreStable m.channels past here → length (all_rows past here) ≡ cycles → AreTheRunOf the_course past here None
      the-run stable long = (are-run, stable.before, stable.last, long)

    -- a row behind them is unstable, and no reset comes before it
    pub stopped : (c : ℕ) → AllAreStable m.channels past here → StopsBefore d m (Rule past) here c → GoesOn Within past here
        → length (all_rows past here) < cycles → AreTheRunOf the_course past here (Some c)
    stopped c stable stops goes less =
        let more = here ++ stops.next ∷ [] in
        let unturned = unturned-push Within past here stops.next played.unturned goes in
        let a = length-append (rows_of past) more in
        let b = length-append (rows_of past) here in
        let p = length_push here stops.next in (
          behind.stop-of d m (offers_after m.channels offer) (gates_behind m.channels plan) (turns_under m.channels plan times) past here
              (each-turned past played.before) c stable.before (record {
                next = stops.next;
                played = strict past more stops.played unturned;
                stable = stops.stable;
                unstable = stops.unstable;
              }) (widen past more (omega (arith, a, b, p, less)) unturned),
          less,
        )

-- ---- what is out of a recording that was cut off
-- a row alone is stable
lone-stable : (channels : List Channel) (row : Row) → AreStable channels (row ∷ [])
lone-stable channels row zero before now b at c bad = absurd (cc)
lone-stable channels row (suc t) before now b at c bad = absurd (cc)

module _ (d : Design) (m : Map) (offer : List Row → ℕ → Offer) (plan : Plan) (times : List ℕ) (cycles : ℕ) (past : List (List Row))
    (here : List Row) (played : ArePlayed d m (Rule d m offer plan times cycles) (Within d m offer plan times cycles) past here)
    (asked : IsAsked past (length here)) (few : length (all_rows past here) ≤ cycles) (stable : AllAreStable m.channels past here)
    (ready : IsMapped d m) (fit : FitsBehind (the_course d m offer plan times cycles)) (lawful : IsLawful d) where
  abbrev w : Course
  w = the_course d m offer plan times cycles

  abbrev rows : List Row
  rows = all_rows past here

  -- these are the first rows of the run
  first : (all : List Row) (stop : Option ℕ) → IsTheRunOf w all stop → take (length rows) all ≡ rows
  first all stop the = first-rows w (is-ready w lawful ready) fit past here all stop (are-run d m offer plan times cycles past here played asked few)
      stable.before stable.last few the

  -- where a reset comes, there is a row
  some-here : turns_within m.channels plan times cycles rows ≡ true → 0 < length here
  some-here h = ⊎_elim
      (λ (e : past ≡ []). ⊎_elim
      (λ (s : 0 < length here). s)
      (λ (z : length here ≤ 0). absurd (none past here e z h))
      (cases_lt 0 (length here)))
      (λ (s : 0 < length here). s)
      asked
    where
      none : (p : List (List Row)) (rs : List Row) → p ≡ [] → length rs ≤ 0 → turns_within m.channels plan times cycles (all_rows p rs) ≡ true → ⊥
      none p (r ∷ rs) e z t = omega (arith, z)
      none p [] e z t =
          let at : turns_within m.channels plan times cycles [] ≡ true =
          subst (λ (x : List (List Row)). turns_within m.channels plan times cycles (all_rows x []) ≡ true) e t in
          let both = and_parts (nat_lt 0 cycles) (turns_under m.channels plan times []) at in
          false≢true (and_parts (is_due_behind times []) false both.1).1

  -- so what is out is a front of the encoding of its trace
  pub front-so_far : (bytes lost : List ℕ)
      → bytes ++ lost ≡ header_bytes m.channels ++ bytes_so_far m.channels rows (turns_within m.channels plan times cycles rows)
      → IsFrontOfTheRun w rows bytes
  front-so_far bytes lost e = ⊎_elim
      (λ (comes : turns_within m.channels plan times cycles rows ≡ true). fresh comes)
      (λ (none : turns_within m.channels plan times cycles rows ≡ false). front-there w ready fit rows bytes lawful (λ all stop the. (
        first all stop the,
        front-first m.channels rows all bytes lost (first all stop the)
            (e ∙ ap (λ b. header_bytes m.channels ++ bytes_so_far m.channels rows b) none),
      )))
      (cases_Bool (turns_within m.channels plan times cycles rows))
    where
      fresh : turns_within m.channels plan times cycles rows ≡ true → IsFrontOfTheRun w rows bytes
      fresh comes =
          let some = some-here comes in
          let turned = before-push d m (Rule d m offer plan times cycles) (Within d m offer plan times cycles) past here played some comes in
          let each = each-turned d m offer plan times cycles (and_stretch past here) turned in
          let left = some-left d m offer plan times cycles past here comes in
          ∥∥₁_elim (one-row w (is-ready w lawful ready) fit (and_stretch past here)
          (each-over m.channels (and_stretch past here) (λ k rs at. (each k rs at).is.marked)))
          ∥∥₁_prop (λ (x : (rs : List Row) × (length rs ≡ 1) × Behind d m offer plan times cycles (and_stretch past here) rs).
          (let one = lone-row x.0 x.1 in
          let next = one.0 in
          let is : Behind d m offer plan times cycles (and_stretch past here) (next ∷ []) =
          subst (Behind d m offer plan times cycles (and_stretch past here)) one.1 x.2 in
          let is_fresh : next.fresh ≡ true = (is.ruled 0 next refl).2 ∙ ap (λ b. b && true) (some-past past here) in
          let run = behind.run-of d m (offers_after m.channels offer) (gates_behind m.channels plan) (turns_under m.channels plan times)
          (and_stretch past here) (next ∷ []) each is (λ k k_some l h. absurd (omega (arith, k_some, l))) (λ l. omega arith) in
          let same = rows-push past here in
          let long : length (rows_of (and_stretch past here) ++ next ∷ []) ≤ cycles =
          (let a = length_push (rows_of (and_stretch past here)) next in let b = ap length same in omega (arith, a, b, left)) in
          front-there w ready fit rows bytes lawful (λ all stop the. (
            first all stop the,
            front-next m.channels rows all next bytes lost is_fresh
                (subst (λ (rs : List Row). take (length (rs ++ next ∷ [])) all ≡ rs ++ next ∷ []) same
                (first-rows w (is-ready w lawful ready) fit (and_stretch past here) (next ∷ []) all stop run
                (all-push (AreStable m.channels) past here stable.before stable.last) (lone-stable m.channels next) long the))
                (e ∙ ap (λ b. header_bytes m.channels ++ bytes_so_far m.channels rows b) comes),
          ))))
