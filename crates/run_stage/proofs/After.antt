-- Where a cycle begins, once it is told whether a reset comes before it.
use Rattle.std.proofs.Common.{◌≡◌, ℕ, ◌<◌, ◌≤◌, ◌&&◌, not, Bool, true, false, List, [], ◌∷◌, ◌++◌, length, inr, ⊎_elim}
use Rattle.std.proofs.Common.{Some, refl, ap, sym, subst, ◌∙◌, arith}
use Rattle.std.proofs.lemmas.Bool.{cases_Bool}
use Rattle.std.proofs.lemmas.List.{length-append}
use Rattle.chan_replayer.specs.chan_monitor.vidi_bits.Findings.{is_nil}
use Rattle.chan_replayer.specs.trace_model.declared.row.Row.{Row}
use Rattle.chan_replayer.specs.trace_model.Row.{row_before}
use Rattle.net_design.specs.declared.design.Design.{Design}
use Rattle.net_design.specs.declared.values.Values.{Values}
use Rattle.chan_replayer.specs.chan_map.declared.pins.Map.{Map}
use Rattle.chan_replayer.specs.run_model.Played.{AreStable, StopsBefore}
use Rattle.chan_replayer.specs.run_model.Stretches.{and_stretch, rows_of}
use Rattle.run_stage.specs.Playing.{IsLast}
use Rattle.run_stage.specs.Stretching.{all_rows, is_fresh_behind, AllAreStable, BeginsBehind, GoesOn, IsAsked, PlayStretches}
use Rattle.run_stage.proofs.Stretching.{Going, GoingBefore, all-push, all-same, going-turned, stays}
use Rattle.run_stage.proofs.Turning.{stable-nil}

pub record After (m : Map) (rule : List (List Row) → List Row → Row → Type 0) (turns : List (List Row) → List Row → Type 0)
    (ends : List (List Row) → List Row → Bool → Type 0) (Stands : List (List Row) → List Row → Type 0)
    (begun runs : Design → Values → List (List Row) → List Row → Type 0) (last : Row) (fresh : Bool) (cycle : ℕ) : Type 0 where
  pub past : List (List Row)
  pub here : List Row
  pub stands : Stands past here
  pub fresh_is : fresh ≡ is_fresh_behind past here
  pub on : GoesOn turns past here
  pub now : IsAsked past (length here) → ends past here false
  pub long : length (all_rows past here) ≡ cycle
  pub going : Going ends past here
  pub before : GoingBefore ends past
  pub plays : (d : Design) → BeginsBehind d m begun [] → PlayStretches d m rule turns runs last past here
  pub stable : AllAreStable m.channels past here
  pub last_is : IsLast (row_before here (length here)) last

not-nil : (past : List (List Row)) (here : List Row) → is_nil (and_stretch past here) ≡ false
not-nil [] here = refl
not-nil (rows ∷ past) here = refl

none-asked : (past : List (List Row)) (here : List Row) → IsAsked (and_stretch past here) 0 → ⊥
none-asked [] here asked = ⊎_elim (λ (e : here ∷ [] ≡ []). absurd (cc)) (λ (l : 0 < 0). absurd (omega (arith, l))) asked
none-asked (rows ∷ past) here asked =
    ⊎_elim (λ (e : rows ∷ and_stretch past here ≡ []). absurd (cc)) (λ (l : 0 < 0). absurd (omega (arith, l))) asked

and-false : (b : Bool) → b && false ≡ false
and-false true = refl
and-false false = refl

not-fresh : (past : List (List Row)) (here : List Row) → IsAsked past (length here) → is_fresh_behind past here ≡ false
not-fresh past [] asked = ⊎_elim
    (λ (e : past ≡ []). ap (λ (p : List (List Row)). is_fresh_behind p []) e)
    (λ (l : 0 < 0). absurd (omega (arith, l)))
    asked
not-fresh past (row ∷ here) asked = and-false (not (is_nil past))

pub here-long : (past : List (List Row)) (here : List Row) (cycle : ℕ) → IsAsked past (length here) → length (all_rows past here) ≡ cycle
    → 0 < cycle → 0 < length here
here-long past here cycle asked long some = ⊎_elim
    (λ (e : past ≡ []). (let l = ap (λ (p : List (List Row)). length (all_rows p here)) e in omega (arith, l, long, some)))
    (λ (l : 0 < length here). l)
    asked

module _ (m : Map) (rule : List (List Row) → List Row → Row → Type 0) (turns : List (List Row) → List Row → Type 0)
    (ends : List (List Row) → List Row → Bool → Type 0) (StandsOld Stands : List (List Row) → List Row → Type 0)
    (begun was runs : Design → Values → List (List Row) → List Row → Type 0) (old last : Row) (fresh : Bool) (cycle : ℕ)
    (past : List (List Row)) (here : List Row) (asked : IsAsked past (length here)) (long : length (all_rows past here) ≡ cycle)
    (going : Going ends past here) (before : GoingBefore ends past) (now : ends past here false)
    (plays : (d : Design) → BeginsBehind d m begun [] → PlayStretches d m rule turns was old past here)
    (stable : AllAreStable m.channels past here) (last_is : IsLast (row_before here (length here)) old) where
  some : 0 < cycle → 0 < length here
  some l = here-long past here cycle asked long l

  within : length here ≤ cycle
  within = let l = length-append (rows_of past) here in omega (arith, l, long)

  after-reset : fresh ≡ true → (0 < length here → turns past here × Stands (and_stretch past here) [])
      → ((d : Design) → 0 < length here → turns past here → PlayStretches d m rule turns was old past here
      → PlayStretches d m rule turns runs last (and_stretch past here) [])
      → (last.valids ≡ 0) × (0 < cycle) → After m rule turns ends Stands begun runs last fresh cycle
  after-reset e turned resets silent =
      let l = some silent.1 in
      let t = turned l in
      record {
        past = and_stretch past here;
        here = [];
        stands = t.1;
        fresh_is = e ∙ sym (ap (λ b. not b && true) (not-nil past here));
        on = λ none. absurd (omega (arith, none));
        now = λ asks. absurd (none-asked past here asks);
        long = ap length (all-same past here) ∙ long;
        going = λ k none asks. absurd (omega (arith, none));
        before = going-turned ends past here going before now;
        plays = λ d b. resets d l t.0 (plays d b);
        stable = record { before = all-push (AreStable m.channels) past here stable.before stable.last; last = stable-nil m.channels };
        last_is = silent.0;
      }

  after-none : fresh ≡ false → ((0 < cycle → 0 < length here) → length here ≤ cycle → GoesOn turns past here × Stands past here)
      → ((d : Design) (s : Values) → was d s past here → runs d s past here) → last ≡ old
      → After m rule turns ends Stands begun runs last fresh cycle
  after-none e on same kept =
      let t = on some within in
      record {
        past = past;
        here = here;
        stands = t.1;
        fresh_is = e ∙ sym (not-fresh past here asked);
        on = t.0;
        now = λ asks. now;
        long = long;
        going = going;
        before = before;
        plays = λ d b. subst (λ (r : Row). PlayStretches d m rule turns runs r past here) (sym kept)
            (stays d m rule turns was runs old past here (same d) (plays d b));
        stable = stable;
        last_is = subst (λ (r : Row). IsLast (row_before here (length here)) r) (sym kept) last_is;
      }

  pub after : (fresh ≡ true → 0 < length here → turns past here × Stands (and_stretch past here) [])
      → (fresh ≡ true → (d : Design) → 0 < length here → turns past here → PlayStretches d m rule turns was old past here
      → PlayStretches d m rule turns runs last (and_stretch past here) [])
      → (fresh ≡ true → (last.valids ≡ 0) × (0 < cycle))
      → (fresh ≡ false → (0 < cycle → 0 < length here) → length here ≤ cycle → GoesOn turns past here × Stands past here)
      → (fresh ≡ false → (d : Design) (s : Values) → was d s past here → runs d s past here) → (fresh ≡ false → last ≡ old)
      → After m rule turns ends Stands begun runs last fresh cycle
  after turned resets silent on same kept = ⊎_elim
      (λ (e : fresh ≡ true). after-reset e (turned e) (resets e) (silent e))
      (λ (e : fresh ≡ false). after-none e (on e) (same e) (kept e))
      (cases_Bool fresh)

-- the row behind which a row is unstable is there
pub some-before : (d : Design) (m : Map) (rule : List Row → Row → Type 0) (here : List Row) (c : ℕ) → StopsBefore d m rule here c → here ≡ [] → ⊥
some-before d m rule here c stops none =
    let u = stops.unstable in
    let before : row_before (here ++ stops.next ∷ []) 0 ≡ Some u.before =
    ap (row_before (here ++ stops.next ∷ [])) (sym (ap length none)) ∙ u.before_is in
    absurd (cc)

pub asked-unless : (past : List (List Row)) (here : List Row) → (here ≡ [] → ⊥) → IsAsked past (length here)
asked-unless past [] none = absurd (none refl)
asked-unless past (row ∷ here) none = inr (omega arith)
