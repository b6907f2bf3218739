-- Stretches of which each is known behind those before it, as they are when rows come one by one.
use Rattle.std.proofs.Common.{◌≡◌, ℕ, suc, ◌<◌, Bool, not, List, [], ◌∷◌, ◌++◌, Some, All, length, slice_get, take}
use Rattle.std.proofs.Common.{refl, sym, subst, append_assoc, append-nil, arith}
use Rattle.std.proofs.lemmas.List.{length_push}
use Rattle.run_model.specs.vidi_bits.Findings.{is_nil}
use Rattle.run_model.specs.trace_model.declared.row.Offers.{Offers}
use Rattle.run_model.specs.trace_model.declared.row.Row.{Row}
use Rattle.net_design.specs.declared.design.Design.{Design}
use Rattle.run_model.specs.chan_map.declared.pins.Map.{Map}
use Rattle.run_model.specs.Played.{AreStable, StopsBefore}
use Rattle.run_model.specs.Run.{IsStretchRow}
use Rattle.run_model.specs.Stretches.{AreRun, AreStretches, IsRunBehind, IsTurned, IsUnturned, StopsBehind, Turns, and_stretch}
use Rattle.run_model.specs.Stretches.{offers_behind}

-- ---- any stretches of which each knows those before it
module _ (Is Turn : List (List Row) → List Row → Type 0) where
  -- each of them, behind `first` and those before it, is one behind which a reset comes
  abbrev pub AreTurned : List (List Row) → List (List Row) → Type 0
  AreTurned first past = (k : ℕ) (rows : List Row) → slice_get past k ≡ Some rows → IsTurned Is Turn (first ++ take k past) rows

  later : (first : List (List Row)) (s : List Row) (past : List (List Row)) → AreTurned first (s ∷ past) → AreTurned (and_stretch first s) past
  later first s past each k rows at =
      subst (λ x. IsTurned Is Turn x rows) (sym (append_assoc first (s ∷ []) (take k past))) (each (suc k) rows at)

  now : (first : List (List Row)) (s : List Row) (past : List (List Row)) → AreTurned first (s ∷ past) → IsTurned Is Turn first s
  now first s past each = subst (λ x. IsTurned Is Turn x s) (append-nil first) (each 0 s refl)

  last-is : (first : List (List Row)) (s : List Row) (past : List (List Row)) (here : List Row) (P : List (List Row) → List Row → Type 0)
      → P (first ++ s ∷ past) here → P (and_stretch first s ++ past) here
  last-is first s past here P p = subst (λ x. P x here) (sym (append_assoc first (s ∷ []) past)) p

  stretches-from : (first past : List (List Row)) (here : List Row) → AreTurned first past → Is (first ++ past) here
      → IsUnturned Turn (first ++ past) here → (0 < length past → 0 < length here)
      → AreStretches Is Turn and_stretch first (and_stretch past here)
  stretches-from first [] here each is unturned some =
      (subst (λ x. Is x here) (append-nil first) is, subst (λ x. IsUnturned Turn x here) (append-nil first) unturned)
  stretches-from first (s ∷ []) here each is unturned some = (
    now first s [] each,
    some (omega arith),
    stretches-from (and_stretch first s) [] here (later first s [] each) (last-is first s [] here Is is)
        (last-is first s [] here (IsUnturned Turn) unturned) (λ none. some (omega arith)),
  )
  stretches-from first (s ∷ u ∷ us) here each is unturned some = (
    now first s (u ∷ us) each,
    (each 1 u refl).some,
    stretches-from (and_stretch first s) (u ∷ us) here (later first s (u ∷ us) each) (last-is first s (u ∷ us) here Is is)
        (last-is first s (u ∷ us) here (IsUnturned Turn) unturned) (λ more. some (omega arith)),
  )

-- ---- runs
module _ (d : Design) (m : Map) (offers : List Row → Offers) (gates : List (List Row) → List Row → ℕ → Type 0) (turns : List Row → Bool)
    (past : List (List Row)) (here : List Row) (each : AreTurned (IsRunBehind d m offers gates) (Turns turns) [] past) where
  -- the rows of a run so far
  pub run-of : IsRunBehind d m offers gates past here → IsUnturned (Turns turns) past here → (0 < length past → 0 < length here)
      → AreRun d m offers gates turns (and_stretch past here)
  run-of is unturned some = stretches-from (IsRunBehind d m offers gates) (Turns turns) [] past here each is unturned some

  -- the rows before an unstable one
  pub stop-of : (c : ℕ) → All (AreStable m.channels) past
      → (stops : StopsBefore d m (IsStretchRow (not (is_nil past)) m.channels (offers_behind offers past) (gates past)) here c)
      → IsUnturned (Turns turns) past (here ++ stops.next ∷ []) → StopsBehind (AreRun d m offers gates turns) m.channels past here c
  stop-of c all stops unturned =
      let long = length_push here stops.next in
      record {
        next = stops.next;
        played = stretches-from (IsRunBehind d m offers gates) (Turns turns) [] past (here ++ stops.next ∷ []) each stops.played unturned
            (λ more. omega (arith, long));
        before = all;
        stable = stops.stable;
        unstable = stops.unstable;
      }
