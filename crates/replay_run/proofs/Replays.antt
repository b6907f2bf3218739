-- Stretches that are played under the rule of a trace's replay are one.
use Rattle.std.proofs.Common.{◌≡◌, ℕ, zero, suc, ◌+◌, ◌<◌, ◌≤◌, nat_lt, not, Bool, List, [], ◌∷◌, ◌++◌, Some, All, length, take, drop, slice_get, ◌-◌}
use Rattle.std.proofs.Common.{refl, ap, sym, subst, ◌∙◌, arith, ⊎_elim}
use Rattle.std.proofs.lemmas.Bool.{le-ltb, lt-ltb, cases_lt}
use Rattle.std.proofs.lemmas.List.{length_push, length-take-le}
use Rattle.std.proofs.lemmas.Option.{slice_get_within}
use Rattle.trace_code.specs.trace_model.declared.packet.Packet.{Packet}
use Rattle.trace_code.specs.trace_model.declared.row.Row.{Row}
use Rattle.trace_code.specs.trace_model.Epoch.{epoch, resets}
use Rattle.net_design.specs.declared.design.Design.{Design}
use Rattle.run_stage.specs.chan_map.declared.pins.Map.{Map}
use Rattle.run_stage.specs.chan_monitor.vidi_bits.Findings.{is_nil}
use Rattle.run_stage.specs.run_model.Played.{AreStable, IsPlayed, StopsBefore}
use Rattle.run_stage.specs.run_model.Replay.{IsEpochRow}
use Rattle.run_stage.specs.run_model.Stretches.{AreStretches, IsDone, IsEpochReplay, IsTurned, IsUnturned, StopsBehind, TurnsEpoch, and_stretch}
use Rattle.run_stage.specs.Stretching.{ArePlayed, GoesOn, IsAsked}
use Rattle.run_stage.proofs.Stretching.{unturned-push}
use Rattle.replay_run.specs.Ended.{AreTraceReplay}
use Rattle.replay_run.specs.Epochs.{epochs, epochs_from}
use Rattle.replay_run.specs.Standing.{epoch_rule, TurnsBehind}
use Rattle.replay_run.proofs.Epochs.{epochs-long}

-- the first stretch isn't behind a reset
later-of : (past : List (List Row)) → not (is_nil past) ≡ nat_lt 0 (length past)
later-of [] = sym (le-ltb 0 0 (omega arith))
later-of (s ∷ past) = sym (lt-ltb 0 (suc (length past)) (omega arith))

module _ (d : Design) (m : Map) (packets : List Packet) where
  abbrev R : ℕ
  R = resets packets

  -- of epoch i
  abbrev Is-at : ℕ → List Row → Type 0
  Is-at i rows = IsPlayed d m (IsEpochRow (nat_lt 0 i) m.channels (epoch i packets)) rows

  abbrev Turn-at : ℕ → List Row → Type 0
  Turn-at i rows = (i < R) × IsDone m.channels (epoch i packets) rows

  abbrev Is : List (List Packet) → List Row → Type 0
  Is left rows = IsEpochReplay d m (length (epochs packets)) left rows

  abbrev Turn : List (List Packet) → List Row → Type 0
  Turn left rows = TurnsEpoch m.channels left rows

  by-length : (past : List (List Row)) (rows : List Row) → IsPlayed d m (epoch_rule m.channels packets past) rows → Is-at (length past) rows
  by-length past rows is = subst (λ b. IsPlayed d m (IsEpochRow b m.channels (epoch (length past) packets)) rows) (later-of past) is

  -- with n epochs behind it
  module _ (i n : ℕ) (sum : i + n ≡ R) where
    later-left : nat_lt 0 i ≡ nat_lt (suc (length (epochs_from (suc i) n packets))) (length (epochs packets))
    later-left =
        let a = epochs-long (suc i) n packets in
        let b = epochs-long 0 (suc R) packets in
        ⊎_elim
        (λ (l : 0 < i). lt-ltb 0 i l ∙ sym (lt-ltb (suc (length (epochs_from (suc i) n packets))) (length (epochs packets)) (omega (arith, l, a, b, sum))))
        (λ (l : i ≤ 0). le-ltb 0 i l ∙ sym (le-ltb (suc (length (epochs_from (suc i) n packets))) (length (epochs packets)) (omega (arith, l, a, b, sum))))
        (cases_lt 0 i)

    is-left : (rows : List Row) → Is-at i rows → Is (epochs_from i (suc n) packets) rows
    is-left rows is = subst (λ b. IsPlayed d m (IsEpochRow b m.channels (epoch i packets)) rows) later-left is

  turn-left : (i n : ℕ) → i + n ≡ R → (rows : List Row) → Turn-at i rows → Turn (epochs_from i (suc n) packets) rows
  turn-left i zero sum rows turns = absurd (let l = turns.0 in omega (arith, l, sum))
  turn-left i (suc n) sum rows turns = turns.1

  left-turn : (i n : ℕ) → i + n ≡ R → (rows : List Row) → Turn (epochs_from i (suc n) packets) rows → Turn-at i rows
  left-turn i zero sum rows turns = absurd turns
  left-turn i (suc n) sum rows turns = (omega (arith, sum), turns)

  unturned-left : (i n : ℕ) → i + n ≡ R → (rows : List Row) → IsUnturned Turn-at i rows → IsUnturned Turn (epochs_from i (suc n) packets) rows
  unturned-left i n sum rows unturned k some l turns = unturned k some l (left-turn i n sum (take k rows) turns)

  turned-left : (i n : ℕ) → i + n ≡ R → (rows : List Row) → IsTurned Is-at Turn-at i rows → IsTurned Is Turn (epochs_from i (suc n) packets) rows
  turned-left i n sum rows turned = record {
    is = is-left i n sum rows turned.is;
    some = turned.some;
    turns = turn-left i n sum rows turned.turns;
    unturned = unturned-left i n sum rows turned.unturned;
  }

  abbrev Each : ℕ → List (List Row) → Type 0
  Each i past = (k : ℕ) (rows : List Row) → slice_get past k ≡ Some rows → IsTurned Is-at Turn-at (i + k) rows

  abbrev Last : ℕ → List Row → Type 0
  Last i rows = Is-at i rows × IsUnturned Turn-at i rows

  first-turned : (i : ℕ) (s : List Row) (past : List (List Row)) → Each i (s ∷ past) → IsTurned Is-at Turn-at i s
  first-turned i s past each = subst (λ j. IsTurned Is-at Turn-at j s) (let e : i + 0 ≡ i = omega arith in e) (each 0 s refl)

  rest-turned : (i : ℕ) (s : List Row) (past : List (List Row)) → Each i (s ∷ past) → Each (suc i) past
  rest-turned i s past each k rows at =
      subst (λ j. IsTurned Is-at Turn-at j rows) (let e : i + suc k ≡ suc i + k = omega arith in e) (each (suc k) rows at)

  chain : (i n : ℕ) → i + n ≡ R → (past : List (List Row)) (here : List Row) → Each i past → Last (i + length past) here
      → (0 < length past → 0 < length here)
      → AreStretches Is Turn (λ left rows. drop 1 left) (epochs_from i (suc n) packets) (and_stretch past here)
  chain i n sum [] here each last some =
      let l : Last i here = subst (λ j. Last j here) (let e : i + 0 ≡ i = omega arith in e) last in
      (is-left i n sum here l.0, unturned-left i n sum here l.1)
  chain i zero sum (s ∷ past) here each last some =
      absurd (let t = (first-turned i s past each).turns in let l = t.0 in omega (arith, l, sum))
  chain i (suc n) sum (s ∷ []) here each last some = (
    turned-left i (suc n) sum s (first-turned i s [] each),
    some (omega arith),
    chain (suc i) n (omega (arith, sum)) [] here (rest-turned i s [] each)
        (subst (λ j. Last j here) (let e : i + 1 ≡ suc i + 0 = omega arith in e) last) (λ none. some (omega arith)),
  )
  chain i (suc n) sum (s ∷ u ∷ us) here each last some = (
    turned-left i (suc n) sum s (first-turned i s (u ∷ us) each),
    (first-turned (suc i) u us (rest-turned i s (u ∷ us) each)).some,
    chain (suc i) n (omega (arith, sum)) (u ∷ us) here (rest-turned i s (u ∷ us) each)
        (subst (λ j. Last j here) (let e : i + suc (suc (length us)) ≡ suc i + suc (length us) = omega arith in e) last) (λ none. some (omega arith)),
  )

  module _ (past : List (List Row)) (here : List Row)
      (played : ArePlayed d m (epoch_rule m.channels packets) (TurnsBehind m.channels packets) past here) where
    each-turned : Each 0 past
    each-turned k rows at =
        let t = played.before k rows at in
        let l = slice_get_within past k rows at in
        let e : length (take k past) ≡ 0 + k = length-take-le k past (omega (arith, l)) ∙ omega arith in
        subst (λ j. IsTurned Is-at Turn-at j rows) e
        (record { is = by-length (take k past) rows t.is; some = t.some; turns = t.turns; unturned = t.unturned })

    -- there are so many epochs
    within : length past ≤ R
    within = ⊎_elim
        (λ (l : 0 < length past).
        let k = length past - 1 in
        let r = rows-at past k (omega (arith, l)) in
        let t = (each-turned k r.0 r.1).turns in
        let b = t.0 in omega (arith, b, l))
        (λ (l : length past ≤ 0). omega (arith, l))
        (cases_lt 0 (length past))
      where
        rows-at : (ss : List (List Row)) (k : ℕ) → k < length ss → (rows : List Row) × (slice_get ss k ≡ Some rows)
        rows-at [] k l = absurd (omega (arith, l))
        rows-at (s ∷ ss) zero l = (s, refl)
        rows-at (s ∷ ss) (suc k) l = rows-at ss k (omega (arith, l))

    is-last : (rows : List Row) → IsPlayed d m (epoch_rule m.channels packets past) rows → IsUnturned (TurnsBehind m.channels packets) past rows
        → Last (0 + length past) rows
    is-last rows is unturned = subst (λ j. Last j rows) (let e : length past ≡ 0 + length past = omega arith in e) (by-length past rows is, unturned)

    pub trace-replay : IsAsked past (length here) → AreTraceReplay d m packets (and_stretch past here)
    trace-replay asked = chain 0 R (let e : 0 + R ≡ R = omega arith in e) past here each-turned (is-last here played.last played.unturned)
        (λ some. ⊎_elim
        (λ (e : past ≡ []). (let n = ap (λ (ss : List (List Row)). length ss) e in absurd (omega (arith, n, some))))
        (λ (l : 0 < length here). l)
        asked)

    pub stops-behind : (c : ℕ) → All (AreStable m.channels) past → StopsBefore d m (epoch_rule m.channels packets past) here c
        → GoesOn (TurnsBehind m.channels packets) past here → StopsBehind (AreTraceReplay d m packets) m.channels past here c
    stops-behind c stable stops on =
        let long = length_push here stops.next in
        record {
          next = stops.next;
          played = chain 0 R (let e : 0 + R ≡ R = omega arith in e) past (here ++ stops.next ∷ []) each-turned
              (is-last (here ++ stops.next ∷ []) stops.played
              (unturned-push (TurnsBehind m.channels packets) past here stops.next played.unturned on))
              (λ some. omega (arith, long));
          before = stable;
          stable = stops.stable;
          unstable = stops.unstable;
        }
