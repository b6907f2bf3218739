-- A replay ends in exactly one way.
use Rattle.std.proofs.Common.{◌≡◌, ◌⊎◌, ℕ, zero, suc, ◌+◌, ◌<◌, ◌≤◌, nat_lt, Bool, false, List, [], ◌∷◌, ◌++◌, Option, None, Some, All}
use Rattle.std.proofs.Common.{length, take, drop, slice_get, inl, inr, ⊎_elim, refl, ap, sym, subst, ◌∙◌, arith}
use Rattle.std.proofs.Math.Logic.{∥∥₁_elim, ∥∥₁_map, ∥∥₁_prop}
use Rattle.std.proofs.lemmas.Bool.{cases_eq, cases_order}
use Rattle.std.proofs.lemmas.List.{flat_map_more, length-append, length_push, same_from_push}
use Rattle.std.proofs.lemmas.List.Sums.{sum_by_push}
use Rattle.std.proofs.lemmas.List.Concat.{length-flat_map}
use Rattle.std.proofs.lemmas.List.Elements.{All-append, All-cons, All-head, All-nil, All-tail}
use Rattle.std.proofs.lemmas.Option.{same_Some}
use Rattle.trace_code.specs.trace_model.declared.packet.Packet.{Packet}
use Rattle.trace_code.specs.trace_model.declared.row.Row.{Row}
use Rattle.trace_code.specs.trace_model.Epoch.{epoch, resets}
use Rattle.trace_code.specs.trace_model.Packet.{IsPacket}
use Rattle.trace_code.specs.trace_model.Row.{row_before}
use Rattle.trace_code.specs.trace_model.Stability.{IsLowestUnstable, IsUnstable, IsUnstableAt}
use Rattle.net_design.specs.declared.design.Design.{Design}
use Rattle.run_stage.specs.chan_map.declared.pins.Map.{Map}
use Rattle.run_stage.specs.run_model.declared.held.Held.{Held}
use Rattle.run_stage.specs.run_model.Laws.{ContentsFit, IsReady}
use Rattle.run_stage.specs.run_model.Played.{AreStable}
use Rattle.run_stage.specs.run_model.Replay.{HasEnded, IsEpochRow}
use Rattle.run_stage.specs.run_model.Stretches.{AreStretches, IsEpochReplay, IsTurned, StopsBehind, TurnsEpoch, and_stretch, row_count, rows_of}
use Rattle.run_stage.specs.Playing.{IsLast}
use Rattle.run_stage.specs.Stretching.{all_rows, AllAreStable, IsAsked}
use Rattle.run_stage.proofs.run_model_lemmas.Deciding.{Decides, ended-or-not}
use Rattle.run_stage.proofs.run_model_lemmas.PlayedLaws.{played-front}
use Rattle.run_stage.proofs.run_model_lemmas.ReplayLaws.{one-epoch_replay}
use Rattle.run_stage.proofs.run_model_lemmas.Unstable.{lowest}
use Rattle.run_stage.proofs.Stretching.{Going, GoingBefore, going-push, going-turned, count-all}
use Rattle.run_stage.proofs.Turning.{stable-push, unstable-now}
use Rattle.run_laws.proofs.Chaining.{IsFront, count-cons, count-one, is-front, only, same-of}
use Rattle.run_laws.proofs.Ending.{Ends, one-way, shorter}
use Rattle.run_laws.proofs.StretchLaws.{one-replay_in_stretches}
use Rattle.replay_run.specs.declared.outcome.ReplayOutcome.{ReplayOutcome}
use Rattle.replay_run.specs.declared.outcome.ReplayOutcome.TheVariants.{Ended, Short, Unstable}
use Rattle.replay_run.specs.Ended.{AreTraceReplay, HasEndedIn, IsGoingOn}
use Rattle.replay_run.specs.Epochs.{epochs, epochs_from}
use Rattle.replay_run.specs.Laws.{OneOutcome}
use Rattle.replay_run.specs.Replaying.{held_behind, waits_behind, EndsAs}
use Rattle.replay_run.proofs.Epochs.{epoch-all, epochs-long}
use Rattle.replay_run.proofs.Fronts.{asked, extends, fewer-rows, some-of, EndsBefore, EndsHere, Extends}

-- ---- counts

-- ---- whether a trace has ended
ended-in : (n : ℕ) (packets : List Packet) (past : List (List Row)) (here : List Row) → Decides (HasEndedIn n packets past here)
ended-in n packets past here = ⊎_elim
    (λ (e : length past ≡ resets packets). ⊎_elim
    (λ (h : HasEnded n (epoch (length past) packets) here). inl (record { last = e; ended = h }))
    (λ (not : HasEnded n (epoch (length past) packets) here → ⊥). inr (λ (x : HasEndedIn n packets past here). not x.ended))
    (ended-or-not n (epoch (length past) packets) here))
    (λ (ne : length past ≡ resets packets → ⊥). inr (λ (x : HasEndedIn n packets past here). ne x.last))
    (cases_eq (length past) (resets packets))

module _ (d : Design) (m : Map) (packets : List Packet) where
  abbrev N : ℕ
  N = length m.channels

  abbrev Are : List (List Row) → Type 0
  Are ss = AreTraceReplay d m packets ss

  -- ---- the epochs that are left
  abbrev All-epochs : ℕ
  All-epochs = length (epochs packets)

  abbrev Is : List (List Packet) → List Row → Type 0
  Is left rows = IsEpochReplay d m All-epochs left rows

  abbrev Turn : List (List Packet) → List Row → Type 0
  Turn left rows = TurnsEpoch m.channels left rows

  abbrev Next : List (List Packet) → List Row → List (List Packet)
  Next left rows = drop 1 left

  front : (left : List (List Packet)) (rows : List Row) (k : ℕ) → Is left rows → Is left (take k rows)
  front [] rows k is = absurd is
  front (e ∷ es) rows k is = played-front d m (IsEpochRow (nat_lt (suc (length es)) All-epochs) m.channels e) rows k is

  short-of : (past : List (List Row)) (here : List Row) (row : Row) → Are (and_stretch past (here ++ row ∷ [])) → 0 < length here
      → Are (and_stretch past here)
  short-of past here row are some = shorter Is Turn Next front (epochs packets) past here row are some

  -- where it can be asked whether the trace has ended
  is-asked : (past : List (List Row)) (here : List Row) → Are (and_stretch past here) → IsAsked past (length here)
  is-asked past here are = asked past here (some-of Is Turn Next (epochs packets) (and_stretch past here) are)

  -- ---- no shorter front has ended
  abbrev NotEnded : List (List Row) → List Row → Bool → Type 0
  NotEnded past here said = HasEndedIn N packets past here → ⊥

  going-more : (past : List (List Row)) (here : List Row) (row : Row) → IsGoingOn N packets past here → NotEnded past here false
      → IsGoingOn N packets past (here ++ row ∷ [])
  going-more past here row on not = record {
    going = going-push NotEnded past here row on.going (λ a. not);
    before = on.before;
  }

  going-next : (past : List (List Row)) (here : List Row) (row : Row) → IsGoingOn N packets past here → NotEnded past here false
      → IsGoingOn N packets (and_stretch past here) (row ∷ [])
  going-next past here row on not = record {
    going = λ k l a. absurd (none k l a);
    before = going-turned NotEnded past here on.going on.before not;
  }
    where
      none : (k : ℕ) → k < length (row ∷ []) → IsAsked (and_stretch past here) k → ⊥
      none k l a = ⊎_elim
          (λ (e : and_stretch past here ≡ []). (let n = ap (λ (ss : List (List Row)). length ss) e in let p = length_push past here in omega (arith, n, p)))
          (λ (some : 0 < k). omega (arith, l, some))
          a

  -- ---- there is one
  record Found (n : ℕ) : Type 0 where
    past : List (List Row)
    here : List Row
    outcome : ReplayOutcome
    ends : EndsAs d m packets n past here outcome

  -- the rows so far are as many as cycles
  so-far : (n : ℕ) (past : List (List Row)) (here : List Row) → Are (and_stretch past here) → AllAreStable m.channels past here
      → length (all_rows past here) ≡ n → IsGoingOn N packets past here → Found n
  so-far n past here are stable all going = ⊎_elim
      (λ (ended : HasEndedIn N packets past here). record {
        past = past;
        here = here;
        outcome = Ended n;
        ends = (record { played = are; stable = stable; within = omega (arith, all); ended = ended; shortest = going }, sym all);
      })
      (λ (not : HasEndedIn N packets past here → ⊥). record {
        past = past;
        here = here;
        outcome = Short (held_behind m.channels packets past here) (waits_behind m.channels packets past here);
        ends = (record { played = are; stable = stable; all = all; going = going; not_ended = not }, refl, refl);
      })
      (ended-in N packets past here)

  abbrev silent : Row
  silent = record { fresh = false; gates = 0; valids = 0; readies = 0; contents = []; starts = 0; ends = 0 }

  last-of : (o : Option Row) → (last : Row) × IsLast o last
  last-of None = (silent, refl)
  last-of (Some row) = (row, refl)

  -- one row more in the last stretch
  module _ (n : ℕ) (past : List (List Row)) (here : List Row) (row : Row) (are : Are (and_stretch past (here ++ row ∷ [])))
      (stable : AllAreStable m.channels past here) (all : length (all_rows past here) ≡ n) (going : IsGoingOn N packets past here)
      (not : HasEndedIn N packets past here → ⊥) where
    longer : length (all_rows past (here ++ row ∷ [])) ≡ n + 1
    longer =
        let a = length-append (rows_of past) (here ++ row ∷ []) in
        let b = length-append (rows_of past) here in
        let c = length_push here row in omega (arith, a, b, c, all)

    by-last : (last : Row) → IsLast (row_before here (length here)) last → (o : Option ℕ) → IsLowestUnstable m.channels last row o → Found (n + 1)
    by-last last is None none = so-far (n + 1) past (here ++ row ∷ []) are
        (record { before = stable.before; last = stable-push m.channels here last row stable.last is none }) longer (going-more past here row going not)
    by-last last is (Some c) low = record {
      past = past;
      here = here;
      outcome = Unstable c n;
      ends = (
        record {
          stops = record {
            next = row;
            played = are;
            before = stable.before;
            stable = stable.last;
            unstable = unstable-now m.channels here last row c is low;
          };
          within = omega (arith, all);
          going = going;
          not_ended = not;
        },
        sym all,
      );
    }

    one-more : Found (n + 1)
    one-more =
        let l = last-of (row_before here (length here)) in
        let o = lowest m.channels l.0 row in
        by-last l.0 l.1 o.0 o.1

  -- the first row of a stretch more
  first-row : (n : ℕ) (past : List (List Row)) (here : List Row) (row : Row) → Are (and_stretch (and_stretch past here) (row ∷ []))
      → AllAreStable m.channels past here → length (all_rows past here) ≡ n → IsGoingOn N packets past here → NotEnded past here false → Found (n + 1)
  first-row n past here row are stable all going not = so-far (n + 1) (and_stretch past here) (row ∷ []) are
      (record {
        before = All-append (AreStable m.channels) past (here ∷ []) stable.before
            (All-cons (AreStable m.channels) here [] stable.last (All-nil (AreStable m.channels)));
        last = λ t before now b at. absurd (none t before now b at);
      })
      (let a = sym (count-all (and_stretch past here) (row ∷ [])) in
      let b = count-push (and_stretch past here) (row ∷ []) in
      let c = count-all past here in omega (arith, a, b, c, all))
      (going-next past here row going not)
    where
      none : (t : ℕ) (before now : Row) → row_before (row ∷ []) t ≡ Some before → slice_get (row ∷ []) t ≡ Some now → ⊥
      none zero before now b at = absurd (cc)
      none (suc t) before now b at = absurd (cc)

      count-push : (ss : List (List Row)) (s : List Row) → row_count (and_stretch ss s) ≡ row_count ss + length s
      count-push ss s = sum_by_push length ss s

  -- behind n rows that are short comes one more
  step : (n : ℕ) → (ss : List (List Row)) → row_count ss ≡ n + 1 → Are ss
      → ((a b : List (List Row)) → Are a → Are b → row_count a ≤ row_count b → IsFront a b) → Found n → Found (n + 1)
  step n ss long are fronts f = by f.outcome f.ends
    where
      more : (e : Are (and_stretch f.past f.here)) → length (all_rows f.past f.here) ≡ n → Extends f.past f.here ss
      more e all =
          let c = count-all f.past f.here in
          extends f.past f.here ss (fronts (and_stretch f.past f.here) ss e are (omega (arith, c, all, long)))
          (some-of Is Turn Next (epochs packets) ss are) (omega (arith, c, all, long))

      by : (o : ReplayOutcome) → EndsAs d m packets n f.past f.here o → Found (n + 1)
      by (Ended k) (e, same) = record {
        past = f.past;
        here = f.here;
        outcome = Ended k;
        ends = (
          record {
            played = e.played;
            stable = e.stable;
            within = (let l = e.within in omega (arith, l));
            ended = e.ended;
            shortest = e.shortest;
          },
          same,
        );
      }
      by (Unstable c k) (e, same) = record {
        past = f.past;
        here = f.here;
        outcome = Unstable c k;
        ends = (
          record { stops = e.stops; within = (let l = e.within in omega (arith, l)); going = e.going; not_ended = e.not_ended },
          same,
        );
      }
      by (Short hs es) (e, held_are, waits_are) =
          let x = more e.played e.all in
          ⊎_elim
          (λ (h : ss ≡ and_stretch f.past (f.here ++ x.row ∷ [])).
          one-more n f.past f.here x.row (subst Are h are) e.stable e.all e.going e.not_ended)
          (λ (h : ss ≡ and_stretch (and_stretch f.past f.here) (x.row ∷ [])).
          first-row n f.past f.here x.row (subst Are h are) e.stable e.all e.going e.not_ended)
          x.how

  -- before any row
  start : (ss : List (List Row)) → row_count ss ≡ 0 → Are ss → Found 0
  start [] none are = absurd are
  start ([] ∷ []) none are = so-far 0 [] [] are
      (record { before = All-nil (AreStable m.channels); last = λ t before now b at. absurd (cc) }) refl
      (record { going = λ k l a. absurd (omega (arith, l)); before = λ i rows at. absurd (cc) })
  start ((r ∷ rs) ∷ []) none are = absurd (let c = count-one (r ∷ rs) in omega (arith, none, c))
  start (s ∷ t ∷ ss) none are = absurd (let c = count-cons s (t ∷ ss) in let l = are.0.some in omega (arith, none, c, l))

  -- ---- and one alone
  record AreFirst (n : ℕ) (past : List (List Row)) (here : List Row) : Type 0 where
    played : Are (and_stretch past here)
    stable : AllAreStable m.channels past here
    going : IsGoingOn N packets past here
    within : length (all_rows past here) ≤ n

  first-rows : (n : ℕ) (past : List (List Row)) (here : List Row) (o : ReplayOutcome) → EndsAs d m packets n past here o → AreFirst n past here
  first-rows n past here (Ended cycles) (e, same) =
      record { played = e.played; stable = e.stable; going = e.shortest; within = e.within }
  first-rows n past here (Short helds events) (e, held_are, waits_are) =
      record { played = e.played; stable = e.stable; going = e.going; within = (let l = e.all in omega (arith, l)) }
  first-rows n past here (Unstable channel cycle) (e, same) = record {
    played = short-of past here e.stops.next e.stops.played (some-before here e.stops.next e.stops.unstable);
    stable = record { before = e.stops.before; last = e.stops.stable };
    going = e.going;
    within = (let l = e.within in omega (arith, l));
  }
    where
      some-before : (rows : List Row) (next : Row) → IsUnstableAt m.channels (rows ++ next ∷ []) (length rows) channel → 0 < length rows
      some-before [] next u = absurd (none u.before u.before_is)
        where
          none : (r : Row) → None ≡ Some r → ⊥
          none r e = cc
      some-before (x ∷ rows) next u = omega arith

  module _ (only-one : (a b : List (List Row)) → Are a → Are b → row_count a ≡ row_count b → a ≡ b)
      (fronts : (a b : List (List Row)) → Are a → Are b → row_count a ≤ row_count b → IsFront a b) where
    way : (n : ℕ) (past before : List (List Row)) (here there : List Row) (i j : Option ℕ) → Ends Are m.channels n past here i
        → Ends Are m.channels n before there j → (past ≡ before) × (here ≡ there) × (i ≡ j)
    way n past before here there i j x y = one-way Are m.channels only-one fronts short-of n past before here there i j x y

    no-stop : (c : ℕ) → Some c ≡ None → ⊥
    no-stop c e = absurd (cc)

    -- rows with which a replay ends don't go on
    no-longer : (n : ℕ) (pa pb : List (List Row)) (ha hb : List Row) (i : ReplayOutcome) → EndsAs d m packets n pa ha i → AreFirst n pb hb
        → length (all_rows pa ha) < length (all_rows pb hb) → ⊥
    no-longer n pa pb ha hb (Ended cycles) (e, same) first less =
        let p = count-all pa ha in
        let q = count-all pb hb in
        let asks = is-asked pa ha e.played in
        ⊎_elim
        (λ (h : EndsHere pa pb ha hb). first.going.going (length ha) h.1
        (subst (λ (ss : List (List Row)). IsAsked ss (length ha)) h.0 asks)
        (subst (λ (ss : List (List Row)). HasEndedIn N packets ss (take (length ha) hb)) h.0
        (subst (HasEndedIn N packets pa) h.2 e.ended)))
        (λ (h : EndsBefore pa pb ha). first.going.before h.place h.rows h.at (length ha) h.most
        (subst (λ (ss : List (List Row)). IsAsked ss (length ha)) h.past asks)
        (subst (λ (ss : List (List Row)). HasEndedIn N packets ss (take (length ha) h.rows)) h.past
        (subst (HasEndedIn N packets pa) h.front e.ended)))
        (fewer-rows pa pb ha hb (fronts (and_stretch pa ha) (and_stretch pb hb) e.played first.played (omega (arith, less, p, q)))
        (omega (arith, less, p, q)))
    no-longer n pa pb ha hb (Short helds events) (e, held_are, waits_are) first less =
        let l = e.all in let w = first.within in omega (arith, l, w, less)
    no-longer n pa pb ha hb (Unstable channel cycle) (e, same) first less = no-stop channel
        (way (length (all_rows pb hb)) pa pb ha hb (Some channel) None (e.stops, less)
        (first.played, first.stable.before, first.stable.last, refl)).2

    one-end : (n : ℕ) (past : List (List Row)) (here : List Row) (i j : ReplayOutcome) → EndsAs d m packets n past here i
        → EndsAs d m packets n past here j → i ≡ j
    one-end n past here (Ended a) (Ended b) (e, x) (f, y) = ap Ended (x ∙ sym y)
    one-end n past here (Ended a) (Short hs es) (e, x) (f, y, z) = absurd (f.not_ended e.ended)
    one-end n past here (Ended a) (Unstable c k) (e, x) (f, y) = absurd (f.not_ended e.ended)
    one-end n past here (Short hs es) (Ended b) (e, x, z) (f, y) = absurd (e.not_ended f.ended)
    one-end n past here (Short hs es) (Short gs fs) (e, x, z) (f, y, w) =
        ap (λ (xs : List Held). Short xs es) (x ∙ sym y) ∙ ap (Short gs) (z ∙ sym w)
    one-end n past here (Short hs es) (Unstable c k) (e, x, z) (f, y) = let a = e.all in let b = f.within in absurd (omega (arith, a, b))
    one-end n past here (Unstable c k) (Ended b) (e, x) (f, y) = absurd (e.not_ended f.ended)
    one-end n past here (Unstable c k) (Short gs fs) (e, x) (f, y, w) = let a = f.all in let b = e.within in absurd (omega (arith, a, b))
    one-end n past here (Unstable c k) (Unstable b j) (e, x) (f, y) =
        let same = way n past past here here (Some c) (Some b) (e.stops, e.within) (f.stops, f.within) in
        ap (λ l. Unstable l k) (same_Some c b same.2) ∙ ap (Unstable b) (x ∙ sym y)

    one : (n : ℕ) (pa pb : List (List Row)) (ha hb : List Row) (i j : ReplayOutcome) → EndsAs d m packets n pa ha i → EndsAs d m packets n pb hb j
        → (pa ≡ pb) × (ha ≡ hb) × (i ≡ j)
    one n pa pb ha hb i j x y =
        let first = first-rows n pa ha i x in
        let second = first-rows n pb hb j y in
        let p = count-all pa ha in
        let q = count-all pb hb in
        let long : length (all_rows pa ha) ≡ length (all_rows pb hb) = ⊎_elim
        (λ (e : length (all_rows pa ha) ≡ length (all_rows pb hb)). e)
        (λ (w : (length (all_rows pa ha) < length (all_rows pb hb)) ⊎ (length (all_rows pb hb) < length (all_rows pa ha))). ⊎_elim
        (λ (l : length (all_rows pa ha) < length (all_rows pb hb)). absurd (no-longer n pa pb ha hb i x second l))
        (λ (l : length (all_rows pb hb) < length (all_rows pa ha)). absurd (no-longer n pb pa hb ha j y first l))
        w)
        (cases_order (length (all_rows pa ha)) (length (all_rows pb hb))) in
        let two = same_from_push pa pb ha hb (only-one (and_stretch pa ha) (and_stretch pb hb) first.played second.played (omega (arith, p, q, long))) in (
          two.0,
          two.1,
          one-end n pb hb i j
              (subst (λ (ss : List (List Row)). EndsAs d m packets n ss hb i) two.0 (subst (λ (rs : List Row). EndsAs d m packets n pa rs i) two.1 x)) y,
        )

-- ---- of a design with a map
module _ (d : Design) (m : Map) (ready : IsReady d m) (packets : List Packet) (fit : ContentsFit m.channels packets) where
  -- what is recorded in each epoch that is left fits
  record AreFit (left : List (List Packet)) : Type 0 where
    some : 0 < length left
    all : All (ContentsFit m.channels) left

  each-fits : (e n : ℕ) → All (ContentsFit m.channels) (epochs_from e n packets)
  each-fits e zero = All-nil (ContentsFit m.channels)
  each-fits e (suc n) = All-cons (ContentsFit m.channels) (epoch e packets) (epochs_from (suc e) n packets)
      (epoch-all (IsPacket m.channels) e packets fit) (each-fits (suc e) n)

  fits : AreFit (epochs packets)
  fits = record { some = (let l = epochs-long 0 (suc (resets packets)) packets in omega (arith, l)); all = each-fits 0 (suc (resets packets)) }

  further : (left : List (List Packet)) (rows : List Row) → AreFit left → IsTurned (Is d m packets) (Turn d m packets) left rows → AreFit (drop 1 left)
  further [] rows all turned = absurd turned.is
  further (e ∷ []) rows all turned = absurd turned.turns
  further (e ∷ f ∷ es) rows all turned =
      record { some = omega arith; all = All-tail (ContentsFit m.channels) e (f ∷ es) all.all }

  same : (left : List (List Packet)) → AreFit left → (a b : List Row) → Is d m packets left a → Is d m packets left b → length a ≡ length b → a ≡ b
  same [] all a b ra rb l = absurd ra
  same (e ∷ es) all a b ra rb l = same-of
      (λ n. one-epoch_replay (nat_lt (suc (length es)) (All-epochs d m packets)) d m ready e (All-head (ContentsFit m.channels) e es all.all) n)
      a b ra rb l

  pub only-one : (a b : List (List Row)) → AreTraceReplay d m packets a → AreTraceReplay d m packets b → row_count a ≡ row_count b → a ≡ b
  only-one a b ra rb l = only (Is d m packets) (Turn d m packets) (Next d m packets) AreFit further same (front d m packets) (epochs packets) fits a b ra rb l

  fronts : (a b : List (List Row)) → AreTraceReplay d m packets a → AreTraceReplay d m packets b → row_count a ≤ row_count b → IsFront a b
  fronts a b ra rb l =
      is-front (Is d m packets) (Turn d m packets) (Next d m packets) AreFit further same (front d m packets) (epochs packets) fits a b ra rb l

  abbrev Rows : ℕ → Type 0
  Rows n = (ss : List (List Row)) × (row_count ss ≡ n) × AreTraceReplay d m packets ss

  found : (n : ℕ) → ∥ Found d m packets n ∥₁
  found zero = ∥∥₁_map (one-replay_in_stretches d m ready (epochs packets) fits.some fits.all 0).0
      (λ (x : Rows 0). start d m packets x.0 x.1 x.2)
  found (suc n) = ∥∥₁_elim (found n) ∥∥₁_prop (λ (f : Found d m packets n).
      ∥∥₁_map {B = Found d m packets (suc n)} (one-replay_in_stretches d m ready (epochs packets) fits.some fits.all (suc n)).0
      (λ (x : Rows (suc n)). subst (Found d m packets) (let e : n + 1 ≡ suc n = omega arith in e)
      (step d m packets n x.0 (let l = x.1 in omega (arith, l)) x.2 fronts f)))

pub one-outcome : OneOutcome
one-outcome d m ready packets fit n = (
  ∥∥₁_map (found d m ready packets fit n) (λ (f : Found d m packets n). (f.past, f.here, f.outcome, f.ends)),
  one d m packets (only-one d m ready packets fit) (fronts d m ready packets fit) n,
)
