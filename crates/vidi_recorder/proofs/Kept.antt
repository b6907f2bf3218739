-- What the trace of a run holds, and what a plan that drains everything makes of a run.
use Rattle.std.proofs.Common.{◌≡◌, ℕ, zero, suc, ◌+◌, ◌-◌, ◌<◌, ◌≤◌, ◌&&◌, ◌⊎◌, Bool, true, false, not, cond, List, [], ◌∷◌, ◌++◌, fold}
use Rattle.std.proofs.Common.{Some, None, All, length, take, drop, slice_get, count_by, refl, ap, sym, subst, ◌∙◌, append_assoc, arith, ⊎_elim}
use Rattle.std.proofs.Common.{add-zero, zero-add}
use Rattle.std.proofs.Math.Bool.{and-false}
use Rattle.std.proofs.lemmas.Bool.{and_from, and_parts, cases_Bool, cases_lt, false≢true, true_from_ne_false, true≢false}
use Rattle.std.proofs.lemmas.List.{append-nil, take-append-drop, take-append-le, length-append, length-take-le, length-map, length_push}
use Rattle.std.proofs.lemmas.List.Elements.{All-head, All-tail}
use Rattle.std.proofs.lemmas.List.Sums.{fold-append, sum_by-append}
use Rattle.std.proofs.lemmas.Option.{slice_get_within}
use Rattle.std.proofs.lemmas.Nat.{pow_pos}
use Rattle.vidi_io.specs.vidi_bits.Number.{has}
use Rattle.trace_code.specs.trace_model.declared.channel.Channel.{Channel}
use Rattle.trace_code.specs.trace_model.declared.event.Kind.TheVariants.{End}
use Rattle.trace_code.specs.trace_model.declared.packet.Packet.{Packet}
use Rattle.trace_code.specs.trace_model.declared.row.Row.{Row}
use Rattle.trace_code.specs.trace_model.Channel.{content_bytes}
use Rattle.trace_code.specs.trace_model.Epoch.{stretch}
use Rattle.trace_code.specs.trace_model.Laws.{KeepsInFlight}
use Rattle.trace_code.specs.trace_model.Recording.{after_gap, end_after, has_event, own_before, packet_of, packets_at, packets_from, reset_packet}
use Rattle.trace_code.specs.trace_model.Recording.{row_does}
use Rattle.trace_code.specs.trace_model.Packet.{count, does}
use Rattle.trace_code.specs.trace_model.Stability.{IsUnstableAt}
use Rattle.trace_code.specs.trace_model.Row.{completes, IsOver}
use Rattle.trace_code.proofs.RowsBytes.{rows-few}
use Rattle.trace_code.proofs.trace_model_lemmas.CountingLemmas.{count-cons, slice_get-append_left, slice_get-last, slice_get-take, take-suc_get}
use Rattle.trace_code.proofs.trace_model_lemmas.RowLaws.{has-none, quiet}
use Rattle.trace_code.proofs.trace_model_lemmas.TraceLaws.{rows-well_formed, trace-records}
use Rattle.env_script.specs.chan_map.vidi_bits.Findings.{is_nil}
use Rattle.env_script.specs.run_model.Laws.{ContentsStay, OffersStay}
use Rattle.env_script.specs.run_model.Played.{AreStable, all_up, is_fresh_after}
use Rattle.env_script.specs.run_model.Run.{AllUp, IsStretchRow}
use Rattle.env_script.specs.run_model.Stretches.{AreRun, AreStretches, IsRunBehind, IsUnturned, Turns, and_stretch, offers_behind, rows_of}
use Rattle.env_script.proofs.run_model_lemmas.Contents.{has-all, same-masks_below}
use Rattle.env_script.proofs.run_model_lemmas.PlayedLaws.{row-before_take, within}
use Rattle.env_script.proofs.run_model_lemmas.RunLaws.{run-keeps, none-behind, kept}
use Rattle.env_script.proofs.run_model_lemmas.Stays.{keeps-in-flight}
use Rattle.run_laws.proofs.Ending.{the-run_in, take-over, stable-front}
use Rattle.run_laws.proofs.StretchLaws.{run-front}
use Rattle.room_ledger.specs.Gates.{fresh_at, permit_at, used_at, AreGates}
use Rattle.room_ledger.specs.Laws.{EverythingDrains}
use Rattle.room_ledger.specs.Reservation.{least}
use Rattle.room_ledger.proofs.Following.{used-front}
use Rattle.room_ledger.proofs.GateLaws.{down-waits, none-left, none-waits, permit-waits}
use Rattle.env_script.specs.Offer.{Offer}
use Rattle.env_script.specs.Offered.{AreLasting, offers_after}
use Rattle.env_script.specs.Resets.{is_due, is_due_behind}
use Rattle.env_script.proofs.Lasting.{lasting-behind, offers-stay}
use Rattle.vidi_recorder.specs.Course.{Course, course, gates_behind, permit_before, sizes_of, turns_of, AreRunOf, IsRunOf}
use Rattle.vidi_recorder.specs.Laws.{TheRunIsKept, NoHiddenGate, DrainedRunIsPlain}
use Rattle.vidi_recorder.proofs.Gated.{gates-stay}
use Rattle.vidi_recorder.proofs.Going.{fresh-front, fresh-last}
use Rattle.vidi_recorder.proofs.Runs.{run-long}
use Rattle.run_stage.proofs.Stretching.{rows-push}

-- ---- lists of rows

get-over : (t : ℕ) (xs ys : List Row) → length xs ≤ t → slice_get (xs ++ ys) t ≡ slice_get ys (t - length xs)
get-over t [] ys l = ap (slice_get ys) (let e : t ≡ t - 0 = omega arith in e)
get-over zero (x ∷ xs) ys l = absurd (omega (arith, l))
get-over (suc t) (x ∷ xs) ys l =
    let e : t - length xs ≡ suc t - length (x ∷ xs) = omega arith in
    get-over t xs ys (omega (arith, l)) ∙ ap (slice_get ys) e

-- one stretch more, and what is behind it
behind-more : (past : List (List Row)) (s rest : List Row) → rows_of (and_stretch past s) ++ rest ≡ rows_of past ++ (s ++ rest)
behind-more past s rest = ap (λ (rs : List Row). rs ++ rest) (rows-push past s) ∙ append_assoc (rows_of past) s rest

-- ---- the rows since the last reset
abbrev step : List Row → Row → List Row
step here row = cond row.fresh (row ∷ []) (here ++ row ∷ [])

abbrev since : List Row → List Row → List Row
since here rows = fold step here rows

stretch-since : (rows : List Row) → stretch rows ≡ since [] rows
unfolding stretch
stretch-since rows = refl

since-none : (here rows : List Row) → ((t : ℕ) (row : Row) → slice_get rows t ≡ Some row → row.fresh ≡ false) → since here rows ≡ here ++ rows
since-none here [] none = sym (append-nil here)
since-none here (row ∷ rows) none =
    ap (λ b. since (cond b (row ∷ []) (here ++ row ∷ [])) rows) (none 0 row refl)
    ∙ since-none (here ++ row ∷ []) rows (λ t r at. none (suc t) r at) ∙ append_assoc here (row ∷ []) rows

-- rows of one stretch, of which the first is fresh where others come before
since-one : (later : Bool) (here rows : List Row) → (later ≡ false → here ≡ []) → 0 < length rows
    → ((t : ℕ) (row : Row) → slice_get rows t ≡ Some row → row.fresh ≡ is_fresh_after later (take t rows)) → since here rows ≡ rows
since-one later here [] start some marks = absurd (omega (arith, some))
since-one later here (row ∷ rows) start some marks =
    ap (λ b. since (cond b (row ∷ []) (here ++ row ∷ [])) rows) (marks 0 row refl)
    ∙ ap (λ rs. since rs rows) (first later start)
    ∙ since-none (row ∷ []) rows (λ t r at. none-behind later (row ∷ rows) marks t r at)
  where
    first : (b : Bool) → (b ≡ false → here ≡ []) → cond (b && true) (row ∷ []) (here ++ row ∷ []) ≡ row ∷ []
    first true h = refl
    first false h = ap (λ (rs : List Row). rs ++ row ∷ []) (h refl)

pub some-past : (past : List (List Row)) (s : List Row) → not (is_nil (and_stretch past s)) ≡ true
some-past [] s = refl
some-past (x ∷ past) s = refl

-- ---- stretches of a run
module _ (w : Course) where
  abbrev Is : List (List Row) → List Row → Type 0
  Is = IsRunBehind w.design w.bound w.offers (gates_behind w.bound.channels w.plan)

  abbrev Turn : List (List Row) → List Row → Type 0
  Turn = Turns (turns_of w)

  abbrev Are : List (List Row) → List (List Row) → Type 0
  Are past ss = AreStretches Is Turn and_stretch past ss

  -- ---- each front of each stretch is a stretch
  pub record Part (rows : List Row) : Type 0 where
    so_far : List (List Row)
    is : Is so_far rows
    stable : AreStable w.bound.channels rows

  part : (past : List (List Row)) (s : List Row) (k : ℕ) → Is past s → AreStable w.bound.channels s → Part (take k s)
  part past s k is stable = record {
    so_far = past;
    is = run-front w.design w.bound w.offers (gates_behind w.bound.channels w.plan) (turns_of w) past s k is;
    stable = stable-front w.bound.channels s k stable;
  }

  -- those since the last reset
  part-since : (past : List (List Row)) (s here : List Row) (k : ℕ) → Is past s → AreStable w.bound.channels s
      → (not (is_nil past) ≡ false → here ≡ []) → 0 < k → k ≤ length s → Part (since here (take k s))
  part-since past s here k is stable start some l =
      let front = run-front w.design w.bound w.offers (gates_behind w.bound.channels w.plan) (turns_of w) past s k is in
      let long = length-take-le k s l in
      subst Part (sym (since-one (not (is_nil past)) here (take k s) start (omega (arith, some, long))
      (λ t row at. (front.ruled t row at).2))) (part past s k is stable)

  parts : (past : List (List Row)) (ss : List (List Row)) → Are past ss → All (AreStable w.bound.channels) ss → (here : List Row)
      → (not (is_nil past) ≡ false → here ≡ []) → (k : ℕ) → 0 < k → k ≤ length (rows_of ss) → Part (since here (take k (rows_of ss)))
  parts past [] are stable here start k some l = absurd are
  parts past (s ∷ []) are stable here start k some l =
      let long = ap length (append-nil s) in
      subst (λ rs. Part (since here rs)) (sym (ap (take k) (append-nil s)))
      (part-since past s here k are.0 (All-head (AreStable w.bound.channels) s [] stable) start some (omega (arith, l, long)))
  parts past (s ∷ u ∷ us) are stable here start k some l =
      let rest = rows_of (u ∷ us) in
      let here-stable = All-head (AreStable w.bound.channels) s (u ∷ us) stable in
      ⊎_elim
      (λ (more : length s < k).
      (let turned = are.0 in
      let some-s = turned.some in
      let both = length-append s rest in
      let front : since here s ≡ s =
      since-one (not (is_nil past)) here s start some-s (λ t row at. (turned.is.ruled t row at).2) in
      let whole : since here (take k (s ++ rest)) ≡ since s (take (k - length s) rest) =
      ap (since here) (take-over k s rest (omega (arith, more))) ∙ fold-append step here s (take (k - length s) rest)
      ∙ ap (λ rs. since rs (take (k - length s) rest)) front in
      subst Part (sym whole) (parts (and_stretch past s) (u ∷ us) are.2 (All-tail (AreStable w.bound.channels) s (u ∷ us) stable) s
      (λ e. absurd (true≢false (sym (some-past past s) ∙ e))) (k - length s) (omega (arith, more)) (omega (arith, more, l, both)))))
      (λ (less : k ≤ length s). subst (λ rs. Part (since here rs)) (sym (take-append-le k s rest less))
      (part-since past s here k are.0.is here-stable start some less))
      (cases_lt (length s) k)

  first-part : (past : List (List Row)) (ss : List (List Row)) → Are past ss → All (AreStable w.bound.channels) ss → Part []
  first-part past [] are stable = absurd are
  first-part past (s ∷ []) are stable = part past s 0 are.0 (All-head (AreStable w.bound.channels) s [] stable)
  first-part past (s ∷ u ∷ us) are stable = part past s 0 are.0.is (All-head (AreStable w.bound.channels) s (u ∷ us) stable)

  -- at each place
  pub each-part : (ss : List (List Row)) → AreRunOf w ss → All (AreStable w.bound.channels) ss → (k : ℕ) → k ≤ length (rows_of ss)
      → Part (stretch (take k (rows_of ss)))
  each-part ss are stable zero l = subst Part (sym (stretch-since [])) (first-part [] ss are stable)
  each-part ss are stable (suc k) l =
      subst Part (sym (stretch-since (take (suc k) (rows_of ss)))) (parts [] ss are stable [] (λ e. refl) (suc k) (omega arith) l)

  -- ---- each row
  -- a row behind these rows, in its stretch
  pub record Placed (rows : List Row) (row : Row) : Type 0 where
    pub past : List (List Row)
    pub before : List Row
    pub front : rows_of past ++ before ≡ rows
    pub ruled : IsStretchRow (not (is_nil past)) w.bound.channels (offers_behind w.offers past) (gates_behind w.bound.channels w.plan past) before
        row
    pub over : IsOver w.bound.channels row
    pub ends : (c : ℕ) → has row.ends c ≡ completes row c

  place-here : (past : List (List Row)) (s : List Row) (t : ℕ) (row : Row) → Is past s → slice_get s t ≡ Some row
      → Placed (rows_of past ++ take t s) row
  place-here past s t row is at = record {
    past = past;
    before = take t s;
    front = refl;
    ruled = is.ruled t row at;
    over = (is.marked t row at).0;
    ends = (is.marked t row at).1.ends;
  }

  placed-in : (past ss : List (List Row)) → Are past ss → (t : ℕ) (row : Row) → slice_get (rows_of ss) t ≡ Some row
      → Placed (rows_of past ++ take t (rows_of ss)) row
  placed-in past [] are t row at = absurd are
  placed-in past (s ∷ []) are t row at =
      subst (λ (rs : List Row). Placed (rows_of past ++ take t rs) row) (sym (append-nil s))
      (place-here past s t row are.0 (subst (λ (rs : List Row). slice_get rs t ≡ Some row) (append-nil s) at))
  placed-in past (s ∷ u ∷ us) are t row at =
      let rest = rows_of (u ∷ us) in
      ⊎_elim
      (λ (l : t < length s). subst (λ (rs : List Row). Placed (rows_of past ++ rs) row) (sym (take-append-le t s rest (omega (arith, l))))
      (place-here past s t row are.0.is (sym (slice_get-append_left s rest t l) ∙ at)))
      (λ (l : length s ≤ t).
      (let p = placed-in (and_stretch past s) (u ∷ us) are.2 (t - length s) row (sym (get-over t s rest l) ∙ at) in
      subst (λ (rs : List Row). Placed rs row) (behind-more past s (take (t - length s) rest)
      ∙ ap (λ (rs : List Row). rows_of past ++ rs) (sym (take-over t s rest l))) p))
      (cases_lt t (length s))

  pub placed : (ss : List (List Row)) → AreRunOf w ss → (t : ℕ) (row : Row) → slice_get (rows_of ss) t ≡ Some row
      → Placed (take t (rows_of ss)) row
  placed ss are t row at = placed-in [] ss are t row at

-- ---- counts
-- the ends of packets are those of their rows: a reset has none
ends-at : (channels : List Channel) (t before c : ℕ) (row : Row) → count End c (packets_at channels t before row) ≡ cond (row_does End c row) 1 0
ends-at channels t before c row = one row.fresh (has_event row) refl
  where
    gap : ℕ
    gap = t - own_before t before row

    own : (b : Bool) → has_event row ≡ b → count End c (cond b (after_gap gap (packet_of channels row) ∷ []) []) ≡ cond (row_does End c row) 1 0
    own true h = count-cons (does End c) (after_gap gap (packet_of channels row)) [] ∙ add-zero (cond (row_does End c row) 1 0)
    own false h = sym (ap (λ b. cond b 1 0) (quiet End c row h))

    one : (fresh event : Bool) → has_event row ≡ event
        → count End c (cond fresh (reset_packet (t - before) ∷ []) [] ++ cond event (after_gap gap (packet_of channels row) ∷ []) [])
        ≡ cond (row_does End c row) 1 0
    one false event h = own event h
    one true event h =
        count-cons (does End c) (reset_packet (t - before)) (cond event (after_gap gap (packet_of channels row) ∷ []) [])
        ∙ ap (λ b. cond b 1 0 + count End c (cond event (after_gap gap (packet_of channels row) ∷ []) [])) (has-none c)
        ∙ zero-add (count End c (cond event (after_gap gap (packet_of channels row) ∷ []) [])) ∙ own event h

ends-from : (channels : List Channel) (t before c : ℕ) (rows : List Row)
    → count End c (packets_from channels t before rows) ≡ count_by (row_does End c) rows
ends-from channels t before c [] = refl
ends-from channels t before c (row ∷ rows) =
    let others = packets_from channels (t + 1) (end_after t before row) rows in
    sum_by-append (λ (p : Packet). cond (does End c p) 1 0) (packets_at channels t before row) others
    ∙ ap (λ n. n + count End c others) (ends-at channels t before c row)
    ∙ ap (λ n. cond (row_does End c row) 1 0 + n) (ends-from channels (t + 1) (end_after t before row) c rows)
    ∙ sym (count-cons (row_does End c) row rows)

same-count : (f g : Row → Bool) (rows : List Row) → ((t : ℕ) (row : Row) → slice_get rows t ≡ Some row → f row ≡ g row)
    → count_by f rows ≡ count_by g rows
same-count f g [] h = refl
same-count f g (r ∷ rows) h =
    count-cons f r rows ∙ ap (λ b. cond b 1 0 + count_by f rows) (h 0 r refl)
    ∙ ap (λ n. cond (g r) 1 0 + n) (same-count f g rows (λ t row at. h (suc t) row at)) ∙ sym (count-cons g r rows)

-- ---- the trace
stays-behind : (channels : List Channel) (offer : List Row → ℕ → Offer) → AreLasting channels offer → (past : List (List Row))
    → OffersStay channels (offers_behind (offers_after channels offer) past)
stays-behind channels offer lasting past before row are =
    offers-stay channels (λ b. offer (rows_of past ++ b)) (lasting-behind channels offer lasting (rows_of past)) before row are

-- what is in flight in a part of a stretch keeps its content
kept-part : (w : Course) → ((past : List (List Row)) → OffersStay w.bound.channels (offers_behind w.offers past)) → (rows : List Row)
    → Part w rows → KeepsInFlight rows × ContentsStay w.bound.channels rows
kept-part w stay rows p =
    let later = not (is_nil p.so_far) in
    let keep = run-keeps later w.design w.bound (offers_behind w.offers p.so_far) (gates_behind w.bound.channels w.plan p.so_far) rows
    (stay p.so_far) (gates-stay w.bound.channels w.plan p.so_far) p.is p.stable in (
      keeps-in-flight w.bound.channels rows keep,
      (kept w.bound.channels rows (none-behind later rows (λ t row at. (p.is.ruled t row at).2)) p.is.marked keep).0,
    )

pub run-is_kept : TheRunIsKept
run-is_kept d m offer stalls times cycles rows stop table lasting few x =
    let w = course d m offer stalls times cycles in
    let ss = and_stretch x.past x.here in
    let stay = λ (past : List (List Row)). stays-behind m.channels offer lasting past in
    let in-stretches = the-run_in d m w.offers (gates_behind m.channels w.plan) (turns_of w) cycles x.past x.here stop x.run in
    let whole : rows_of ss ≡ rows = rows-push x.past x.here ∙ x.rows_are in
    let short = run-long w x.past x.here stop x.run in
    let long = ap length x.rows_are in
    let row-in = λ (t : ℕ) (row : Row) (at : slice_get rows t ≡ Some row). placed w ss in-stretches.0 t row
    (subst (λ (rs : List Row). slice_get rs t ≡ Some row) (sym whole) at) in
    let part-in = λ (k : ℕ) (l : k ≤ length rows). subst (λ (rs : List Row). Part w (stretch (take k rs))) whole
    (each-part w ss in-stretches.0 in-stretches.1 k (subst (λ (rs : List Row). k ≤ length rs) (sym whole) l)) in
    record {
      starts = λ c. trace-records m.channels rows (λ t row at. (row-in t row at).over) c;
      ends = λ c. ends-from m.channels 0 0 c rows
          ∙ same-count (row_does End c) (λ (row : Row). completes row c) rows (λ t row at. (row-in t row at).ends c);
      contents = λ k l. (kept-part w stay (stretch (take k rows)) (part-in k l)).1;
      encoded = record {
        table = table;
        well_formed = rows-well_formed m.channels rows (omega (arith, short, long, few))
            (λ k l. ((part-in k l).is.marked, (kept-part w stay (stretch (take k rows)) (part-in k l)).0));
        few = let a = rows-few m.channels rows in omega (arith, a, short, long, few);
      };
    }

-- each row is over the channels
pub run-over : (w : Course) (rows : List Row) → IsRunOf w rows → (t : ℕ) (row : Row) → slice_get rows t ≡ Some row → IsOver w.bound.channels row
run-over w rows run t row at =
    (placed w run.stretches run.run t row (subst (λ (rs : List Row). slice_get rs t ≡ Some row) (sym run.rows_are) at)).over

-- ---- gates that are down
pub no-hidden_gate : NoHiddenGate
no-hidden_gate w rows t c row fits run at l down =
    let sizes = sizes_of w.bound.channels in
    let p = placed w run.stretches run.run t row (subst (λ (rs : List Row). slice_get rs t ≡ Some row) (sym run.rows_are) at) in
    let front = take t rows in
    let same : rows_of p.past ++ p.before ≡ front = p.front ∙ ap (take t) run.rows_are in
    let inside = slice_get_within rows t row at in
    let long : length front ≡ t = length-take-le t rows (omega (arith, inside)) in
    let gates : AreGates sizes w.plan front t row.fresh row.gates =
    subst (λ (f : Bool). AreGates sizes w.plan front t f row.gates) (sym p.ruled.2)
    (subst (λ (k : ℕ). AreGates sizes w.plan front k (is_fresh_after (not (is_nil p.past)) p.before) row.gates) long
    (subst (λ (rs : List Row). AreGates sizes w.plan rs (length rs) (is_fresh_after (not (is_nil p.past)) p.before) row.gates) same
    p.ruled.1)) in
    let many = length-map w.bound.channels content_bytes in
    let some = down-waits sizes w.plan front t row.fresh row.gates c fits gates (omega (arith, l, many)) down in
    let used : used_at sizes w.plan rows t row.fresh ≡ used_at sizes w.plan front t row.fresh =
    ap (λ (rs : List Row). used_at sizes w.plan rs t row.fresh) (sym (take-append-drop t rows))
    ∙ used-front sizes w.plan front (drop t rows) t row.fresh (omega (arith, long)) in
    omega (arith, some, used)

-- ---- everything drains
-- where a reset is due there is a time
some-time : (times : List ℕ) (k n : ℕ) → is_due times k n ≡ true → not (is_nil times) ≡ true
some-time [] k n h = absurd (false≢true h)
some-time (t ∷ times) k n h = refl

-- nothing waits in any of these rows
module _ (w : Course) (all : List Row) (fits : least (sizes_of w.bound.channels) w.plan.resets ≤ w.plan.capacity)
    (timed : w.plan.resets ≡ not (is_nil w.times))
    (none : (t : ℕ) → t < length all → used_at (sizes_of w.bound.channels) w.plan all t (fresh_at w.plan all t) ≡ 0) where
  abbrev sizes : List ℕ
  sizes = sizes_of w.bound.channels

  -- so it is behind a front of them
  front-none : (front more : List Row) (t : ℕ) → front ++ more ≡ all → t < length front → used_at sizes w.plan front t (fresh_at w.plan front t) ≡ 0
  front-none front more t e l =
      let long = ap length e in
      let both = length-append front more in
      ap (used_at sizes w.plan front t) (sym (fresh-front w.plan front more t l))
      ∙ sym (used-front sizes w.plan front more t (fresh_at w.plan (front ++ more) t) (omega (arith, l)))
      ∙ ap (λ (rs : List Row). used_at sizes w.plan rs t (fresh_at w.plan rs t)) e ∙ none t (omega (arith, long, both, l))

  -- the permit is there
  permit-there : (front more : List Row) (t : ℕ) → front ++ more ≡ all → t ≤ length front → 0 < t → permit_before sizes w.plan front t ≡ true
  permit-there front more zero e l some = absurd (omega (arith, some))
  permit-there front more (suc t) e l some = true_from_ne_false (permit_at sizes w.plan front t (fresh_at w.plan front t)) (λ down.
      (let waits = permit-waits sizes w.plan front t (fresh_at w.plan front t) fits down in
      let zero_used = front-none front more t e (omega (arith, l)) in
      omega (arith, waits, zero_used)))

  -- a reset comes where it is due
  comes-due : (rows more : List Row) → rows ++ more ≡ all → 0 < length rows → is_due_behind w.times rows ≡ true → turns_of w rows ≡ true
  comes-due rows more e some due =
      and_from (is_due_behind w.times rows) (permit_before sizes w.plan rows (length rows)) due
      (permit-there rows more (length rows) e (omega arith) some)

  due-comes : (rows : List Row) → turns_of w rows ≡ true → is_due_behind w.times rows ≡ true
  due-comes rows h = (and_parts (is_due_behind w.times rows) (permit_before sizes w.plan rows (length rows)) h).0

  abbrev Plain : List (List Row) → List Row → Type 0
  Plain = IsRunBehind w.design w.bound w.offers (λ before. AllUp w.bound.channels)

  abbrev Due : List (List Row) → List Row → Type 0
  Due = Turns (is_due_behind w.times)

  -- there may be resets, where one came
  abbrev Came : List (List Row) → Type 0
  Came past = not (is_nil past) ≡ true → w.plan.resets ≡ true

  -- all gates are up in a stretch
  plain-stretch : (past : List (List Row)) (s rest : List Row) → Came past → rows_of past ++ (s ++ rest) ≡ all → Is w past s → Plain past s
  plain-stretch past s rest came e is = record {
    marked = is.marked;
    driven = is.driven;
    ruled = λ t row at. ((is.ruled t row at).0, up t row at, (is.ruled t row at).2);
  }
    where
      up : (t : ℕ) (row : Row) → slice_get s t ≡ Some row → row.gates ≡ all_up w.bound.channels
      up t row at =
          let front = rows_of past ++ take t s in
          let inside = slice_get_within s t row at in
          let long : length (take t s) ≡ t = length-take-le t s (omega (arith, inside)) in
          let fresh = is_fresh_after (not (is_nil past)) (take t s) in
          let ruled = is.ruled t row at in
          let grown : take (suc t) s ≡ take t s ++ row ∷ [] = take-suc_get s t row at in
          let more = drop (suc t) s ++ rest in
          let whole : (front ++ row ∷ []) ++ more ≡ all =
          ap (λ (rs : List Row). rs ++ more) (append_assoc (rows_of past) (take t s) (row ∷ [])
          ∙ ap (λ (rs : List Row). rows_of past ++ rs) (sym grown))
          ∙ append_assoc (rows_of past) (take (suc t) s) more
          ∙ ap (λ (rs : List Row). rows_of past ++ rs) (sym (append_assoc (take (suc t) s) (drop (suc t) s) rest)
          ∙ ap (λ (rs : List Row). rs ++ rest) (take-append-drop (suc t) s))
          ∙ e in
          let push = length_push front row in
          let used : used_at sizes w.plan front (length front) row.fresh ≡ 0 =
          ap (used_at sizes w.plan front (length front)) (marked past (take t s) came ruled.2)
          ∙ ap (used_at sizes w.plan front (length front)) (sym (fresh-last w.plan front row))
          ∙ sym (used-front sizes w.plan front (row ∷ []) (length front) (fresh_at w.plan (front ++ row ∷ []) (length front)) (omega arith))
          ∙ front-none (front ++ row ∷ []) more (length front) whole (omega (arith, push)) in
          let many = length-map w.bound.channels content_bytes in
          same-masks_below (length w.bound.channels) row.gates (all_up w.bound.channels) (is.marked t row at).0.gates
          (let p = pow_pos (length w.bound.channels) in omega (arith, p))
          (λ c l. ⊎_elim
          (λ (h : has row.gates c ≡ true). h ∙ sym (has-all (length w.bound.channels) c l))
          (λ (h : has row.gates c ≡ false).
          let some = down-waits sizes w.plan front (length front) fresh row.gates c fits ruled.1 (omega (arith, l, many)) h in
          let zero_used = ap (used_at sizes w.plan front (length front)) (sym ruled.2) ∙ used in
          absurd (omega (arith, some, zero_used)))
          (cases_Bool (has row.gates c)))
        where
          -- a row is fresh only where there may be resets
          marked : (past : List (List Row)) (before : List Row) → Came past → row.fresh ≡ is_fresh_after (not (is_nil past)) before
              → row.fresh ≡ (w.plan.resets && row.fresh)
          marked [] before came h = h ∙ sym (and-false w.plan.resets) ∙ ap (λ f. w.plan.resets && f) (sym h)
          marked (x ∷ xs) before came h = sym (ap (λ r. r && row.fresh) (came refl))

  plain-unturned : (past : List (List Row)) (s rest : List Row) → rows_of past ++ (s ++ rest) ≡ all → IsUnturned (Turn w) past s
      → IsUnturned Due past s
  plain-unturned past s rest e unturned k some l h =
      let front = rows_of past ++ take k s in
      let more = drop k s ++ rest in
      let whole : front ++ more ≡ all =
      append_assoc (rows_of past) (take k s) more
      ∙ ap (λ (rs : List Row). rows_of past ++ rs) (sym (append_assoc (take k s) (drop k s) rest)
      ∙ ap (λ (rs : List Row). rs ++ rest) (take-append-drop k s))
      ∙ e in
      let a = length-append (rows_of past) (take k s) in
      let b = length-take-le k s (omega (arith, l)) in
      unturned k some l (comes-due front more whole (omega (arith, a, b, some)) h)

  plain-all : (past ss : List (List Row)) → Came past → rows_of past ++ rows_of ss ≡ all → Are w past ss
      → AreStretches Plain Due and_stretch past ss
  plain-all past [] came e are = absurd are
  plain-all past (s ∷ []) came e are =
      (plain-stretch past s [] came e are.0, plain-unturned past s [] e are.1)
  plain-all past (s ∷ u ∷ us) came e are =
      let turned = are.0 in (
        record {
          is = plain-stretch past s (rows_of (u ∷ us)) came e turned.is;
          some = turned.some;
          turns = due-comes (rows_of past ++ s) turned.turns;
          unturned = plain-unturned past s (rows_of (u ∷ us)) e turned.unturned;
        },
        are.1,
        plain-all (and_stretch past s) (u ∷ us)
            (λ h. timed ∙ some-time w.times _ _ (due-comes (rows_of past ++ s) turned.turns))
            (behind-more past s (rows_of (u ∷ us)) ∙ e) are.2,
      )

  pub plain-run : (ss : List (List Row)) → rows_of ss ≡ all → AreRunOf w ss
      → AreRun w.design w.bound w.offers (λ before. AllUp w.bound.channels) (is_due_behind w.times) ss
  plain-run ss e are = plain-all [] ss (λ h. absurd (false≢true h)) e are

-- an unstable row isn't fresh: there is a row before it, since the last reset
last-stretch : (w : Course) (first past : List (List Row)) (here : List Row) → Are w first (and_stretch past here)
    → (behind : List (List Row)) × Is w behind here
last-stretch w first [] here are = (first, are.0)
last-stretch w first (s ∷ []) here are = last-stretch w (and_stretch first s) [] here are.2
last-stretch w first (s ∷ u ∷ us) here are = last-stretch w (and_stretch first s) (u ∷ us) here are.2

not-fresh : (w : Course) (past : List (List Row)) (here : List Row) (next : Row) (c : ℕ) → AreRunOf w (and_stretch past (here ++ next ∷ []))
    → IsUnstableAt w.bound.channels (here ++ next ∷ []) (length here) c → next.fresh ≡ false
not-fresh w past [] next c run u = absurd (none u.before u.before_is)
  where
    none : (r : Row) → None ≡ Some r → ⊥
    none r e = cc
not-fresh w past (x ∷ here) next c run u =
    let last = last-stretch w [] past (x ∷ here ++ next ∷ []) run in
    (last.1.ruled (length (x ∷ here)) next (slice_get-last (x ∷ here) next)).2 ∙ and-false (not (is_nil last.0))

-- nothing waits in it either
none-more : (w : Course) (rows : List Row) (next : Row) → EverythingDrains (sizes_of w.bound.channels) w.plan rows → next.fresh ≡ false
    → (t : ℕ) → t < length (rows ++ next ∷ [])
    → used_at (sizes_of w.bound.channels) w.plan (rows ++ next ∷ []) t (fresh_at w.plan (rows ++ next ∷ []) t) ≡ 0
none-more w rows next drains unmarked t l = ⊎_elim
    (λ (k : t < length rows).
    ap (used_at sizes w.plan all t) (fresh-front w.plan rows (next ∷ []) t k)
    ∙ used-front sizes w.plan rows (next ∷ []) t (fresh_at w.plan rows t) (omega (arith, k)) ∙ none-left sizes w.plan rows drains t)
    (λ (k : length rows ≤ t).
    (let long = length_push rows next in
    let last : t ≡ length rows = omega (arith, k, l, long) in
    ap (λ u. used_at sizes w.plan all u (fresh_at w.plan all u)) last
    ∙ ap (used_at sizes w.plan all (length rows)) (fresh-last w.plan rows next ∙ ap (λ f. w.plan.resets && f) unmarked ∙ and-false w.plan.resets)
    ∙ used-front sizes w.plan rows (next ∷ []) (length rows) false (omega arith) ∙ none-waits sizes w.plan rows drains (length rows)))
    (cases_lt t (length rows))
  where
    sizes : List ℕ
    sizes = sizes_of w.bound.channels

    all : List Row
    all = rows ++ next ∷ []

pub drained-plain : DrainedRunIsPlain
drained-plain w rows None timed fits drains the =
    let r = the.run in
    record {
      past = the.past;
      here = the.here;
      rows_are = the.rows_are;
      run = (
        plain-run w rows fits timed (λ t l. none-left (sizes_of w.bound.channels) w.plan rows drains t) (and_stretch the.past the.here)
            (rows-push the.past the.here ∙ the.rows_are) r.0,
        r.1,
        r.2,
        r.3,
      );
    }
drained-plain w rows (Some c) timed fits drains the =
    let stops = the.run.0 in
    let next = stops.next in
    let all = rows ++ next ∷ [] in
    let whole : rows_of (and_stretch the.past (the.here ++ next ∷ [])) ≡ all =
    rows-push the.past (the.here ++ next ∷ []) ∙ sym (append_assoc (rows_of the.past) the.here (next ∷ []))
    ∙ ap (λ (rs : List Row). rs ++ next ∷ []) the.rows_are in
    let none = none-more w rows next drains (not-fresh w the.past the.here next c stops.played stops.unstable) in
    record {
      past = the.past;
      here = the.here;
      rows_are = the.rows_are;
      run = (
        record {
          next = next;
          played = plain-run w all fits timed none (and_stretch the.past (the.here ++ next ∷ [])) whole stops.played;
          before = stops.before;
          stable = stops.stable;
          unstable = stops.unstable;
        },
        the.run.1,
      );
    }
