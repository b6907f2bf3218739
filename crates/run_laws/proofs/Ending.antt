-- A run in stretches ends in exactly one way.
use Rattle.std.proofs.Common.{◌≡◌, ◌⊎◌, ℕ, suc, ◌+◌, ◌<◌, ◌≤◌, Bool, not, List, [], ◌∷◌, ◌++◌, Option, None, Some, All, length, take, ◌-◌}
use Rattle.std.proofs.Common.{inl, inr, ⊎_elim, refl, ap, sym, subst, ◌∙◌, arith}
use Rattle.std.proofs.Math.Logic.{∥∥₁_map}
use Rattle.std.proofs.lemmas.Bool.{cases_order}
use Rattle.std.proofs.lemmas.List.{flat_map_more, length-append, length-take-le, length_push, same_from_push, take-take, take_at}
use Rattle.std.proofs.lemmas.List.Concat.{length-flat_map}
use Rattle.std.proofs.lemmas.List.Elements.{All-append, All-cons, All-head, All-nil, All-tail}
use Rattle.std.proofs.lemmas.Option.{same_Some}
use Rattle.run_model.specs.vidi_bits.Findings.{is_nil}
use Rattle.run_model.specs.trace_model.declared.channel.Channel.{Channel}
use Rattle.run_model.specs.trace_model.declared.row.Offers.{Offers}
use Rattle.run_model.specs.trace_model.declared.row.Row.{Row}
use Rattle.run_model.specs.trace_model.Row.{IsOver}
use Rattle.run_model.specs.trace_model.Stability.{IsLowestUnstable, IsUnstableAt}
use Rattle.net_design.specs.declared.design.Design.{Design}
use Rattle.run_model.specs.chan_map.declared.pins.Map.{Map}
use Rattle.run_model.specs.Laws.{IsReady, OffersFit}
use Rattle.run_model.specs.Played.{AreStable}
use Rattle.run_model.specs.Run.{IsStretchRow}
use Rattle.run_model.specs.Stretches.{AreRun, AreStretches, AreTheRun, IsRunBehind, IsTurned, IsUnturned, StopsBehind, Turns, and_stretch}
use Rattle.run_model.specs.Stretches.{offers_behind, row_count, rows_of}
use Rattle.run_laws.specs.StretchLaws.{Behind, GatesBehind, OneEnding, OneEndingInStretches}
use Rattle.run_laws.proofs.Chaining.{IsFront, count-cons, count-one, is-front, only, same-of}
use Rattle.run_laws.proofs.StretchLaws.{Over, further-run, one-here, one-run_by, run-front}
use Rattle.run_model.proofs.Ends.{FixGates}
use Rattle.run_model.proofs.PlayedLaws.{Determines, one-list_of_rows, row-before_take, within}
use Rattle.run_model.proofs.RowParts.{carried}
use Rattle.run_model.proofs.RunLaws.{GatesAreFixed}
use Rattle.run_model.proofs.Stops.{plan-fixes}
use Rattle.run_model.proofs.Unstable.{Stop, lowest-one, stable-or-stops}
use Rattle.run_model.proofs.trace_model_lemmas.CountingLemmas.{slice_get-take}
use Rattle.std.proofs.Math.Seq.{take-append-add}

-- ---- fronts
pub take-over : (k : ℕ) (xs ys : List Row) → length xs ≤ k → take k (xs ++ ys) ≡ xs ++ take (k - length xs) ys
take-over k xs ys l =
    let e : k ≡ length xs + (k - length xs) = omega (arith, l) in
    ap (λ n. take n (xs ++ ys)) e ∙ take-append-add xs ys (k - length xs)

-- ---- rows that are stable
pub stable-front : (channels : List Channel) (rows : List Row) (k : ℕ) → AreStable channels rows → AreStable channels (take k rows)
stable-front channels rows k stable t before now was is =
    let l = within rows k t now is in
    stable t before now (sym (row-before_take rows k t (omega (arith, l))) ∙ was) (sym (slice_get-take k rows t l) ∙ is)

not-stable : (channels : List Channel) (rows : List Row) (t c : ℕ) → IsUnstableAt channels rows t c → AreStable channels rows → ⊥
not-stable channels rows t c u stable = stable t u.before u.now u.before_is u.now_is c u.lowest.0

one-channel : (channels : List Channel) (rows : List Row) (t c k : ℕ) → IsUnstableAt channels rows t c → IsUnstableAt channels rows t k → c ≡ k
one-channel channels rows t c k u w = lowest-one channels w.before w.now c k
    (subst (λ (r : Row). IsLowestUnstable channels r w.now (Some c)) (same_Some u.before w.before (sym u.before_is ∙ w.before_is))
    (subst (λ (r : Row). IsLowestUnstable channels u.before r (Some c)) (same_Some u.now w.now (sym u.now_is ∙ w.now_is)) u.lowest)) w.lowest

-- a first row isn't unstable
pub some-before : (channels : List Channel) (here : List Row) (next : Row) (c : ℕ) → IsUnstableAt channels (here ++ next ∷ []) (length here) c
    → 0 < length here
some-before channels [] next c u = absurd (none u.before u.before_is)
  where
    none : (r : Row) → None ≡ Some r → ⊥
    none r e = cc
some-before channels (x ∷ here) next c u = omega arith

pub all-stable : (channels : List Channel) (past : List (List Row)) (here : List Row) → All (AreStable channels) past → AreStable channels here
    → All (AreStable channels) (and_stretch past here)
all-stable channels past here all last =
    All-append (AreStable channels) past (here ∷ []) all (All-cons (AreStable channels) here [] last (All-nil (AreStable channels)))

-- ---- counts
rows-and : (past : List (List Row)) (here : List Row) → rows_of past ++ here ≡ rows_of (and_stretch past here)
rows-and past here = flat_map_more (λ (rows : List Row). rows) [] past here

pub count-rows : (ss : List (List Row)) → row_count ss ≡ length (rows_of ss)
count-rows ss = sym (length-flat_map (λ (rows : List Row). rows) ss)

count-and : (past : List (List Row)) (here : List Row) → row_count (and_stretch past here) ≡ length (rows_of past ++ here)
count-and past here = count-rows (and_stretch past here) ∙ sym (ap length (rows-and past here))

count-more : (past : List (List Row)) (here : List Row) (row : Row)
    → row_count (and_stretch past (here ++ row ∷ [])) ≡ length (rows_of past ++ here) + 1
count-more past here row =
    let c = count-and past (here ++ row ∷ []) in
    let a = length-append (rows_of past) (here ++ row ∷ []) in
    let b = length-append (rows_of past) here in
    let p = length_push here row in
    omega (arith, a, b, c, p)

-- ---- at most one way
-- `Are` are stretches of which there is one with so many rows, and the others are its fronts
module _ (Are : List (List Row) → Type 0) (channels : List Channel) where
  abbrev pub Ends : ℕ → List (List Row) → List Row → Option ℕ → Type 0
  Ends n past here None = Are (and_stretch past here) × All (AreStable channels) past × AreStable channels here
      × (length (rows_of past ++ here) ≡ n)
  Ends n past here (Some c) = StopsBehind Are channels past here c × (length (rows_of past ++ here) < n)

  -- the last stretch of a front of stable ones is stable
  last-in_front : (past : List (List Row)) (here : List Row) (b : List (List Row)) → IsFront (and_stretch past here) b
      → All (AreStable channels) b → AreStable channels here
  last-in_front [] here [] f stable = absurd f
  last-in_front [] here (t ∷ b) f stable =
      subst (AreStable channels) (sym f.1) (stable-front channels t (length here) (All-head (AreStable channels) t b stable))
  last-in_front (s ∷ []) here [] f stable = absurd f
  last-in_front (s ∷ []) here (t ∷ b) f stable = last-in_front [] here b f.1 (All-tail (AreStable channels) t b stable)
  last-in_front (s ∷ u ∷ us) here [] f stable = absurd f
  last-in_front (s ∷ u ∷ us) here (t ∷ b) f stable = last-in_front (u ∷ us) here b f.1 (All-tail (AreStable channels) t b stable)

  module _ (only : (a b : List (List Row)) → Are a → Are b → row_count a ≡ row_count b → a ≡ b)
      (is-front : (a b : List (List Row)) → Are a → Are b → row_count a ≤ row_count b → IsFront a b)
      (shorter : (past : List (List Row)) (here : List Row) (row : Row) → Are (and_stretch past (here ++ row ∷ [])) → 0 < length here
      → Are (and_stretch past here)) where
    -- stable rows aren't longer than those before which a run stops
    no-longer : (past before : List (List Row)) (here there : List Row) (c : ℕ) → StopsBehind Are channels past here c
        → Are (and_stretch before there) → All (AreStable channels) before → AreStable channels there
        → length (rows_of past ++ here) < length (rows_of before ++ there) → ⊥
    no-longer past before here there c x are all stable l =
        let p = count-more past here x.next in
        let q = count-and before there in
        not-stable channels (here ++ x.next ∷ []) (length here) c x.unstable
        (last-in_front past (here ++ x.next ∷ []) (and_stretch before there)
        (is-front (and_stretch past (here ++ x.next ∷ [])) (and_stretch before there) x.played are (omega (arith, l, p, q)))
        (all-stable channels before there all stable))

    without : (past : List (List Row)) (here : List Row) (c : ℕ) → StopsBehind Are channels past here c → Are (and_stretch past here)
    without past here c x = shorter past here x.next x.played (some-before channels here x.next c x.unstable)

    both-stop : (past before : List (List Row)) (here there : List Row) (c k : ℕ) → (x : StopsBehind Are channels past here c)
        → (y : StopsBehind Are channels before there k) → length (rows_of past ++ here) ≡ length (rows_of before ++ there)
        → (past ≡ before) × (here ≡ there) × (Some c ≡ Some k)
    both-stop past before here there c k x y l =
        let p = count-more past here x.next in
        let q = count-more before there y.next in
        let all : and_stretch past (here ++ x.next ∷ []) ≡ and_stretch before (there ++ y.next ∷ []) =
        only (and_stretch past (here ++ x.next ∷ [])) (and_stretch before (there ++ y.next ∷ [])) x.played y.played (omega (arith, l, p, q)) in
        let two = same_from_push past before (here ++ x.next ∷ []) (there ++ y.next ∷ []) all in
        let here-is = same_from_push here there x.next y.next two.1 in (
          two.0,
          here-is.0,
          ap Some (one-channel channels (there ++ y.next ∷ []) (length there) c k
              (subst (λ (rows : List Row). IsUnstableAt channels rows (length there) c) two.1
              (subst (λ (rows : List Row). IsUnstableAt channels (here ++ x.next ∷ []) (length rows) c) here-is.0 x.unstable)) y.unstable),
        )

    pub one-way : (n : ℕ) (past before : List (List Row)) (here there : List Row) (i j : Option ℕ) → Ends n past here i → Ends n before there j
        → (past ≡ before) × (here ≡ there) × (i ≡ j)
    one-way n past before here there None None (ra, sa, ha, la) (rb, sb, hb, lb) =
        let p = count-and past here in
        let q = count-and before there in
        let two = same_from_push past before here there
        (only (and_stretch past here) (and_stretch before there) ra rb (omega (arith, la, lb, p, q))) in
        (two.0, two.1, refl)
    one-way n past before here there None (Some c) (ra, sa, ha, la) (y, l) =
        absurd (no-longer before past there here c y ra sa ha (omega (arith, la, l)))
    one-way n past before here there (Some c) None (x, l) (rb, sb, hb, lb) =
        absurd (no-longer past before here there c x rb sb hb (omega (arith, lb, l)))
    one-way n past before here there (Some c) (Some k) (x, l) (y, l') = ⊎_elim
        (λ (e : length (rows_of past ++ here) ≡ length (rows_of before ++ there)). both-stop past before here there c k x y e)
        (λ (w : (length (rows_of past ++ here) < length (rows_of before ++ there)) ⊎ (length (rows_of before ++ there) < length (rows_of past ++ here))).
        ⊎_elim
        (λ (less : length (rows_of past ++ here) < length (rows_of before ++ there)).
        absurd (no-longer past before here there c x (without before there k y) y.before y.stable less))
        (λ (less : length (rows_of before ++ there) < length (rows_of past ++ here)).
        absurd (no-longer before past there here k y (without past here c x) x.before x.stable less))
        w)
        (cases_order (length (rows_of past ++ here)) (length (rows_of before ++ there)))

-- ---- each stretch
module _ {X : Type 0} (Is Turns : X → List Row → Type 0) (next : X → List Row → X) where
  abbrev Are : X → List (List Row) → Type 0
  Are x ss = AreStretches Is Turns next x ss

  unturned-front : (x : X) (rows : List Row) (k : ℕ) → k ≤ length rows → IsUnturned Turns x rows → IsUnturned Turns x (take k rows)
  unturned-front x rows k most unturned j some l h =
      let long = length-take-le k rows most in
      unturned j some (omega (arith, l, long, most)) (subst (Turns x) (take-take j k rows (omega (arith, l, long))) h)

  -- the rows of a stretch before its first unstable one
  pub record Halts (channels : List Channel) (x : X) (rows : List Row) : Type 0 where
    pub place : ℕ
    pub row : Row
    pub channel : ℕ
    pub within : place < length rows
    pub is : Is x (take place rows ++ row ∷ [])
    pub stable : AreStable channels (take place rows)
    pub unstable : IsUnstableAt channels (take place rows ++ row ∷ []) (length (take place rows)) channel

  module _ (front : (x : X) (rows : List Row) (k : ℕ) → Is x rows → Is x (take k rows)) where
    -- without the last row, where the last stretch has another
    pub shorter : (x : X) (past : List (List Row)) (here : List Row) (row : Row) → Are x (and_stretch past (here ++ row ∷ [])) → 0 < length here
        → Are x (and_stretch past here)
    shorter x [] here row are some =
        let e : take (length here) (here ++ row ∷ []) ≡ here = take_at here (row ∷ []) (length here) refl in
        let p = length_push here row in (
          subst (Is x) e (front x (here ++ row ∷ []) (length here) are.0),
          subst (IsUnturned Turns x) e (unturned-front x (here ++ row ∷ []) (length here) (omega (arith, p)) are.1),
        )
    shorter x (s ∷ []) here row are some = (are.0, some, shorter (next x s) [] here row are.2 some)
    shorter x (s ∷ u ∷ us) here row are some = (are.0, are.1, shorter (next x s) (u ∷ us) here row are.2 some)

    -- ---- at least one way
    module _ (channels : List Channel) (Fine : X → Type 0)
        (further : (x : X) (rows : List Row) → Fine x → IsTurned Is Turns x rows → Fine (next x rows))
        (same : (x : X) → Fine x → (a b : List Row) → Is x a → Is x b → length a ≡ length b → a ≡ b) where
      abbrev Ways : X → ℕ → Type 0
      Ways x n = (past : List (List Row)) × (here : List Row) × (stop : Option ℕ) × Ends (Are x) channels n past here stop

      halted : (x : X) → Fine x → (s : List Row) → Is x s → IsUnturned Turns x s → (n : ℕ) → length s ≤ n → Halts channels x s → Ways x n
      halted x fine s is unturned n most h =
          let less = h.within in
          let here = take h.place s in
          let long = length-take-le h.place s (omega (arith, less)) in
          let push = length_push here h.row in
          let more = length-take-le (suc h.place) s (omega (arith, less)) in
          let e : here ++ h.row ∷ [] ≡ take (suc h.place) s =
          same x fine (here ++ h.row ∷ []) (take (suc h.place) s) h.is (front x s (suc h.place) is) (omega (arith, long, push, more)) in (
            [],
            here,
            Some h.channel,
            (
              record {
                next = h.row;
                played = (h.is, subst (IsUnturned Turns x) (sym e) (unturned-front x s (suc h.place) (omega (arith, less)) unturned));
                before = All-nil (AreStable channels);
                stable = h.stable;
                unstable = h.unstable;
              },
              omega (arith, long, less, most),
            ),
          )

      -- a stretch before them
      behind : (x : X) (s : List Row) (past : List (List Row)) (here : List Row) → IsTurned Is Turns x s → 0 < length (rows_of past ++ here)
          → Are (next x s) (and_stretch past here) → Are x (and_stretch (s ∷ past) here)
      behind x s [] here turned some are = (turned, some, are)
      behind x s (u ∷ []) here turned some are = (turned, are.0.some, are)
      behind x s (u ∷ v ∷ vs) here turned some are = (turned, are.0.some, are)

      count-behind : (s : List Row) (past : List (List Row)) (here : List Row)
          → length (rows_of (s ∷ past) ++ here) ≡ length s + length (rows_of past ++ here)
      count-behind s past here =
          let a = length-append s (rows_of past) in
          let b = length-append (s ++ rows_of past) here in
          let c = length-append (rows_of past) here in
          omega (arith, a, b, c)

      further-on : (x : X) (s : List Row) → IsTurned Is Turns x s → AreStable channels s → (n : ℕ) → 0 < n → Ways (next x s) n
          → Ways x (length s + n)
      further-on x s turned stable n some (past, here, None, (are, all, last, long)) =
          let l = count-behind s past here in (
            s ∷ past,
            here,
            None,
            (
              behind x s past here turned (omega (arith, some, long)) are,
              All-cons (AreStable channels) s past stable all,
              last,
              omega (arith, l, long),
            ),
          )
      further-on x s turned stable n some (past, here, Some c, (stops, less)) =
          let l = count-behind s past here in
          let p = length-append (rows_of past) (here ++ stops.next ∷ []) in
          let q = length_push here stops.next in (
            s ∷ past,
            here,
            Some c,
            (
              record {
                next = stops.next;
                played = behind x s past (here ++ stops.next ∷ []) turned (omega (arith, p, q)) stops.played;
                before = All-cons (AreStable channels) s past stable stops.before;
                stable = stops.stable;
                unstable = stops.unstable;
              },
              omega (arith, l, less),
            ),
          )

      pub some-way : ((x : X) (rows : List Row) → Is x rows → AreStable channels rows ⊎ Halts channels x rows)
          → (x : X) → Fine x → (ss : List (List Row)) → Are x ss → Ways x (row_count ss)
      some-way tell x fine [] are = absurd are
      some-way tell x fine (s ∷ []) are =
          let c = count-one s in
          ⊎_elim
          (λ (stable : AreStable channels s). ([], s, None, (are, All-nil (AreStable channels), stable, sym c)))
          (λ (h : Halts channels x s). halted x fine s are.0 are.1 (row_count (s ∷ [])) (omega (arith, c)) h)
          (tell x s are.0)
      some-way tell x fine (s ∷ t ∷ ss) are =
          let c = count-cons s (t ∷ ss) in
          let d = count-cons t ss in
          let some = are.1 in
          ⊎_elim
          (λ (stable : AreStable channels s). subst (Ways x) (sym c)
          (further-on x s are.0 stable (row_count (t ∷ ss)) (omega (arith, d, some))
          (some-way tell (next x s) (further x s fine are.0) (t ∷ ss) are.2)))
          (λ (h : Halts channels x s). halted x fine s are.0.is are.0.unturned (row_count (s ∷ t ∷ ss)) (omega (arith, c)) h)
          (tell x s are.0.is)

-- ---- runs
-- the rows of a run in stretches, with what is said of them
pub the-run_in : (d : Design) (m : Map) (offers : List Row → Offers) (gates : List (List Row) → List Row → ℕ → Type 0) (turns : List Row → Bool)
    (n : ℕ) (past : List (List Row)) (here : List Row) (stop : Option ℕ) → AreTheRun d m offers gates turns n past here stop
    → AreRun d m offers gates turns (and_stretch past here) × All (AreStable m.channels) (and_stretch past here)
the-run_in d m offers gates turns n past here None (run, all, last, long) = (run, all-stable m.channels past here all last)
the-run_in d m offers gates turns n past here (Some c) (stops, less) = (
  shorter (IsRunBehind d m offers gates) (Turns turns) and_stretch (run-front d m offers gates turns) [] past here stops.next stops.played
      (some-before m.channels here stops.next c stops.unstable),
  all-stable m.channels past here stops.before stops.stable,
)

module _ (d : Design) (m : Map) (ready : IsReady d m) (offers : List Row → Offers) (gates : List (List Row) → List Row → ℕ → Type 0)
    (turns : List Row → Bool) where
  abbrev Run : List (List Row) → Type 0
  Run stretches = AreRun d m offers gates turns stretches

  abbrev Ending : ℕ → List (List Row) → List Row → Option ℕ → Type 0
  Ending n past here stop = AreTheRun d m offers gates turns n past here stop

  as-run : (n : ℕ) (past : List (List Row)) (here : List Row) (stop : Option ℕ) → Ends Run m.channels n past here stop → Ending n past here stop
  as-run n past here None ends = ends
  as-run n past here (Some c) ends = ends

  as-ends : (n : ℕ) (past : List (List Row)) (here : List Row) (stop : Option ℕ) → Ending n past here stop → Ends Run m.channels n past here stop
  as-ends n past here None ends = ends
  as-ends n past here (Some c) ends = ends

  abbrev So : List (List Row) → Type 0
  So past = Over d m offers gates turns past

  abbrev Same : Type 0
  Same = (past : List (List Row)) → So past → (a b : List Row) → IsRunBehind d m offers gates past a → IsRunBehind d m offers gates past b
      → length a ≡ length b → a ≡ b

  nothing : So []
  nothing = All-nil (All (IsOver m.channels))

  one-end : Same → (n : ℕ) (past before : List (List Row)) (here there : List Row) (i j : Option ℕ) → Ending n past here i → Ending n before there j
      → (past ≡ before) × (here ≡ there) × (i ≡ j)
  one-end same n past before here there i j x y = one-way Run m.channels
      (only (IsRunBehind d m offers gates) (Turns turns) and_stretch So (further-run d m offers gates turns) same (run-front d m offers gates turns)
      [] nothing)
      (is-front (IsRunBehind d m offers gates) (Turns turns) and_stretch So (further-run d m offers gates turns) same
      (run-front d m offers gates turns) [] nothing)
      (shorter (IsRunBehind d m offers gates) (Turns turns) and_stretch (run-front d m offers gates turns) [])
      n past before here there i j (as-ends n past here i x) (as-ends n before there j y)

  abbrev Halt : List (List Row) → List Row → Type 0
  Halt past rows = Halts (IsRunBehind d m offers gates) (Turns turns) and_stretch m.channels past rows

  halts : (past : List (List Row)) (rows : List Row) → IsRunBehind d m offers gates past rows → AreStable m.channels rows ⊎ Halt past rows
  halts past rows run = ⊎_elim
      (λ (stable : AreStable m.channels rows). inl stable)
      (λ (stop : Stop d m (IsStretchRow (not (is_nil past)) m.channels (offers_behind offers past) (gates past)) rows run). inr (record {
        place = stop.place;
        row = stop.stops.next;
        channel = stop.channel;
        within = stop.within;
        is = stop.stops.played;
        stable = stop.stops.stable;
        unstable = stop.stops.unstable;
      }))
      (stable-or-stops d m (IsStretchRow (not (is_nil past)) m.channels (offers_behind offers past) (gates past)) rows run)

  -- where at most one mask of gates is as said, there is at most one way
  pub one-end_by : Behind m.channels (λ past. FixGates m.channels (gates past))
      → (n : ℕ) (past before : List (List Row)) (here there : List Row) (i j : Option ℕ) → Ending n past here i → Ending n before there j
      → (past ≡ before) × (here ≡ there) × (i ≡ j)
  one-end_by fix = one-end (λ past over a b ra rb l. one-list_of_rows d m ready.lawful ready.one_map ready.mapped
      (IsStretchRow (not (is_nil past)) m.channels (offers_behind offers past) (gates past)) (determines past (fix past over)) a b ra rb l)
    where
      determines : (past : List (List Row)) → FixGates m.channels (gates past)
          → Determines m.channels (IsStretchRow (not (is_nil past)) m.channels (offers_behind offers past) (gates past))
      determines past one before a b are oa ob ra rb =
          (ra.2 ∙ sym rb.2, carried m.channels (offers_behind offers past before) a b (one before are a.gates b.gates ra.1 rb.1) ra.0 rb.0)

  -- where exactly one is, there is exactly one
  pub one-ending_by : Behind m.channels (λ past. OffersFit m.channels (offers_behind offers past))
      → Behind m.channels (λ past. GatesAreFixed m.channels (gates past)) → (n : ℕ) → OneEnding (AreTheRun d m offers gates turns n)
  one-ending_by fit fixed n =
      let same : Same = λ past over. same-of (one-here d m offers gates turns ready fit fixed past over) in (
        ∥∥₁_map (one-run_by d m offers gates turns ready fit fixed n).0
            (λ (x : (stretches : List (List Row)) × (row_count stretches ≡ n) × AreRun d m offers gates turns stretches).
            ending n x.0 x.1 (some-way (IsRunBehind d m offers gates) (Turns turns) and_stretch (run-front d m offers gates turns) m.channels So
            (further-run d m offers gates turns) same halts [] nothing x.0 x.2)),
        one-end same n,
      )
    where
      ending : (n : ℕ) (stretches : List (List Row)) → row_count stretches ≡ n
          → ((past : List (List Row)) × (here : List Row) × (stop : Option ℕ) × Ends Run m.channels (row_count stretches) past here stop)
          → (past : List (List Row)) × (here : List Row) × (stop : Option ℕ) × Ending n past here stop
      ending n stretches e (past, here, stop, ends) =
          (past, here, stop, as-run n past here stop (subst (λ k. Ends Run m.channels k past here stop) e ends))

pub one-ending_in_stretches : OneEndingInStretches
one-ending_in_stretches d m ready offers fit plan fits turns n = one-ending_by d m ready offers (GatesBehind plan) turns fit
    (λ past over. plan-fixes m.channels (plan past) (fits past over)) n
