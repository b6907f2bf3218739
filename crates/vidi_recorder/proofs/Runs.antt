-- The run is there and is one, and rows under its rules are its first rows.
use Rattle.std.proofs.Common.{◌≡◌, ℕ, ◌+◌, ◌<◌, ◌≤◌, true, false, List, [], ◌∷◌, ◌++◌, Option, Some, None, All, length, take, drop}
use Rattle.std.proofs.Common.{refl, ap, sym, subst, ◌∙◌, append_assoc, arith, ⊎_elim}
use Rattle.std.specs.List.{flat_map}
use Rattle.std.proofs.lemmas.Bool.{cases_lt}
use Rattle.std.proofs.Math.Logic.{∥∥₁_map}
use Rattle.std.proofs.lemmas.List.{append-nil, take-append-drop, take_all, take_at}
use Rattle.std.proofs.lemmas.List.Concat.{flat_map-append, length-flat_map}
use Rattle.std.proofs.lemmas.List.Elements.{All-nil}
use Rattle.trace_code.specs.trace_model.declared.channel.Channel.{Channel}
use Rattle.trace_code.specs.trace_model.declared.row.Row.{Row}
use Rattle.trace_code.specs.trace_model.Recording.{end_after, end_of, packets_at, packets_from, trace_of}
use Rattle.trace_code.specs.trace_model.Row.{IsOver}
use Rattle.trace_code.specs.Encoding.{encode, end_mark, header_bytes, packet_bytes, rows_bytes}
use Rattle.trace_code.proofs.RowsBytes.{encode-rows}
use Rattle.net_design.specs.Lawful.{IsLawful}
use Rattle.env_script.specs.run_model.Laws.{IsReady, OffersFit, OneOfLength, OneThatEnds}
use Rattle.env_script.specs.run_model.Played.{AreStable}
use Rattle.env_script.specs.run_model.Stretches.{AreTheRun, IsRunBehind, Turns, and_stretch, offers_behind, row_count, rows_of}
use Rattle.run_laws.specs.StretchLaws.{Behind}
use Rattle.run_laws.proofs.Chaining.{IsFront, is-front, same-of}
use Rattle.run_laws.proofs.Ending.{one-ending_by, the-run_in, count-rows}
use Rattle.run_laws.proofs.StretchLaws.{Over, further-run, one-here, one-run_by, run-front}
use Rattle.env_script.specs.Offer.{Offer}
use Rattle.env_script.specs.Offered.{offers_after, AreLasting}
use Rattle.env_script.proofs.Lasting.{lasting-behind, offers-fit}
use Rattle.run_stage.specs.chan_monitor.Shell.{IsMapped}
use Rattle.run_stage.proofs.Stretching.{all-same, rows-push}
use Rattle.vidi_recorder.specs.Course.{Course, course, gates_behind, turns_of, AreRunOf, AreTheRunOf, IsRunOf, IsTheRunOf}
use Rattle.vidi_recorder.specs.Laws.{OneRecordedRun}
use Rattle.vidi_recorder.specs.Recording.{IsFrontOfTheRun}
use Rattle.vidi_recorder.specs.Standing.{bytes_so_far}
use Rattle.vidi_recorder.proofs.Gated.{gates-fixed}
use Rattle.vidi_recorder.proofs.Going.{bytes_behind, rows-more}

-- ---- what fits
-- behind all rows the offers are of the channels
abbrev pub FitsBehind : Course → Type 0
FitsBehind w = Behind w.bound.channels (λ past. OffersFit w.bound.channels (offers_behind w.offers past))

pub fits-behind : (channels : List Channel) (offer : List Row → ℕ → Offer) → AreLasting channels offer
    → Behind channels (λ past. OffersFit channels (offers_behind (offers_after channels offer) past))
fits-behind channels offer lasting past over before are =
    offers-fit channels (λ rows. offer (rows_of past ++ rows)) (lasting-behind channels offer lasting (rows_of past)) before are

-- ---- what holds of the run

pub run-long : (w : Course) (past : List (List Row)) (here : List Row) (stop : Option ℕ) → AreTheRunOf w past here stop
    → length (rows_of past ++ here) ≤ w.cycles
run-long w past here None (run, all, last, long) = omega (arith, long)
run-long w past here (Some c) (stops, l) = omega (arith, l)

-- the rows of a run in stretches
pub as-run : (w : Course) (past : List (List Row)) (here : List Row) → AreRunOf w (and_stretch past here) → IsRunOf w (rows_of past ++ here)
as-run w past here run = record { stretches = and_stretch past here; rows_are = rows-push past here; run = run }

pub run-of : (w : Course) (rows : List Row) (stop : Option ℕ) → IsTheRunOf w rows stop → IsRunOf w rows
run-of w rows stop x = subst (IsRunOf w) x.rows_are (as-run w x.past x.here
    (the-run_in w.design w.bound w.offers (gates_behind w.bound.channels w.plan) (turns_of w) w.cycles x.past x.here stop x.run).0)

pub is-ready : (w : Course) → IsLawful w.design → IsMapped w.design w.bound → IsReady w.design w.bound
is-ready w lawful ready = record { lawful = lawful; one_map = ready.one_map; mapped = ready.mapped }

-- ---- one list of rows
-- stretches that are a front of others have their first rows
front-rows : (a b : List (List Row)) → IsFront a b → (more : List Row) × (rows_of b ≡ rows_of a ++ more)
front-rows [] b f = absurd f
front-rows (s ∷ a) [] f = absurd (none s a f)
  where
    none : (s : List Row) (a : List (List Row)) → IsFront (s ∷ a) [] → ⊥
    none s [] f = f
    none s (u ∷ us) f = f
front-rows (s ∷ []) (t ∷ b) (l, e) =
    let more = drop (length s) t in
    let whole : t ≡ s ++ more = sym (take-append-drop (length s) t) ∙ ap (λ (rs : List Row). rs ++ more) (sym e) in (
      more ++ rows_of b,
      ap (λ (rs : List Row). rs ++ rows_of b) whole ∙ append_assoc s more (rows_of b)
          ∙ ap (λ (rs : List Row). rs ++ (more ++ rows_of b)) (sym (append-nil s)),
    )
front-rows (s ∷ u ∷ us) (t ∷ b) (e, f) =
    let rest = front-rows (u ∷ us) b f in (
      rest.0,
      ap (λ (rs : List Row). rs ++ rows_of b) (sym e) ∙ ap (λ (rs : List Row). s ++ rs) rest.1
          ∙ sym (append_assoc s (rows_of (u ∷ us)) rest.0),
    )

module _ (w : Course) (ready : IsReady w.design w.bound) (fit : FitsBehind w) where
  abbrev Gates : List (List Row) → List Row → ℕ → Type 0
  Gates = gates_behind w.bound.channels w.plan

  abbrev Is : List (List Row) → List Row → Type 0
  Is = IsRunBehind w.design w.bound w.offers Gates

  abbrev So : List (List Row) → Type 0
  So past = Over w.design w.bound w.offers Gates (turns_of w) past

  same-here : (past : List (List Row)) → So past → (a b : List Row) → Is past a → Is past b → length a ≡ length b → a ≡ b
  same-here past over = same-of (one-here w.design w.bound w.offers Gates (turns_of w) ready fit (gates-fixed w.bound.channels w.plan) past over)

  -- a row behind these stretches
  pub one-row : (past : List (List Row)) → So past → ∥ ((rows : List Row) × (length rows ≡ 1) × Is past rows) ∥₁
  one-row past over =
      (one-here w.design w.bound w.offers Gates (turns_of w) ready fit (gates-fixed w.bound.channels w.plan) past over 1).0

  front-of : (rows all : List Row) → IsRunOf w rows → IsRunOf w all → length rows ≤ length all → take (length rows) all ≡ rows
  front-of rows all r q l =
      let a = count-rows r.stretches in
      let b = count-rows q.stretches in
      let c = ap length r.rows_are in
      let e = ap length q.rows_are in
      let front = is-front Is (Turns (turns_of w)) and_stretch So (further-run w.design w.bound w.offers Gates (turns_of w)) same-here
      (run-front w.design w.bound w.offers Gates (turns_of w)) [] (All-nil (All (IsOver w.bound.channels))) r.stretches q.stretches r.run q.run
      (omega (arith, a, b, c, e, l)) in
      let both = front-rows r.stretches q.stretches front in
      ap (take (length rows)) (sym q.rows_are ∙ both.1) ∙ take_at (rows_of r.stretches) both.0 (length rows) c ∙ r.rows_are

  pub same-rows : (a b : List Row) → IsRunOf w a → IsRunOf w b → length a ≡ length b → a ≡ b
  same-rows a b ra rb e =
      sym (front-of a b ra rb (omega (arith, e))) ∙ ap (λ n. take n b) e ∙ take_all (length b) b (omega arith)

  pub one-list : (n : ℕ) → OneOfLength (IsRunOf w) n
  one-list n = (
    ∥∥₁_map (one-run_by w.design w.bound w.offers Gates (turns_of w) ready fit (gates-fixed w.bound.channels w.plan) n).0
        (λ (x : (stretches : List (List Row)) × (row_count stretches ≡ n) × AreRunOf w stretches).
        (rows_of x.0, sym (count-rows x.0) ∙ x.1, record { stretches = x.0; rows_are = refl; run = x.2 })),
    λ a b la lb ra rb. same-rows a b ra rb (la ∙ sym lb),
  )

  one-ending : (n : ℕ) → ∥ ((past : List (List Row)) × (here : List Row) × (stop : Option ℕ)
      × AreTheRun w.design w.bound w.offers Gates (turns_of w) n past here stop) ∥₁
      × ((past before : List (List Row)) (here there : List Row) (i j : Option ℕ)
      → AreTheRun w.design w.bound w.offers Gates (turns_of w) n past here i
      → AreTheRun w.design w.bound w.offers Gates (turns_of w) n before there j → (past ≡ before) × (here ≡ there) × (i ≡ j))
  one-ending n = one-ending_by w.design w.bound ready w.offers Gates (turns_of w) fit (gates-fixed w.bound.channels w.plan) n

  pub one-course : OneThatEnds (IsTheRunOf w)
  one-course = (
    ∥∥₁_map (one-ending w.cycles).0
        (λ (x : (past : List (List Row)) × (here : List Row) × (stop : Option ℕ) × AreTheRunOf w past here stop).
        (rows_of x.0 ++ x.1, x.2, record { past = x.0; here = x.1; rows_are = refl; run = x.3 })),
    λ a b i j x y.
        (let same = (one-ending w.cycles).1 x.past y.past x.here y.here i j x.run y.run in
        (sym x.rows_are ∙ ap (λ past. rows_of past ++ x.here) same.0 ∙ ap (λ here. rows_of y.past ++ here) same.1 ∙ y.rows_are, same.2)),
  )

  -- stable rows are no longer than the run
  no-longer : (past before : List (List Row)) (here there : List Row) (stop : Option ℕ) → AreRunOf w (and_stretch past here)
      → All (AreStable w.bound.channels) past → AreStable w.bound.channels here → length (rows_of past ++ here) ≤ w.cycles
      → AreTheRunOf w before there stop → length (rows_of past ++ here) ≤ length (rows_of before ++ there)
  no-longer past before here there None run all stable l (r, a, s, e) = omega (arith, l, e)
  no-longer past before here there (Some c) run all stable l (stops, k) = ⊎_elim
      (λ (h : length (rows_of before ++ there) < length (rows_of past ++ here)).
      absurd (none ((one-ending (length (rows_of past ++ here))).1 past before here there None (Some c) (run, all, stable, refl) (stops, h)).2))
      (λ (h : length (rows_of past ++ here) ≤ length (rows_of before ++ there)). h)
      (cases_lt (length (rows_of before ++ there)) (length (rows_of past ++ here)))
    where
      none : None ≡ Some c → ⊥
      none e = cc

  -- so they are its first rows
  pub first-rows : (past : List (List Row)) (here all : List Row) (stop : Option ℕ) → AreRunOf w (and_stretch past here)
      → All (AreStable w.bound.channels) past → AreStable w.bound.channels here → length (rows_of past ++ here) ≤ w.cycles
      → IsTheRunOf w all stop → take (length (rows_of past ++ here)) all ≡ rows_of past ++ here
  first-rows past here all stop run stable last l the =
      let a = ap length the.rows_are in
      let b = no-longer past the.past here the.here stop run stable last l the.run in
      front-of (rows_of past ++ here) all (as-run w past here run) (run-of w all stop the) (omega (arith, a, b))

pub one-recorded : OneRecordedRun
one-recorded d m offer stalls times cycles ready lasting =
    let w = course d m offer stalls times cycles in
    (one-list w ready (fits-behind m.channels offer lasting), one-course w ready (fits-behind m.channels offer lasting))

-- ---- bytes of more rows
-- rows and more rows have the packets of the rows, and others behind them
packets-on : (channels : List Channel) (t e : ℕ) (rows more : List Row)
    → packets_from channels t e (rows ++ more) ≡ packets_from channels t e rows ++ packets_from channels (t + length rows) (end_of t e rows) more
packets-on channels t e [] more = ap (λ n. packets_from channels n e more) (let same : t ≡ t + 0 = omega arith in same)
packets-on channels t e (row ∷ rows) more =
    let on : t + 1 + length rows ≡ t + length (row ∷ rows) = omega arith in
    ap (λ ps. packets_at channels t e row ++ ps) (packets-on channels (t + 1) (end_after t e row) rows more)
    ∙ sym (append_assoc (packets_at channels t e row) (packets_from channels (t + 1) (end_after t e row) rows)
    (packets_from channels (t + 1 + length rows) (end_of (t + 1) (end_after t e row) rows) more))
    ∙ ap (λ n. packets_from channels t e (row ∷ rows) ++ packets_from channels n (end_of (t + 1) (end_after t e row) rows) more) on

-- a front of what is so far is a front of the encoding of the rows and more rows
abbrev pub FrontOf : List ℕ → List ℕ → Type 0
FrontOf bytes all = (rest : List ℕ) × (all ≡ bytes ++ rest)

pub front-back : (bytes lost all : List ℕ) → FrontOf (bytes ++ lost) all → (rest : List ℕ) × (bytes ++ rest ≡ all)
front-back bytes lost all (rest, e) = (lost ++ rest, sym (append_assoc bytes lost rest) ∙ sym e)

pub front-plain : (channels : List Channel) (rows more : List Row)
    → FrontOf (header_bytes channels ++ bytes_so_far channels rows false) (encode (trace_of channels (rows ++ more)))
front-plain channels rows more =
    let h = header_bytes channels in
    let mark = end_mark (length (packets_from channels 0 0 (rows ++ more))) in
    let others = packets_from channels (0 + length rows) (end_of 0 0 rows) more in
    let rest = flat_map (packet_bytes channels) others in (
      rest ++ mark,
      encode-rows channels (rows ++ more)
          ∙ ap (λ ps. (h ++ flat_map (packet_bytes channels) ps) ++ mark) (packets-on channels 0 0 rows more)
          ∙ ap (λ bs. (h ++ bs) ++ mark) (flat_map-append (packet_bytes channels) (packets_from channels 0 0 rows) others)
          ∙ ap (λ bs. (h ++ (bs ++ rest)) ++ mark) (sym (append-nil (rows_bytes channels rows)))
          ∙ ap (λ bs. bs ++ mark) (sym (append_assoc h (bytes_so_far channels rows false) rest))
          ∙ append_assoc (h ++ bytes_so_far channels rows false) rest mark,
    )

-- where a row comes that is fresh, the packet of its reset is part of that encoding too
pub front-fresh : (channels : List Channel) (rows : List Row) (next : Row) (more : List Row) → next.fresh ≡ true
    → FrontOf (header_bytes channels ++ bytes_so_far channels rows true) (encode (trace_of channels ((rows ++ next ∷ []) ++ more)))
front-fresh channels rows next more fresh =
    let h = header_bytes channels in
    let own = bytes_behind channels rows next in
    let so_far = bytes_so_far channels rows true in
    let on = front-plain channels (rows ++ next ∷ []) more in
    let same : rows_bytes channels (rows ++ next ∷ []) ++ [] ≡ so_far ++ own =
    append-nil (rows_bytes channels (rows ++ next ∷ [])) ∙ rows-more channels rows next
    ∙ ap (λ b. bytes_so_far channels rows b ++ own) fresh in (
      own ++ on.0,
      on.1 ∙ ap (λ bs. (h ++ bs) ++ on.0) same ∙ ap (λ bs. bs ++ on.0) (sym (append_assoc h so_far own)) ∙ append_assoc (h ++ so_far) own on.0,
    )

-- ---- fronts of the run's encoding
abbrev FrontIn : Course → List Row → List ℕ → Type 0
FrontIn w rows bytes = (all : List Row) (stop : Option ℕ) → IsTheRunOf w all stop
    → (take (length rows) all ≡ rows) × ((lost : List ℕ) × (bytes ++ lost ≡ encode (trace_of w.bound.channels all)))

pub front-there : (w : Course) → IsMapped w.design w.bound → FitsBehind w → (rows : List Row) (bytes : List ℕ)
    → IsLawful w.design → FrontIn w rows bytes → IsFrontOfTheRun w rows bytes
front-there w ready fit rows bytes lawful front =
    ∥∥₁_map (one-course w (is-ready w lawful ready) fit).0
    (λ (x : (rows : List Row) × (stop : Option ℕ) × IsTheRunOf w rows stop).
    (let first = front x.0 x.1 x.2 in (x.0, x.1, x.2, first.0, first.1)))

-- what is so far of its first rows is one
pub front-first : (channels : List Channel) (rows all : List Row) (bytes lost : List ℕ) → take (length rows) all ≡ rows
    → bytes ++ lost ≡ header_bytes channels ++ bytes_so_far channels rows false
    → (rest : List ℕ) × (bytes ++ rest ≡ encode (trace_of channels all))
front-first channels rows all bytes lost first e =
    let more = drop (length rows) all in
    let whole : rows ++ more ≡ all = ap (λ (rs : List Row). rs ++ more) (sym first) ∙ take-append-drop (length rows) all in
    front-back bytes lost (encode (trace_of channels all))
    (subst (λ bs. FrontOf bs (encode (trace_of channels all))) (sym e)
    (subst (λ (rs : List Row). FrontOf (header_bytes channels ++ bytes_so_far channels rows false) (encode (trace_of channels rs))) whole
    (front-plain channels rows more)))

-- and so it is with the packet of the reset behind them, where the next row is fresh
pub front-next : (channels : List Channel) (rows all : List Row) (next : Row) (bytes lost : List ℕ) → next.fresh ≡ true
    → take (length (rows ++ next ∷ [])) all ≡ rows ++ next ∷ []
    → bytes ++ lost ≡ header_bytes channels ++ bytes_so_far channels rows true
    → (rest : List ℕ) × (bytes ++ rest ≡ encode (trace_of channels all))
front-next channels rows all next bytes lost fresh first e =
    let more = drop (length (rows ++ next ∷ [])) all in
    let whole : (rows ++ next ∷ []) ++ more ≡ all =
    ap (λ (rs : List Row). rs ++ more) (sym first) ∙ take-append-drop (length (rows ++ next ∷ [])) all in
    front-back bytes lost (encode (trace_of channels all))
    (subst (λ bs. FrontOf bs (encode (trace_of channels all))) (sym e)
    (subst (λ (rs : List Row). FrontOf (header_bytes channels ++ bytes_so_far channels rows true) (encode (trace_of channels rs))) whole
    (front-fresh channels rows next more fresh)))

pub ended-front : (w : Course) → IsMapped w.design w.bound → FitsBehind w → (rows : List Row) (stop : Option ℕ)
    (bytes lost : List ℕ) → IsTheRunOf w rows stop → bytes ++ lost ≡ encode (trace_of w.bound.channels rows) → IsLawful w.design
    → IsFrontOfTheRun w rows bytes
ended-front w ready fit rows stop bytes lost the e lawful = front-there w ready fit rows bytes lawful (λ all other is.
    (let same = ((one-course w (is-ready w lawful ready) fit).1 rows all stop other the is).0 in (
      ap (take (length rows)) (sym same) ∙ take_all (length rows) rows (omega arith),
      (lost, e ∙ ap (λ (rs : List Row). encode (trace_of w.bound.channels rs)) same),
    )))
