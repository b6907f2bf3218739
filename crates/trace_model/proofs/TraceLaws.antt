-- The trace of rows with gaps and resets: its packets since the last reset are those of the rows since then, but for gaps. So it is well-formed.
use Rattle.std.proofs.Common.{◌≡◌, ℕ, zero, suc, ◌+◌, ◌-◌, ◌<◌, ◌≤◌, ◌^◌, Bool, true, false, cond, not, List, [], ◌∷◌, ◌++◌, Some, All, length, take, map}
use Rattle.std.proofs.Common.{slice_get, ⊎_elim, refl, ap, sym, subst, ◌∙◌, append_assoc, arith, add-zero}
use Rattle.std.specs.List.{fold, filter}
use Rattle.std.proofs.lemmas.Bool.{cases_Bool, false≢true}
use Rattle.std.proofs.lemmas.List.{append-nil, map-append, take-map, take_all}
use Rattle.std.proofs.lemmas.List.Elements.{All-nil, All-cons, All-append, filter-append}
use Rattle.std.proofs.lemmas.List.Sums.{fold-append}
use Rattle.std.proofs.lemmas.Nat.{pow_pos}
use Rattle.std.proofs.lemmas.Option.{same_Some}
use Rattle.trace_model.specs.declared.channel.Channel.{Channel}
use Rattle.trace_model.specs.declared.event.Kind.{Kind}
use Rattle.trace_model.specs.declared.event.Kind.TheVariants.{Start, End, Reset}
use Rattle.trace_model.specs.declared.packet.Packet.{Packet}
use Rattle.trace_model.specs.declared.packet.TheConstants.{GAP_LIMIT}
use Rattle.trace_model.specs.declared.row.Row.{Row}
use Rattle.trace_model.specs.Epoch.{since_reset, stretch}
use Rattle.trace_model.specs.Laws.{AreStretches, KeepsInFlight, RowsAreWellFormed, TraceRecordsOnce}
use Rattle.trace_model.specs.Packet.{does, count, content_of, widths_under, Fit, IsPacket}
use Rattle.trace_model.specs.Recording.{has_event, packet_of, packets_of, after_gap, reset_packet, own_before, packets_at, packets_from, end_of}
use Rattle.trace_model.specs.Recording.{end_after, recorded, row_does, trace_of, transactions}
use Rattle.trace_model.specs.Row.{AreRows, content_at, IsOver}
use Rattle.vidi_bits.specs.Number.{has}
use Rattle.trace_model.specs.Trace.{Alternates, AlternateThroughout}
use Rattle.trace_model.proofs.ContentsLemmas.{widths-none}
use Rattle.trace_model.proofs.CountingLemmas.{count-cons, slice_get-last, take-suc_get}
use Rattle.trace_model.proofs.EpochLemmas.{since-reset, since-row, throughout-nil, throughout-push, epochs_alternate}
use Rattle.trace_model.proofs.FlightLemmas.{alternates-nil}
use Rattle.trace_model.proofs.RowLaws.{row-adds, has-none, is-packet, good-all, no-event, quiet, row-at, same-content_of}

abbrev bare : Packet → Packet
bare p = after_gap 0 p

-- ---- gaps count for nothing
does-bare : (kind : Kind) (c : ℕ) (p : Packet) → does kind c (bare p) ≡ does kind c p
does-bare Start c p = refl
does-bare End c p = refl
does-bare Reset c p = refl

count-bare : (kind : Kind) (c : ℕ) (ps : List Packet) → count kind c (map bare ps) ≡ count kind c ps
count-bare kind c [] = refl
count-bare kind c (p ∷ ps) =
    count-cons (does kind c) (bare p) (map bare ps) ∙ ap (λ b. cond b 1 0 + count kind c (map bare ps)) (does-bare kind c p)
    ∙ ap (λ n. cond (does kind c p) 1 0 + n) (count-bare kind c ps) ∙ sym (count-cons (does kind c) p ps)

get-bare : (ps : List Packet) (p : ℕ) (x : Packet) → slice_get ps p ≡ Some x → slice_get (map bare ps) p ≡ Some (bare x)
get-bare [] p x e = absurd (cc)
get-bare (y ∷ ys) zero x e = ap (λ z. Some (bare z)) (same_Some y x e)
get-bare (y ∷ ys) (suc p) x e = get-bare ys p x e

count-front : (kind : Kind) (c n : ℕ) (ps : List Packet) → count kind c (take n (map bare ps)) ≡ count kind c (take n ps)
count-front kind c n ps = ap (count kind c) (take-map bare n ps) ∙ count-bare kind c (take n ps)

alternates-bare : (ps : List Packet) → Alternates (map bare ps) → Alternates ps
alternates-bare ps a = record {
  starts = λ p c x at h. sym (count-front Start c p ps) ∙ a.starts p c (bare x) (get-bare ps p x at) h ∙ count-front End c p ps;
  ends = λ p c x at h.
      (let l = a.ends p c (bare x) (get-bare ps p x at) h in
      let e = count-front End c p ps in
      let s = count-front Start c (suc p) ps in
      omega (arith, l, e, s));
}

-- ---- a row more
abbrev step : List Row → Row → List Row
step here row = cond row.fresh (row ∷ []) (here ++ row ∷ [])

pub stretch-push : (rows : List Row) (row : Row) → stretch (rows ++ row ∷ []) ≡ cond row.fresh (row ∷ []) (stretch rows ++ row ∷ [])
unfolding stretch
stretch-push rows row = fold-append step [] rows (row ∷ [])

pub packets-push : (channels : List Channel) (t e : ℕ) (rows : List Row) (row : Row) → packets_from channels t e (rows ++ row ∷ [])
    ≡ packets_from channels t e rows ++ packets_at channels (t + length rows) (end_of t e rows) row
packets-push channels t e [] row = append-nil (packets_at channels t e row) ∙ ap (λ n. packets_at channels n e row) (sym (add-zero t))
packets-push channels t e (x ∷ rows) row =
    let on : t + 1 + length rows ≡ t + suc (length rows) = omega arith in
    ap (λ ps. packets_at channels t e x ++ ps) (packets-push channels (t + 1) (end_after t e x) rows row)
    ∙ sym (append_assoc (packets_at channels t e x) (packets_from channels (t + 1) (end_after t e x) rows)
    (packets_at channels (t + 1 + length rows) (end_of (t + 1) (end_after t e x) rows) row))
    ∙ ap (λ n. packets_from channels t e (x ∷ rows) ++ packets_at channels n (end_of (t + 1) (end_after t e x) rows) row) on

-- a reset or none, and a packet or none
abbrev added : Bool → Bool → Packet → Packet → List Packet
added fresh event r p = cond fresh (r ∷ []) [] ++ cond event (p ∷ []) []

same-step : (channels : List Channel) (ps : List Packet) (rows : List Row) (row : Row) (gap own : ℕ) (fresh event : Bool)
    → has_event row ≡ event → map bare (since_reset ps) ≡ packets_of channels (stretch rows)
    → map bare (since_reset (ps ++ added fresh event (reset_packet gap) (after_gap own (packet_of channels row))))
    ≡ packets_of channels (cond fresh (row ∷ []) (stretch rows ++ row ∷ []))
same-step channels ps rows row gap own false false h same =
    ap (λ qs. map bare (since_reset qs)) (append-nil ps) ∙ same
    ∙ sym (row-adds channels (stretch rows) row
    ∙ ap (λ b. packets_of channels (stretch rows) ++ cond b (packet_of channels row ∷ []) []) h ∙ append-nil (packets_of channels (stretch rows)))
same-step channels ps rows row gap own false true h same =
    let p = after_gap own (packet_of channels row) in
    ap (map bare) (since-row ps p refl) ∙ map-append bare (since_reset ps) (p ∷ []) ∙ ap (λ xs. xs ++ packet_of channels row ∷ []) same
    ∙ sym (row-adds channels (stretch rows) row
    ∙ ap (λ b. packets_of channels (stretch rows) ++ cond b (packet_of channels row ∷ []) []) h)
same-step channels ps rows row gap own true false h same =
    ap (map bare) (since-reset ps (reset_packet gap) refl) ∙ sym (ap (λ b. map (packet_of channels) (cond b (row ∷ []) [])) h)
same-step channels ps rows row gap own true true h same =
    let r = reset_packet gap in
    let p = after_gap own (packet_of channels row) in
    ap (λ qs. map bare (since_reset qs)) (sym (append_assoc ps (r ∷ []) (p ∷ [])))
    ∙ ap (map bare) (since-row (ps ++ r ∷ []) p refl) ∙ ap (λ xs. map bare (xs ++ p ∷ [])) (since-reset ps r refl)
    ∙ sym (ap (λ b. map (packet_of channels) (cond b (row ∷ []) [])) h)

through-step : (ps : List Packet) (r p : Packet) (fresh event : Bool) → r.reset ≡ true → AlternateThroughout ps
    → Alternates (since_reset (ps ++ added fresh event r p)) → AlternateThroughout (ps ++ added fresh event r p)
through-step ps r p false false h all last = subst AlternateThroughout (sym (append-nil ps)) all
through-step ps r p false true h all last = throughout-push ps p all last
through-step ps r p true false h all last = throughout-push ps r all last
through-step ps r p true true h all last =
    let grouped = append_assoc ps (r ∷ []) (p ∷ []) in
    subst AlternateThroughout grouped (throughout-push (ps ++ r ∷ []) p
    (throughout-push ps r all (subst Alternates (sym (since-reset ps r h)) alternates-nil))
    (subst (λ qs. Alternates (since_reset qs)) (sym grouped) last))

-- ---- lawful packets
pub reset-lawful : (channels : List Channel) (gap : ℕ) → gap < GAP_LIMIT → IsPacket channels (reset_packet gap)
reset-lawful channels gap l = record {
  gap = l;
  event = refl;
  starts = pow_pos (length channels);
  ends = pow_pos (length channels);
  contents = subst (λ ws. Fit ws []) (sym (widths-none channels)) tt;
}

-- a reset is told by its gap
pub reset-is : (channels : List Channel) (p : Packet) → IsPacket channels p → p.reset ≡ true → reset_packet p.gap ≡ p
reset-is channels p is h = same p.reset p.starts p.ends p.contents h bare.0 bare.1
    (none p.contents (subst (λ ws. Fit ws p.contents) (ap (λ m. widths_under m channels) bare.0 ∙ widths-none channels) is.contents))
  where
    bare : (p.starts ≡ 0) × (p.ends ≡ 0)
    bare = no-event p.starts p.ends (ap not (sym is.event ∙ h))

    none : (numbers : List ℕ) → Fit [] numbers → numbers ≡ []
    none [] fit = refl
    none (x ∷ xs) fit = absurd fit

    same : (reset : Bool) (starts ends : ℕ) (contents : List ℕ) → reset ≡ true → starts ≡ 0 → ends ≡ 0 → contents ≡ []
        → reset_packet p.gap ≡ record { gap = p.gap; reset = reset; starts = starts; ends = ends; contents = contents }
    same reset starts ends contents r s e c =
        λ i. record { gap = p.gap; reset = (sym r) i; starts = (sym s) i; ends = (sym e) i; contents = (sym c) i }

-- what starts or ends something is none
pub event-row : (channels : List Channel) (p : Packet) (c : ℕ) → IsPacket channels p → has p.starts c ≡ true → p.reset ≡ false
event-row channels p c is up = ⊎_elim
    (λ (r : p.reset ≡ true). absurd (false≢true (sym (has-none c) ∙ ap (λ (q : Packet). has q.starts c) (reset-is channels p is r) ∙ up)))
    (λ (r : p.reset ≡ false). r)
    (cases_Bool p.reset)

own-lawful : (channels : List Channel) (row : Row) (own : ℕ) → own < GAP_LIMIT → IsOver channels row → has_event row ≡ true
    → IsPacket channels (after_gap own (packet_of channels row))
own-lawful channels row own l over h =
    let p = is-packet channels row over h in
    record { gap = l; event = p.event; starts = p.starts; ends = p.ends; contents = p.contents }

lawful-step : (channels : List Channel) (row : Row) (gap own : ℕ) (fresh event : Bool) → has_event row ≡ event → gap < GAP_LIMIT
    → own < GAP_LIMIT → IsOver channels row
    → All (IsPacket channels) (added fresh event (reset_packet gap) (after_gap own (packet_of channels row)))
lawful-step channels row gap own fresh event h l m over = All-append (IsPacket channels) (cond fresh (reset_packet gap ∷ []) [])
    (cond event (after_gap own (packet_of channels row) ∷ []) []) (first fresh) (second event h)
  where
    first : (b : Bool) → All (IsPacket channels) (cond b (reset_packet gap ∷ []) [])
    first true = All-cons (IsPacket channels) (reset_packet gap) [] (reset-lawful channels gap l) (All-nil (IsPacket channels))
    first false = All-nil (IsPacket channels)

    second : (b : Bool) → has_event row ≡ b → All (IsPacket channels) (cond b (after_gap own (packet_of channels row) ∷ []) [])
    second true e = All-cons (IsPacket channels) (after_gap own (packet_of channels row)) [] (own-lawful channels row own m over e)
        (All-nil (IsPacket channels))
    second false e = All-nil (IsPacket channels)

-- the last row of those since the last reset
last-over : (channels : List Channel) (xs : List Row) (row : Row) (b : Bool) → AreRows channels (cond b (row ∷ []) (xs ++ row ∷ []))
    → IsOver channels row
last-over channels xs row true are = (are 0 row refl).0
last-over channels xs row false are = (are (length xs) row (slice_get-last xs row)).0

-- ---- the trace of each front
record Fronts (channels : List Channel) (rows : List Row) (n : ℕ) : Type 0 where
  same : map bare (since_reset (packets_from channels 0 0 (take n rows))) ≡ packets_of channels (stretch (take n rows))
  through : AlternateThroughout (packets_from channels 0 0 (take n rows))
  each : All (IsPacket channels) (packets_from channels 0 0 (take n rows))

first-front : (channels : List Channel) (rows : List Row) → Fronts channels rows 0
unfolding since_reset stretch
first-front channels rows = record { same = refl; through = throughout-nil; each = All-nil (IsPacket channels) }

module _ (channels : List Channel) (rows : List Row) (few : length rows < GAP_LIMIT) (are : AreStretches channels rows) where
  next-front : (n : ℕ) → suc n ≤ length rows → Fronts channels rows n → Fronts channels rows (suc n)
  next-front n l f =
      let r = row-at rows n l in
      let row = r.0 in
      let front = take n rows in
      let t = 0 + length front in
      let before = end_of 0 0 front in
      let gap = t - before in
      let own = t - own_before t before row in
      let ps = packets_from channels 0 0 front in
      let more : take (suc n) rows ≡ front ++ row ∷ [] = take-suc_get rows n row r.1 in
      let grown : packets_from channels 0 0 (take (suc n) rows) ≡ ps ++ packets_at channels t before row =
      ap (packets_from channels 0 0) more ∙ packets-push channels 0 0 front row in
      let here : stretch (take (suc n) rows) ≡ cond row.fresh (row ∷ []) (stretch front ++ row ∷ []) = ap stretch more ∙ stretch-push front row in
      let same : map bare (since_reset (packets_from channels 0 0 (take (suc n) rows))) ≡ packets_of channels (stretch (take (suc n) rows)) =
      ap (λ qs. map bare (since_reset qs)) grown ∙ same-step channels ps front row gap own row.fresh (has_event row) refl f.same
      ∙ ap (packets_of channels) (sym here) in
      let lawful = are (suc n) l in
      let good = good-all channels (stretch (take (suc n) rows)) lawful.0 lawful.1 in
      let alternates : Alternates (since_reset (packets_from channels 0 0 (take (suc n) rows))) =
      alternates-bare (since_reset (packets_from channels 0 0 (take (suc n) rows))) (subst Alternates (sym same) good.alternate) in
      let size : length front ≤ n = front-length n rows in
      let over = last-over channels (stretch front) row row.fresh (subst (AreRows channels) here lawful.0) in
      record {
        same = same;
        through = subst AlternateThroughout (sym grown) (through-step ps (reset_packet gap) (after_gap own (packet_of channels row)) row.fresh
            (has_event row) refl f.through (subst (λ qs. Alternates (since_reset qs)) grown alternates));
        each = subst (All (IsPacket channels)) (sym grown) (All-append (IsPacket channels) ps (packets_at channels t before row) f.each
            (lawful-step channels row gap own row.fresh (has_event row) refl (omega (arith, few, l, size)) (omega (arith, few, l, size)) over));
      }
    where
      front-length : (n : ℕ) (xs : List Row) → length (take n xs) ≤ n
      front-length zero xs = omega arith
      front-length (suc n) [] = omega arith
      front-length (suc n) (x ∷ xs) = let h = front-length n xs in omega (arith, h)

  fronts : (n : ℕ) → n ≤ length rows → Fronts channels rows n
  fronts zero l = first-front channels rows
  fronts (suc n) l = next-front n l (fronts n (omega (arith, l)))

pub rows-well_formed : RowsAreWellFormed
rows-well_formed channels rows few are =
    let f = fronts channels rows few are (length rows) (omega arith) in
    let all : packets_from channels 0 0 (take (length rows) rows) ≡ packets_from channels 0 0 rows =
    ap (packets_from channels 0 0) (take_all (length rows) rows (omega arith)) in
    record {
      packets = subst (All (IsPacket channels)) all f.each;
      alternate = epochs_alternate (packets_from channels 0 0 rows) (subst AlternateThroughout all f.through);
    }

-- ---- what is recorded
recorded-append : (cs : List Channel) (ps qs : List Packet) (c : ℕ) → recorded cs (ps ++ qs) c ≡ recorded cs ps c ++ recorded cs qs c
recorded-append cs ps qs c =
    ap (map (λ (p : Packet). content_of cs p c)) (filter-append (does Start c) ps qs)
    ∙ map-append (λ (p : Packet). content_of cs p c) (filter (does Start c) ps) (filter (does Start c) qs)

transactions-cons : (cs : List Channel) (row : Row) (rows : List Row) (c : ℕ) → transactions cs (row ∷ rows) c
    ≡ transactions cs (row ∷ []) c ++ transactions cs rows c
transactions-cons cs row rows c =
    ap (map (λ (r : Row). content_at cs r.contents c)) (filter-append (row_does Start c) (row ∷ []) rows)
    ∙ map-append (λ (r : Row). content_at cs r.contents c) (filter (row_does Start c) (row ∷ [])) (filter (row_does Start c) rows)

-- a reset records nothing
reset-records : (cs : List Channel) (gap c : ℕ) (b : Bool) → recorded cs (cond b (reset_packet gap ∷ []) []) c ≡ []
reset-records cs gap c true = ap (λ (s : Bool). map (λ (p : Packet). content_of cs p c) (cond s (reset_packet gap ∷ []) [])) (has-none c)
reset-records cs gap c false = refl

own-records : (cs : List Channel) (own c : ℕ) (row : Row) (b : Bool) → has_event row ≡ b → IsOver cs row
    → recorded cs (cond b (after_gap own (packet_of cs row) ∷ []) []) c ≡ transactions cs (row ∷ []) c
own-records cs own c row true h over = one (has row.starts c) refl
  where
    one : (s : Bool) → has row.starts c ≡ s → map (λ (p : Packet). content_of cs p c) (cond s (after_gap own (packet_of cs row) ∷ []) [])
        ≡ map (λ (r : Row). content_at cs r.contents c) (cond s (row ∷ []) [])
    one true e = ap (λ xs. xs ∷ []) (same-content_of cs row c over e)
    one false e = refl
own-records cs own c row false h over =
    sym (ap (λ (s : Bool). map (λ (r : Row). content_at cs r.contents c) (cond s (row ∷ []) [])) (quiet Start c row h))

rows-record : (cs : List Channel) (t before : ℕ) (rows : List Row)
    → ((n : ℕ) (row : Row) → slice_get rows n ≡ Some row → IsOver cs row) → (c : ℕ)
    → recorded cs (packets_from cs t before rows) c ≡ transactions cs rows c
rows-record cs t before [] over c = refl
rows-record cs t before (row ∷ rows) over c =
    let gap = t - before in
    let own = t - own_before t before row in
    let first = cond row.fresh (reset_packet gap ∷ []) [] in
    let second = cond (has_event row) (after_gap own (packet_of cs row) ∷ []) [] in
    let others = packets_from cs (t + 1) (end_after t before row) rows in
    recorded-append cs (first ++ second) others c
    ∙ ap (λ xs. xs ++ recorded cs others c) (recorded-append cs first second c ∙ ap (λ xs. xs ++ recorded cs second c)
    (reset-records cs gap c row.fresh) ∙ own-records cs own c row (has_event row) refl (over 0 row refl))
    ∙ ap (λ xs. transactions cs (row ∷ []) c ++ xs)
    (rows-record cs (t + 1) (end_after t before row) rows (λ n r at. over (suc n) r at) c)
    ∙ sym (transactions-cons cs row rows c)

pub trace-records : TraceRecordsOnce
trace-records channels rows over c = rows-record channels 0 0 rows over c
