-- Laws of rows: their trace grows row by row, alternates, and is well-formed.
use Rattle.std.proofs.Common.{◌≡◌, ◌≢◌, ◌⊎◌, ℕ, zero, suc, ◌+◌, ◌<◌, ◌≤◌, Bool, true, false, cond, not, eqb, ◌&&◌, List, [], ◌∷◌, ◌++◌}
use Rattle.std.proofs.Common.{Option, Some, None, All, length, take, drop, get_or, slice_get, map, inl, inr, ⊎_elim, refl, ap, sym, subst}
use Rattle.std.proofs.Common.{◌∙◌, append_assoc, arith, lit<}
use Rattle.std.specs.Int.{bit_at}
use Rattle.std.specs.List.{filter, flat_map, enumerate_from}
use Rattle.std.proofs.lemmas.Bool.{cases_lt, false≢true, eqb-true, eqb-false}
use Rattle.std.proofs.lemmas.List.{append-nil, map-append, take_all, take_at, drop_at, length_push, length-take}
use Rattle.std.proofs.lemmas.List.Concat.{flat_map-append}
use Rattle.std.proofs.lemmas.List.Elements.{All-push, filter-append}
use Rattle.std.proofs.lemmas.Nat.Bits.{bit_at-zero, bit_at_above}
use Rattle.std.proofs.lemmas.Option.{slice_get_cases, slice_get_within}
use Rattle.vidi_bits.specs.Number.{has}
use Rattle.trace_model.specs.declared.channel.Channel.{Channel}
use Rattle.trace_model.specs.declared.event.Kind.{Kind}
use Rattle.trace_model.specs.declared.event.Kind.TheVariants.{Start, End, Reset}
use Rattle.trace_model.specs.declared.packet.Packet.{Packet}
use Rattle.trace_model.specs.declared.row.Row.{Row}
use Rattle.trace_model.specs.Laws.{RecordedOnce, RowAddsItsPacket, KeepsInFlight, StartsWaitForEnds}
use Rattle.trace_model.specs.Packet.{does, count, content_of, widths_of, widths_under, plain_packet, Fit, IsPacket}
use Rattle.trace_model.specs.Recording.{row_does, shown, has_event, contents_under, packet_of, packets_of, recorded, transactions}
use Rattle.trace_model.specs.Row.{all_widths, content_at, sink_valid, completes, is_in_flight, row_before, flies_after, IsOver, IsMarked}
use Rattle.trace_model.specs.Row.{AreRows}
use Rattle.trace_model.specs.Trace.{Alternates}
use Rattle.trace_model.proofs.CountingLemmas.{count-cons, count-suc, count-mono, nth, nth-count, nth-front, nth-within, slice_get-last}
use Rattle.trace_model.proofs.CountingLemmas.{slice_get-append, take-suc_get}
use Rattle.trace_model.proofs.MaskLemmas.{cond-has}
use Rattle.trace_model.proofs.FlightLemmas.{alternates-nil, alternates-push_by}
use Rattle.trace_model.proofs.ContentsLemmas.{enumerate-append, fit-append, fit-front, fit-length, fit-rest, widths_from}

-- ---- a row more
pub row-adds : RowAddsItsPacket
row-adds channels rows row =
    ap (map (packet_of channels)) (filter-append has_event rows (row ∷ []))
    ∙ map-append (packet_of channels) (filter has_event rows) (filter has_event (row ∷ []))
    ∙ ap (λ ps. packets_of channels rows ++ ps) (one (has_event row))
  where
    one : (b : Bool) → map (packet_of channels) (cond b (row ∷ []) []) ≡ cond b (packet_of channels row ∷ []) []
    one true = refl
    one false = refl

-- ---- counts
abbrev pub flag : Bool → ℕ
flag b = cond b 1 0

pub has-none : (c : ℕ) → has 0 c ≡ false
has-none c = ap (λ n. eqb n 1) (bit_at-zero c)

pub no-event : (starts ends : ℕ) → not (eqb starts 0 && eqb ends 0) ≡ false → (starts ≡ 0) × (ends ≡ 0)
no-event starts ends h = cases (eqb starts 0) (eqb ends 0) h (eqb-true starts 0) (eqb-true ends 0)
  where
    cases : (a b : Bool) → not (a && b) ≡ false → (a ≡ true → starts ≡ 0) → (b ≡ true → ends ≡ 0) → (starts ≡ 0) × (ends ≡ 0)
    cases true true h p q = (p refl, q refl)
    cases true false h p q = absurd (false≢true (sym h))
    cases false b h p q = absurd (false≢true (sym h))

-- an event's row has one
pub quiet : (kind : Kind) (c : ℕ) (row : Row) → has_event row ≡ false → row_does kind c row ≡ false
quiet Start c row h = ap (λ m. has m c) (no-event row.starts row.ends h).0 ∙ has-none c
quiet End c row h = ap (λ m. has m c) (no-event row.starts row.ends h).1 ∙ has-none c
quiet Reset c row h = refl

pub does-same : (kind : Kind) (c : ℕ) (channels : List Channel) (row : Row) → does kind c (packet_of channels row) ≡ row_does kind c row
does-same Start c channels row = refl
does-same End c channels row = refl
does-same Reset c channels row = refl

-- packets have as many as their rows
pub same-counts : (kind : Kind) (c : ℕ) (channels : List Channel) (rows : List Row) → count kind c (packets_of channels rows)
    ≡ shown kind c rows
same-counts kind c channels [] = refl
same-counts kind c channels (row ∷ rows) = one (has_event row) refl (same-counts kind c channels rows)
  where
    one : (b : Bool) → has_event row ≡ b → count kind c (packets_of channels rows) ≡ shown kind c rows
        → count kind c (map (packet_of channels) (cond b (row ∷ filter has_event rows) (filter has_event rows))) ≡ shown kind c (row ∷ rows)
    one true h same = count-cons (does kind c) (packet_of channels row) (packets_of channels rows)
        ∙ ap (λ b. cond b 1 0 + count kind c (packets_of channels rows)) (does-same kind c channels row)
        ∙ ap (λ n. cond (row_does kind c row) 1 0 + n) same ∙ sym (count-cons (row_does kind c) row rows)
    one false h same = same ∙ (let n = count-cons (row_does kind c) row rows in let z : flag (row_does kind c row)
        ≡ 0 = ap flag (quiet kind c row h) in omega arith)

-- ---- what is in flight
abbrev pub flying : List Row → ℕ → ℕ → ℕ
flying rows n c = cond (flies_after (row_before rows n) c) 1 0

record Bits (sv ready flies : Bool) : Type 0 where
  on : cond flies 1 0 + cond (sv && not flies) 1 0 ≡ cond (sv && not (sv && ready)) 1 0 + cond (sv && ready) 1 0
  apart : cond flies 1 0 + cond (sv && not flies) 1 0 ≤ 1
  within : cond (sv && ready) 1 0 ≤ cond flies 1 0 + cond (sv && not flies) 1 0

bits : (sv ready flies : Bool) → (flies ≡ true → sv ≡ true) → Bits sv ready flies
bits true true true k = record { on = omega arith; apart = omega arith; within = omega arith }
bits true true false k = record { on = omega arith; apart = omega arith; within = omega arith }
bits true false true k = record { on = omega arith; apart = omega arith; within = omega arith }
bits true false false k = record { on = omega arith; apart = omega arith; within = omega arith }
bits false ready true k = absurd (false≢true (k refl))
bits false ready false k = record { on = omega arith; apart = omega arith; within = omega arith }

still : (rows : List Row) (n : ℕ) (row : Row) (c : ℕ) → KeepsInFlight rows → slice_get rows n ≡ Some row → flies_after (row_before rows n) c
    ≡ true → sink_valid row c ≡ true
still rows n row c keeps at flies = cases (row_before rows n) refl flies
  where
    cases : (before : Option Row) → row_before rows n ≡ before → flies_after before c ≡ true → sink_valid row c ≡ true
    cases None e h = absurd (false≢true h)
    cases (Some before) e h = keeps n before row e at c h

-- a row's own bits
record Turn (rows : List Row) (n : ℕ) (row : Row) (c : ℕ) : Type 0 where
  on : flying rows n c + bit_at row.starts c ≡ flying rows (suc n) c + bit_at row.ends c
  apart : flying rows n c + bit_at row.starts c ≤ 1
  within : bit_at row.ends c ≤ flying rows n c + bit_at row.starts c

turn : (rows : List Row) (n : ℕ) (row : Row) (c : ℕ) → IsMarked (row_before rows n) row → KeepsInFlight rows → slice_get rows n ≡ Some row
    → Turn rows n row c
turn rows n row c marked keeps at =
    let b = bits (sink_valid row c) (has row.readies c) (flies_after (row_before rows n) c) (still rows n row c keeps at) in
    let s : bit_at row.starts c ≡ cond (sink_valid row c && not (flies_after (row_before rows n) c)) 1 0 = sym (cond-has row.starts c)
    ∙ ap (λ t. cond t 1 0) (marked.starts c) in
    let e : bit_at row.ends c ≡ cond (completes row c) 1 0 = sym (cond-has row.ends c) ∙ ap (λ t. cond t 1 0) (marked.ends c) in
    let next : flying rows (suc n) c ≡ flag (is_in_flight row c) = ap (λ (o : Option Row). flag (flies_after o c)) at in
    record { on = omega (arith, b.on, s, e, next); apart = omega (arith, b.apart, s); within = omega (arith, b.within, s, e) }

flying-first : (rows : List Row) (c : ℕ) → flying rows 0 c ≡ 0
flying-first rows c = refl

-- as many starts as ends in each front, and one more where the channel is in flight
abbrev Counted : List Row → ℕ → Type 0
Counted rows n = (c : ℕ) → shown Start c (take n rows) ≡ shown End c (take n rows) + flying rows n c

counted-suc : (rows : List Row) (n : ℕ) (row : Row) → Counted rows n → ((c : ℕ) → Turn rows n row c) → slice_get rows n ≡ Some row
    → Counted rows (suc n)
counted-suc rows n row before turns at c =
    let s : shown Start c (take (suc n) rows) ≡ shown Start c (take n rows)
    + bit_at row.starts c = count-suc (row_does Start c) rows n row at
    ∙ ap (λ k. shown Start c (take n rows) + k) (cond-has row.starts c) in
    let e : shown End c (take (suc n) rows) ≡ shown End c (take n rows) + bit_at row.ends c = count-suc (row_does End c) rows n row at
    ∙ ap (λ k. shown End c (take n rows) + k) (cond-has row.ends c) in
    omega (arith, s, e, before c, (turns c).on)

pub row-at : (rows : List Row) (n : ℕ) → n < length rows → (row : Row) × (slice_get rows n ≡ Some row)
row-at rows n l = ⊎_elim
    (λ (w : (x : Row) × (n < length rows) × (slice_get rows n ≡ Some x) × (get_or rows n x ≡ x)). (w.0, w.2))
    (λ (w : (length rows ≤ n) × (slice_get rows n ≡ None)). absurd (omega (arith, w.0)))
    (slice_get_cases rows n).1

pub counted : (channels : List Channel) (rows : List Row) → AreRows channels rows → KeepsInFlight rows → (n : ℕ) → n ≤ length rows
    → Counted rows n
counted channels rows are keeps zero l = λ c. (let z = flying-first rows c in omega arith)
counted channels rows are keeps (suc n) l =
    let r = row-at rows n (omega arith) in
    counted-suc rows n r.0 (counted channels rows are keeps n (omega arith)) (λ c. turn rows n r.0 c (are n r.0 r.1).1 keeps r.1) r.1

-- ---- a packet of each row
event-of : (b : Bool) → not b ≡ true → false ≡ b
event-of true h = absurd (false≢true h)
event-of false h = refl

abbrev pub taken_of : ℕ → List Channel → List ℕ → ℕ → List Channel → List ℕ
taken_of mask cs numbers n ds = flat_map (λ (c : ℕ × Channel). cond (has mask c.0) (content_at cs numbers c.0) []) (enumerate_from n ds)

pub content-behind : (front ds cs : List Channel) (d : Channel) (numbers : List ℕ) (n : ℕ) → cs ≡ front ++ d ∷ ds → n ≡ length front
    → content_at cs numbers n ≡ take (length d.widths) (drop (length (all_widths front)) numbers)
content-behind front ds cs d numbers n e l =
    let at : slice_get cs n ≡ Some d =
    ap (λ xs. slice_get xs n) (e ∙ sym (append_assoc front (d ∷ []) ds)) ∙ ap (slice_get ((front ++ d ∷ []) ++ ds)) l
    ∙ slice_get-append (front ++ d ∷ []) ds (length front) d (slice_get-last front d) in
    let before : take n cs ≡ front = ap (take n) e ∙ take_at front (d ∷ ds) n (sym l) in
    ap (λ (o : Option Channel). take (length (widths_of o)) (drop (length (all_widths (take n cs))) numbers)) at
    ∙ ap (λ xs. take (length d.widths) (drop (length (all_widths xs)) numbers)) before

-- the content of a channel fits its ports
content-fits-at : (front ds cs : List Channel) (d : Channel) (numbers : List ℕ) (n : ℕ) → cs ≡ front ++ d ∷ ds → n ≡ length front
    → Fit (all_widths cs) numbers → Fit d.widths (content_at cs numbers n)
content-fits-at front ds cs d numbers n e l f =
    let whole : all_widths cs ≡ all_widths front ++ (d.widths ++ all_widths ds) = ap all_widths e
    ∙ flat_map-append (λ (c : Channel). c.widths) front (d ∷ ds) in
    let pieces : Fit (all_widths front ++ (d.widths ++ all_widths ds)) numbers = subst (λ (ws : List ℕ). Fit ws numbers) whole f in
    subst (Fit d.widths) (sym (content-behind front ds cs d numbers n e l))
    (fit-front d.widths (all_widths ds) (drop (length (all_widths front)) numbers)
    (fit-rest (all_widths front) (d.widths ++ all_widths ds) numbers pieces))

fit-one : (starts : Bool) (ws xs vs ys : List ℕ) → Fit ws xs → Fit vs ys → Fit (cond starts ws [] ++ vs) (cond starts xs [] ++ ys)
fit-one true ws xs vs ys f g = fit-append ws vs xs ys f g
fit-one false ws xs vs ys f g = g

-- the contents of some channels in the middle of a table
fit-from : (mask : ℕ) (cs : List Channel) (numbers : List ℕ) (front ds back : List Channel) (n : ℕ) → cs ≡ front ++ (ds ++ back) → n
    ≡ length front → Fit (all_widths cs) numbers → Fit (widths_from mask n ds) (taken_of mask cs numbers n ds)
fit-from mask cs numbers front [] back n e l f = tt
fit-from mask cs numbers front (d ∷ ds) back n e l f =
    let grouped : cs ≡ (front ++ d ∷ []) ++ (ds ++ back) = e ∙ sym (append_assoc front (d ∷ []) (ds ++ back)) in
    let further : n + 1 ≡ length (front ++ d ∷ []) = omega (arith, l, length_push front d) in
    fit-one (has mask n) d.widths (content_at cs numbers n) (widths_from mask (n + 1) ds) (taken_of mask cs numbers (n + 1) ds)
    (content-fits-at front (ds ++ back) cs d numbers n e l f) (fit-from mask cs numbers (front ++ d ∷ []) ds back (n + 1) grouped
    further f)

pub is-packet : (channels : List Channel) (row : Row) → IsOver channels row → has_event row ≡ true → IsPacket channels (packet_of channels row)
is-packet channels row over h = record {
  gap = lit< tt;
  event = event-of (eqb row.starts 0 && eqb row.ends 0) h;
  starts = over.starts;
  ends = over.ends;
  contents = fit-from row.starts channels row.contents [] channels [] 0 (sym (append-nil channels)) refl over.contents;
}

-- a packet that is no reset and has no gap
pub plain-is : (p : Packet) → p.gap ≡ 0 → p.reset ≡ false → plain_packet p.starts p.ends p.contents ≡ p
plain-is p none row = same p.gap p.reset none row
  where
    same : (gap : ℕ) (reset : Bool) → gap ≡ 0 → reset ≡ false → plain_packet p.starts p.ends p.contents
        ≡ record { gap = gap; reset = reset; starts = p.starts; ends = p.ends; contents = p.contents }
    same gap reset g r = λ i. record { gap = (sym g) i; reset = (sym r) i; starts = p.starts; ends = p.ends; contents = p.contents }

-- ---- the trace of each front
pub record Good (channels : List Channel) (ps : List Packet) : Type 0 where
  pub each : All (IsPacket channels) ps
  pub alternate : Alternates ps

good-push : (channels : List Channel) (rows : List Row) (n : ℕ) (row : Row) → AreRows channels rows → KeepsInFlight rows → n ≤ length rows
    → slice_get rows n ≡ Some row → Good channels (packets_of channels (take n rows)) → has_event row ≡ true
    → Good channels (packets_of channels (take n rows) ++ packet_of channels row ∷ [])
good-push channels rows n row are keeps l at g h = record {
  each = All-push (IsPacket channels) (packets_of channels (take n rows)) (packet_of channels row) g.each
      (is-packet channels row (are n row at).0 h);
  alternate = alternates-push_by (packets_of channels (take n rows)) (packet_of channels row) (flying rows n) g.alternate
      (λ c. same-counts Start c channels (take n rows) ∙ counted channels rows are keeps n l c
      ∙ ap (λ k. k + flying rows n c) (sym (same-counts End c channels (take n rows))))
      (record {
        starts = λ c. (turn rows n row c (are n row at).1 keeps at).apart;
        ends = λ c.
            (turn rows n row c (are n row at).1 keeps at).within;
      });
}

good-suc : (channels : List Channel) (rows : List Row) (n : ℕ) (row : Row) → AreRows channels rows → KeepsInFlight rows → n ≤ length rows
    → slice_get rows n ≡ Some row → Good channels (packets_of channels (take n rows)) → (b : Bool) → has_event row ≡ b
    → Good channels (packets_of channels (take n rows) ++ cond b (packet_of channels row ∷ []) [])
good-suc channels rows n row are keeps l at g true h = good-push channels rows n row are keeps l at g h
good-suc channels rows n row are keeps l at g false h = subst (Good channels) (sym (append-nil (packets_of channels (take n rows)))) g

good : (channels : List Channel) (rows : List Row) → AreRows channels rows → KeepsInFlight rows → (n : ℕ) → n ≤ length rows
    → Good channels (packets_of channels (take n rows))
good channels rows are keeps zero l = record { each = λ k d below. absurd (omega arith); alternate = alternates-nil }
good channels rows are keeps (suc n) l =
    let r = row-at rows n (omega arith) in
    let more : packets_of channels (take (suc n) rows) ≡ packets_of channels (take n rows)
    ++ cond (has_event r.0) (packet_of channels r.0 ∷ []) [] = ap (packets_of channels) (take-suc_get rows n r.0 r.1)
    ∙ row-adds channels (take n rows) r.0 in
    subst (Good channels) (sym more) (good-suc channels rows n r.0 are keeps (omega arith) r.1
    (good channels rows are keeps n (omega arith)) (has_event r.0) refl)

pub good-all : (channels : List Channel) (rows : List Row) → AreRows channels rows → KeepsInFlight rows → Good channels (packets_of channels rows)
good-all channels rows are keeps =
    let g = good channels rows are keeps (length rows) (omega arith) in
    subst (λ (rs : List Row). Good channels (packets_of channels rs)) (take_all (length rows) rows (omega arith)) g

-- ---- starts and ends
-- where a channel starts, each transaction before has completed
idle-at-start : (channels : List Channel) (rows : List Row) → AreRows channels rows → KeepsInFlight rows → (c t : ℕ) (row : Row)
    → slice_get rows t ≡ Some row → has row.starts c ≡ true → shown Start c (take t rows) ≡ shown End c (take t rows)
idle-at-start channels rows are keeps c t row at h =
    let l = slice_get_within rows t row at in
    let k = counted channels rows are keeps t (omega arith) c in
    let one : bit_at row.starts c ≡ 1 = sym (cond-has row.starts c) ∙ ap flag h in
    let b = (turn rows t row c (are t row at).1 keeps at).apart in
    omega arith

pub starts-wait : StartsWaitForEnds
starts-wait channels rows are keeps c j t u first second a b =
    let done = idle-at-start channels rows are keeps c t first a.at a.passes in
    let more = idle-at-start channels rows are keeps c u second b.at b.passes in
    let before = a.before in
    let after = b.before in
    let found = nth (row_does End c) (take u rows) j (omega arith) in
    let there = nth-front (row_does End c) u rows j found.place found.item found.is in
    let within = nth-within (row_does End c) (take u rows) j found.place found.item found.is in
    let size = length-take u rows in
    record {
      s = found.place;
      row = found.item;
      ends = there;
      after = ⊎_elim
          (λ (l : found.place < t). (let n = nth-count (row_does End c) rows j found.place found.item there
          in let m = count-mono (row_does End c) rows (suc found.place) t (omega arith) in absurd (omega arith)))
          (λ (l : t ≤ found.place). l)
          (cases_lt found.place t);
      before = omega arith;
    }

-- ---- what is recorded
-- the content that a packet has of a channel that starts is what the row shows of it
recorded-content : (cs front ds : List Channel) (d : Channel) (row : Row) (c : ℕ) → cs ≡ front ++ d ∷ ds → c ≡ length front
    → Fit (all_widths cs) row.contents → has row.starts c ≡ true
    → content_of cs (packet_of cs row) c ≡ content_at cs row.contents c
recorded-content cs front ds d row c e l f h =
    let numbers = row.contents in
    let mask = row.starts in
    let one : ℕ × Channel → List ℕ = λ x. cond (has mask x.0) (content_at cs numbers x.0) [] in
    let mine = content_at cs numbers c in
    let behind = flat_map one (enumerate_from (0 + length front + 1) ds) in
    let place : 0 + length front ≡ c = omega arith in
    let parts : contents_under mask cs numbers ≡ taken_of mask cs numbers 0 front ++ (mine ++ behind) =
    ap (λ xs. flat_map one (enumerate_from 0 xs)) e
    ∙ ap (flat_map one) (enumerate-append 0 front (d ∷ ds))
    ∙ flat_map-append one (enumerate_from 0 front) (enumerate_from (0 + length front) (d ∷ ds))
    ∙ ap (λ n. taken_of mask cs numbers 0 front ++ (cond (has mask n) (content_at cs numbers n) [] ++ behind)) place
    ∙ ap (λ b. taken_of mask cs numbers 0 front ++ (cond b mine [] ++ behind)) h in
    let before : take c cs ≡ front = ap (take c) e ∙ take_at front (d ∷ ds) c (sym l) in
    let first : length (taken_of mask cs numbers 0 front) ≡ length (widths_under mask (take c cs)) =
    sym (fit-length (widths_from mask 0 front) (taken_of mask cs numbers 0 front) (fit-from mask cs numbers [] front (d ∷ ds) 0 e refl f))
    ∙ ap (λ xs. length (widths_under mask xs)) (sym before) in
    let at : slice_get cs c ≡ Some d =
    ap (λ xs. slice_get xs c) (e ∙ sym (append_assoc front (d ∷ []) ds)) ∙ ap (slice_get ((front ++ d ∷ []) ++ ds)) l
    ∙ slice_get-append (front ++ d ∷ []) ds (length front) d (slice_get-last front d) in
    let long : length mine ≡ length (widths_of (slice_get cs c)) = sym
    (fit-length d.widths mine (content-fits-at front ds cs d numbers c e l f))
    ∙ ap (λ (o : Option Channel). length (widths_of o)) (sym at) in
    ap (λ xs. take (length (widths_of (slice_get cs c))) (drop (length (widths_under mask (take c cs))) xs)) parts
    ∙ ap (take (length (widths_of (slice_get cs c)))) (drop_at (taken_of mask cs numbers 0 front) (mine ++ behind)
    (length (widths_under mask (take c cs))) first)
    ∙ take_at mine behind (length (widths_of (slice_get cs c))) long

split-table : (cs : List Channel) (c : ℕ) → c < length cs → (front : List Channel) × (d : Channel) × (ds : List Channel)
    × (cs ≡ front ++ d ∷ ds) × (c ≡ length front)
split-table [] c l = absurd (omega arith)
split-table (x ∷ xs) zero l = ([], x, xs, refl, refl)
split-table (x ∷ xs) (suc c) l =
    let s = split-table xs c (omega arith) in
    (x ∷ s.0, s.1, s.2, ap (λ ys. x ∷ ys) s.3, ap suc s.4)

pub same-content_of : (cs : List Channel) (row : Row) (c : ℕ) → IsOver cs row → has row.starts c ≡ true → content_of cs (packet_of cs row) c
    ≡ content_at cs row.contents c
same-content_of cs row c over h =
    let l : c < length cs = ⊎_elim
    (λ (b : c < length cs). b)
    (λ (b : length cs ≤ c). (let z : bit_at row.starts c ≡ 0 = bit_at_above row.starts (length cs) c over.starts b
    in let o = eqb-true (bit_at row.starts c) 1 h in absurd (omega arith)))
    (cases_lt c (length cs)) in
    let s = split-table cs c l in
    recorded-content cs s.0 s.2 s.1 row c s.3 s.4 over.contents h

abbrev Contents : Type 0
Contents = List (List ℕ)

one-more : (starts : Bool) (x y : List ℕ) (xs ys : Contents) → (starts ≡ true → x ≡ y) → xs ≡ ys → cond starts (x ∷ xs) xs
    ≡ cond starts (y ∷ ys) ys
one-more true x y xs ys e f = ap (λ z. z ∷ xs) (e refl) ∙ ap (λ zs. y ∷ zs) f
one-more false x y xs ys e f = f

choice : {X Y : Type 0} (g : X → Y) (b : Bool) (x : X) (xs : List X) → map g (cond b (x ∷ xs) xs) ≡ cond b (g x ∷ map g xs) (map g xs)
choice g true x xs = refl
choice g false x xs = refl

recorded-each : (cs : List Channel) (rows : List Row) → ((t : ℕ) (row : Row) → slice_get rows t ≡ Some row → IsOver cs row) → (c : ℕ)
    → recorded cs (packets_of cs rows) c ≡ transactions cs rows c
recorded-each cs [] over c = refl
recorded-each cs (row ∷ rows) over c = one (has_event row) refl (recorded-each cs rows (λ t r at. over (suc t) r at) c)
  where
    one : (b : Bool) → has_event row ≡ b → recorded cs (packets_of cs rows) c ≡ transactions cs rows c
        → recorded cs (map (packet_of cs) (cond b (row ∷ filter has_event rows) (filter has_event rows))) c ≡ transactions cs (row ∷ rows) c
    one true h same =
        choice (λ (p : Packet). content_of cs p c) (has row.starts c) (packet_of cs row) (filter (does Start c) (packets_of cs rows))
        ∙ one-more (has row.starts c) (content_of cs (packet_of cs row) c) (content_at cs row.contents c)
        (recorded cs (packets_of cs rows) c) (transactions cs rows c) (same-content_of cs row c (over 0 row refl)) same
        ∙ sym (choice (λ (r : Row). content_at cs r.contents c) (has row.starts c) row (filter (row_does Start c) rows))
    one false h same =
        same ∙ ap (λ b. cond b (content_at cs row.contents c ∷ transactions cs rows c) (transactions cs rows c)) (sym (quiet Start c row h))
        ∙ sym (choice (λ (r : Row). content_at cs r.contents c) (has row.starts c) row (filter (row_does Start c) rows))

pub recorded-once : RecordedOnce
recorded-once channels rows are c = recorded-each channels rows (λ t row at. (are t row at).0) c
