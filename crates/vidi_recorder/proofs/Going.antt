-- The recording so far: the rows, the books, the bytes that wait and those that are out.
use Rattle.std.proofs.Common.{◌≡◌, ℕ, zero, suc, ◌+◌, ◌-◌, ◌<◌, ◌≤◌, ◌&&◌, Bool, true, false, cond, List, [], ◌∷◌, ◌++◌, Option, Some, None}
use Rattle.std.proofs.Common.{length, take, drop, slice_get, refl, ap, sym, subst, ◌∙◌, append_assoc, arith, ⊎_elim, add-one, zero-add}
use Rattle.std.proofs.Common.{length-drop}
use Rattle.std.specs.Io.KnownBytes.{append_known}
use Rattle.std.specs.List.{flat_map}
use Rattle.std.proofs.lemmas.Bool.{cases_Bool}
use Rattle.std.proofs.lemmas.List.{append-nil, length-append, length-take-le, length_push, take-append-drop}
use Rattle.std.proofs.lemmas.List.Concat.{flat_map-append}
use Rattle.trace_code.specs.trace_model.declared.channel.Channel.{Channel}
use Rattle.trace_code.specs.trace_model.declared.packet.Packet.{Packet}
use Rattle.trace_code.specs.trace_model.declared.row.Row.{Row}
use Rattle.trace_code.specs.trace_model.Channel.{IsTable}
use Rattle.trace_code.specs.trace_model.Recording.{after_gap, end_after, end_of, has_event, own_before, packet_of, packets_at, packets_from}
use Rattle.trace_code.specs.trace_model.Recording.{reset_packet}
use Rattle.trace_code.specs.trace_model.Recording.{trace_of}
use Rattle.trace_code.specs.trace_model.Row.{IsOver}
use Rattle.trace_code.proofs.trace_model_lemmas.CountingLemmas.{slice_get-last, slice_get-append_left}
use Rattle.trace_code.proofs.trace_model_lemmas.TraceLaws.{packets-push}
use Rattle.trace_code.specs.Encoding.{encode, end_mark, header_bytes, packet_bytes, row_bytes, rows_bytes}
use Rattle.trace_code.proofs.RowBytes.{row-length, no-row-packet}
use Rattle.trace_code.proofs.RowsBytes.{encode-rows, end-next, packets-next, some-bytes, some-many}
use Rattle.room_ledger.specs.Gates.{Plan, drained, fresh_at, is_fresh, left, put_len, used_at}
use Rattle.room_ledger.specs.Laws.{MayFollow, StandsAfter, after_drain, before_next}
use Rattle.room_ledger.specs.Ledger.{Ledger, Emitted, Regranted, empty, may_reset}
use Rattle.room_ledger.specs.Reservation.{event_len, reset_len}
use Rattle.room_ledger.proofs.Following.{keeps-gates, same-len, used-front}
use Rattle.vidi_io.specs.Sink.{AppendsSome}
use Rattle.vidi_recorder.specs.Course.{drained_after, drained_before, sizes_of}
use Rattle.vidi_recorder.proofs.Pushing.{told-both}
use Rattle.vidi_recorder.specs.Standing.{Cut, Going, bytes_so_far, drained_but_last, end_so_far, reset_bytes, IsRestarted}

-- ---- at the beginning
pub going-first : (channels : List Channel) (plan : Plan) (first : Option (List ℕ)) (room : Ledger) (items header : List ℕ)
    (told : Option (List ℕ)) → room ≡ empty (sizes_of channels) plan.resets plan.capacity → items ≡ [] → header ≡ header_bytes channels
    → told ≡ append_known first header → Going channels plan first [] false room items told 0
going-first channels plan first room items header told r i h t = record {
  stands = subst (StandsAfter (sizes_of channels) plan [] false) (sym r) (keeps-gates (sizes_of channels) plan).first;
  waits = ap length i ∙ ap (λ (l : Ledger). l.used) (sym r);
  bytes = header;
  told_is = t;
  all = ap (λ xs. header ++ xs) i ∙ ap (λ xs. xs ++ []) h;
  out = ap length h ∙ (let z : length (header_bytes channels) ≡ length (header_bytes channels) + 0 = omega arith in z);
  count = refl;
}

-- the header's push failed
pub cut-header : (channels : List Channel) (plan : Plan) (first told : Option (List ℕ)) (header : List ℕ)
    → header ≡ header_bytes channels → AppendsSome first told header → Cut channels plan first [] false told
cut-header channels plan first told header h is = record {
  bytes = is.kept;
  lost = is.lost;
  told_is = is.told;
  all = sym is.split ∙ h ∙ sym (append-nil (header_bytes channels));
  out = λ l. absurd (omega (arith, l));
}

-- ---- lengths and drains
pub bytes-len : (channels : List Channel) (gap : ℕ) (row : Row) → IsTable channels → IsOver channels row
    → length (row_bytes channels gap row) ≡ event_len (sizes_of channels) row.starts row.ends
bytes-len channels gap row table over =
    let few : length channels ≤ 128 = let f = table.few in omega (arith, f) in
    ⊎_elim
    (λ (h : has_event row ≡ true). row-length channels gap row few over.starts over.contents h)
    (λ (h : has_event row ≡ false). let n = no-row-packet channels gap row h in ap length n.0 ∙ sym n.1)
    (cases_Bool (has_event row))
    ∙ same-len channels row.starts row.ends

pub reset-len : (comes : Bool) (gap : ℕ) → length (reset_bytes comes gap) ≡ cond comes reset_len 0
reset-len true gap = refl
reset-len false gap = refl

pub drained-within : (allowance : Option ℕ) (bytes : ℕ) → drained allowance bytes ≤ bytes
drained-within None bytes = omega arith
drained-within (Some n) bytes = omega arith

pub fresh-front : (plan : Plan) (rows more : List Row) (t : ℕ) → t < length rows → fresh_at plan (rows ++ more) t ≡ fresh_at plan rows t
fresh-front plan rows more t l = ap (λ (o : Option Row). plan.resets && is_fresh o) (slice_get-append_left rows more t l)

before-front : (sizes : List ℕ) (plan : Plan) (rows more : List Row) (t : ℕ) (fresh : Bool) → t ≤ length rows
    → drained_before sizes plan (rows ++ more) t fresh ≡ drained_before sizes plan rows t fresh
before-front sizes plan rows more zero fresh l = refl
before-front sizes plan rows more (suc t) fresh l =
    let same = fresh-front plan rows more t (omega (arith, l)) in
    ap (λ f. drained_before sizes plan (rows ++ more) t f + drained (plan.allowance t) (used_at sizes plan (rows ++ more) t f
    + put_len sizes (slice_get (rows ++ more) t) fresh)) same
    ∙ ap (λ n. n + drained (plan.allowance t) (used_at sizes plan (rows ++ more) t (fresh_at plan rows t)
    + put_len sizes (slice_get (rows ++ more) t) fresh)) (before-front sizes plan rows more t (fresh_at plan rows t) (omega (arith, l)))
    ∙ ap (λ n. drained_before sizes plan rows t (fresh_at plan rows t) + drained (plan.allowance t) (n
    + put_len sizes (slice_get (rows ++ more) t) fresh)) (used-front sizes plan rows more t (fresh_at plan rows t) (omega (arith, l)))
    ∙ ap (λ (o : Option Row). drained_before sizes plan rows t (fresh_at plan rows t) + drained (plan.allowance t)
    (used_at sizes plan rows t (fresh_at plan rows t) + put_len sizes o fresh)) (slice_get-append_left rows more t (omega (arith, l)))

pub fresh-last : (plan : Plan) (rows : List Row) (row : Row) → fresh_at plan (rows ++ row ∷ []) (length rows) ≡ (plan.resets && row.fresh)
fresh-last plan rows row = ap (λ (o : Option Row). plan.resets && is_fresh o) (slice_get-last rows row)

-- what drains before the last of these rows, and behind it
last-front : (sizes : List ℕ) (plan : Plan) (rows : List Row) (row : Row)
    → drained_before sizes plan (rows ++ row ∷ []) (length rows) (fresh_at plan (rows ++ row ∷ []) (length rows))
    ≡ drained_before sizes plan rows (length rows) (plan.resets && row.fresh)
last-front sizes plan rows row =
    ap (drained_before sizes plan (rows ++ row ∷ []) (length rows)) (fresh-last plan rows row)
    ∙ before-front sizes plan rows (row ∷ []) (length rows) (plan.resets && row.fresh) (omega arith)

after-push : (sizes : List ℕ) (plan : Plan) (rows : List Row) (row : Row) (next : Bool)
    → drained_after sizes plan (rows ++ row ∷ []) (length rows) next ≡ drained (plan.allowance (length rows))
    (used_at sizes plan rows (length rows) (plan.resets && row.fresh) + put_len sizes (Some row) next)
after-push sizes plan rows row next =
    ap (λ f. drained (plan.allowance (length rows)) (used_at sizes plan (rows ++ row ∷ []) (length rows) f
    + put_len sizes (slice_get (rows ++ row ∷ []) (length rows)) next)) (fresh-last plan rows row)
    ∙ ap (λ n. drained (plan.allowance (length rows)) (n + put_len sizes (slice_get (rows ++ row ∷ []) (length rows)) next))
    (used-front sizes plan rows (row ∷ []) (length rows) (plan.resets && row.fresh) (omega arith))
    ∙ ap (λ (o : Option Row). drained (plan.allowance (length rows)) (used_at sizes plan rows (length rows) (plan.resets && row.fresh)
    + put_len sizes o next)) (slice_get-last rows row)

before-push : (sizes : List ℕ) (plan : Plan) (rows : List Row) (row : Row) (next : Bool)
    → drained_before sizes plan (rows ++ row ∷ []) (length (rows ++ row ∷ [])) next
    ≡ drained_before sizes plan rows (length rows) (plan.resets && row.fresh) + drained (plan.allowance (length rows))
    (used_at sizes plan rows (length rows) (plan.resets && row.fresh) + put_len sizes (Some row) next)
before-push sizes plan rows row next =
    ap (λ t. drained_before sizes plan (rows ++ row ∷ []) t next) (length_push rows row ∙ add-one (length rows))
    ∙ ap (λ n. n + drained_after sizes plan (rows ++ row ∷ []) (length rows) next) (last-front sizes plan rows row)
    ∙ ap (λ n. drained_before sizes plan rows (length rows) (plan.resets && row.fresh) + n) (after-push sizes plan rows row next)

-- ---- one row more: its bytes, with those of the reset before it
-- those of its own packet, behind the reset's where it is fresh
abbrev pub bytes_behind : List Channel → List Row → Row → List ℕ
bytes_behind channels rows row = row_bytes channels (length rows - end_so_far rows row.fresh) row

reset-alone : (channels : List Channel) (gap : ℕ) (b : Bool)
    → flat_map (packet_bytes channels) (cond b (reset_packet gap ∷ []) []) ≡ reset_bytes b gap
reset-alone channels gap true = append-nil (packet_bytes channels (reset_packet gap))
reset-alone channels gap false = refl

pub rows-more : (channels : List Channel) (rows : List Row) (row : Row)
    → rows_bytes channels (rows ++ row ∷ []) ≡ bytes_so_far channels rows row.fresh ++ bytes_behind channels rows row
rows-more channels rows row =
    let t = length rows in
    let before = end_of 0 0 rows in
    let first = cond row.fresh (reset_packet (t - before) ∷ []) [] in
    let own = after_gap (t - own_before t before row) (packet_of channels row) in
    let second = cond (has_event row) (own ∷ []) [] in
    ap (flat_map (packet_bytes channels)) (packets-next channels rows row)
    ∙ flat_map-append (packet_bytes channels) (packets_from channels 0 0 rows) (first ++ second)
    ∙ ap (λ bs. rows_bytes channels rows ++ bs) (flat_map-append (packet_bytes channels) first second)
    ∙ ap (λ bs. rows_bytes channels rows ++ (bs ++ flat_map (packet_bytes channels) second)) (reset-alone channels (t - before) row.fresh)
    ∙ ap (λ bs. rows_bytes channels rows ++ (reset_bytes row.fresh (t - before) ++ bs)) (some-bytes channels (has_event row) own)
    ∙ sym (append_assoc (rows_bytes channels rows) (reset_bytes row.fresh (t - before)) (bytes_behind channels rows row))

pub count-more : (channels : List Channel) (rows : List Row) (row : Row) → length (packets_from channels 0 0 (rows ++ row ∷ []))
    ≡ length (packets_from channels 0 0 rows) + cond row.fresh 1 0 + cond (has_event row) 1 0
count-more channels rows row =
    let t = length rows in
    let before = end_of 0 0 rows in
    let first = cond row.fresh (reset_packet (t - before) ∷ []) [] in
    let own = after_gap (t - own_before t before row) (packet_of channels row) in
    let second = cond (has_event row) (own ∷ []) [] in
    let a = ap length (packets-next channels rows row) in
    let b = length-append (packets_from channels 0 0 rows) (first ++ second) in
    let c = length-append first second in
    let d = some-many row.fresh (reset_packet (t - before)) in
    let e = some-many (has_event row) own in
    omega (arith, a, b, c, d, e)

pub end-more : (rows : List Row) (row : Row)
    → end_of 0 0 (rows ++ row ∷ []) ≡ cond (has_event row) (length rows + 1) (end_so_far rows row.fresh)
end-more rows row = end-next 0 0 rows row ∙ ap (λ t. end_after t (end_of 0 0 rows) row) (zero-add (length rows))

-- the reset behind it
abbrev pub reset_behind : Bool → List Row → List ℕ
reset_behind next rows = reset_bytes next (length rows - end_of 0 0 rows)

all-push : (channels : List Channel) (rows : List Row) (row : Row) (next : Bool) (bytes items : List ℕ)
    → bytes ++ items ≡ header_bytes channels ++ bytes_so_far channels rows row.fresh
    → bytes ++ ((items ++ bytes_behind channels rows row) ++ reset_behind next (rows ++ row ∷ []))
    ≡ header_bytes channels ++ bytes_so_far channels (rows ++ row ∷ []) next
all-push channels rows row next bytes items e =
    let own = bytes_behind channels rows row in
    let reset = reset_behind next (rows ++ row ∷ []) in
    sym (append_assoc bytes (items ++ own) reset)
    ∙ ap (λ bs. bs ++ reset) (sym (append_assoc bytes items own) ∙ ap (λ bs. bs ++ own) e
    ∙ append_assoc (header_bytes channels) (bytes_so_far channels rows row.fresh) own
    ∙ ap (λ bs. header_bytes channels ++ bs) (sym (rows-more channels rows row)))
    ∙ append_assoc (header_bytes channels) (rows_bytes channels (rows ++ row ∷ [])) reset

-- ---- a cycle
-- a row is put, and behind it a reset where one comes
pub record Cycle (channels : List Channel) (plan : Plan) (rows : List Row) (fresh : Bool) (row : Row) (next : Bool) (old emitted mid : Ledger)
    (items mixed : List ℕ) : Type 0 where
  pub table : IsTable channels
  pub over : IsOver channels row
  pub mark : row.fresh ≡ fresh
  pub follows : MayFollow old fresh (before_next rows fresh) row
  pub put_row : Emitted old row.starts row.ends emitted
  pub may : next ≡ true → may_reset emitted ≡ true
  pub put_reset : IsRestarted next emitted mid
  pub put : mixed ≡ (items ++ bytes_behind channels rows row) ++ reset_behind next (rows ++ row ∷ [])

-- what waits behind a row that was put
pub put-long : (channels : List Channel) (plan : Plan) (first : Option (List ℕ)) (rows : List Row) (fresh : Bool) (row : Row)
    (old emitted : Ledger) (items : List ℕ) (told : Option (List ℕ)) (packets : ℕ)
    → Going channels plan first rows fresh old items told packets → IsTable channels → IsOver channels row
    → Emitted old row.starts row.ends emitted → length (items ++ bytes_behind channels rows row) ≡ emitted.used
put-long channels plan first rows fresh row old emitted items told packets going table over is =
    let own = bytes_behind channels rows row in
    let b = is.used in
    let c = ap (λ s. event_len s row.starts row.ends) going.stands.channels in
    let d = going.waits in
    let e = bytes-len channels (length rows - end_so_far rows row.fresh) row table over in
    let j = length-append items own in
    omega (arith, b, c, d, e, j)

module _ (channels : List Channel) (plan : Plan) (first : Option (List ℕ)) (rows : List Row) (fresh : Bool) (row : Row) (next : Bool)
    (old emitted mid new : Ledger) (items mixed : List ℕ) (told now : Option (List ℕ)) (packets : ℕ)
    (going : Going channels plan first rows fresh old items told packets)
    (cycle : Cycle channels plan rows fresh row next old emitted mid items mixed) where
  abbrev n : ℕ
  n = drained (plan.allowance (length rows)) mid.used

  abbrev sizes : List ℕ
  sizes = sizes_of channels

  -- row t is fresh as the books say
  marks : fresh ≡ (plan.resets && row.fresh)
  marks = sym cycle.follows.mark ∙ ap (λ r. r && row.fresh) going.stands.resets

  put-reset : (comes : Bool) → IsRestarted comes emitted mid → mid.used ≡ emitted.used + cond comes reset_len 0
  put-reset true is = is.used
  put-reset false same = let e = ap (λ (l : Ledger). l.used) same in omega (arith, e)

  put-both : (comes : Bool) (len : ℕ) → len + cond comes reset_len 0 ≡ cond comes (len + reset_len) len
  put-both true len = refl
  put-both false len = omega arith

  used-is : mid.used ≡ used_at sizes plan rows (length rows) (plan.resets && row.fresh) + put_len sizes (Some row) next
  used-is =
      let len = event_len sizes row.starts row.ends in
      let a = put-reset next cycle.put_reset in
      let b = cycle.put_row.used in
      let c = ap (λ s. event_len s row.starts row.ends) going.stands.channels in
      let d = going.stands.used ∙ ap (used_at sizes plan rows (length rows)) marks in
      let e = put-both next len in
      omega (arith, a, b, c, d, e)

  pub mixed-long : length mixed ≡ mid.used
  mixed-long =
      let a = put-reset next cycle.put_reset in
      let b = put-long channels plan first rows fresh row old emitted items told packets going cycle.table cycle.over cycle.put_row in
      let c = reset-len next (length (rows ++ row ∷ []) - end_of 0 0 (rows ++ row ∷ [])) in
      let d = ap length cycle.put in
      let e = length-append (items ++ bytes_behind channels rows row) (reset_behind next (rows ++ row ∷ [])) in
      omega (arith, a, b, c, d, e)

  all-now : going.bytes ++ mixed ≡ header_bytes channels ++ bytes_so_far channels (rows ++ row ∷ []) next
  all-now = ap (λ bs. going.bytes ++ bs) cycle.put ∙ all-push channels rows row next going.bytes items
      (going.all ∙ ap (λ b. header_bytes channels ++ bytes_so_far channels rows b) (sym cycle.mark))

  out-now : length going.bytes ≡ length (header_bytes channels) + drained_before sizes plan rows (length rows) (plan.resets && row.fresh)
  out-now = going.out ∙ ap (λ b. length (header_bytes channels) + drained_before sizes plan rows (length rows) b) marks

  stands-now : (comes : Bool) → (comes ≡ true → may_reset emitted ≡ true) → IsRestarted comes emitted mid
      → Regranted (after_drain plan rows mid) new → StandsAfter sizes plan (rows ++ row ∷ []) comes new
  stands-now true may is again =
      (keeps-gates sizes plan).reset rows fresh row old emitted mid new going.stands cycle.follows cycle.put_row (may refl) is again
  stands-now false may same again =
      (keeps-gates sizes plan).next rows fresh row old emitted new going.stands cycle.follows cycle.put_row
      (subst (λ (l : Ledger). Regranted (after_drain plan rows l) new) same again)

  pub going-on : (rest : List ℕ) (more : ℕ)
      → Regranted (record mid { used = left (plan.allowance (length rows)) mid.used }) new
      → rest ≡ drop n mixed → now ≡ append_known told (take n mixed) → more ≡ packets + cond (has_event row) 1 0 + cond next 1 0
      → Going channels plan first (rows ++ row ∷ []) next new rest now more
  going-on rest more again r t m = record {
    stands = stands-now next cycle.may cycle.put_reset again;
    waits = ap length r ∙ length-drop n mixed ∙ ap (λ k. k - n) mixed-long ∙ sym again.used;
    bytes = going.bytes ++ take n mixed;
    told_is = told-both first told now going.bytes (take n mixed) going.told_is t;
    all = ap (λ bs. (going.bytes ++ take n mixed) ++ bs) r ∙ append_assoc going.bytes (take n mixed) (drop n mixed)
        ∙ ap (λ bs. going.bytes ++ bs) (take-append-drop n mixed) ∙ all-now;
    out = length-append going.bytes (take n mixed)
        ∙ ap (λ k. length going.bytes + k)
        (length-take-le n mixed (let d = drained-within (plan.allowance (length rows)) mid.used in omega (arith, d, mixed-long)))
        ∙ (let a = out-now in
        let b = before-push sizes plan rows row next in
        let c = ap (drained (plan.allowance (length rows))) used-is in
        let z : length going.bytes + n ≡ length (header_bytes channels)
        + drained_before sizes plan (rows ++ row ∷ []) (length (rows ++ row ∷ [])) next = omega (arith, a, b, c) in z);
    count = (let a = going.count in
        let b = count-more channels rows row in
        let c = ap {B = ℕ} (λ f. cond f 1 0) cycle.mark in
        omega (arith, a, b, c, m));
  }

  -- the push of what drains failed
  pub cut-drain : AppendsSome told now (take n mixed) → Cut channels plan first (rows ++ row ∷ []) next now
  cut-drain is = record {
    bytes = going.bytes ++ is.kept;
    lost = is.lost ++ drop n mixed;
    told_is = told-both first told now going.bytes is.kept going.told_is is.told;
    all = append_assoc going.bytes is.kept (is.lost ++ drop n mixed)
        ∙ ap (λ bs. going.bytes ++ bs) (sym (append_assoc is.kept is.lost (drop n mixed)) ∙ ap (λ bs. bs ++ drop n mixed) (sym is.split)
        ∙ take-append-drop n mixed)
        ∙ all-now;
    out = λ some.
        (let long = length_push rows row in
        let one : length (rows ++ row ∷ []) - 1 ≡ length rows = omega (arith, long) in
        let a = out-now in
        let b = last-front sizes plan rows row in
        let c = ap (λ t. drained_before sizes plan (rows ++ row ∷ []) t (fresh_at plan (rows ++ row ∷ []) t)) one in
        let d = length-append going.bytes is.kept in
        omega (arith, a, b, c, d));
  }

-- ---- at the end, where no reset comes
module _ (channels : List Channel) (plan : Plan) (first : Option (List ℕ)) (rows : List Row) (fresh : Bool) (none : fresh ≡ false)
    (room : Ledger) (items : List ℕ) (told now : Option (List ℕ)) (packets : ℕ)
    (going : Going channels plan first rows fresh room items told packets) where
  all-closed : going.bytes ++ items ≡ header_bytes channels ++ rows_bytes channels rows
  all-closed = going.all ∙ ap (λ b. header_bytes channels ++ bytes_so_far channels rows b) none
      ∙ ap (λ bs. header_bytes channels ++ bs) (append-nil (rows_bytes channels rows))

  pub count-closed : packets ≡ length (trace_of channels rows).packets
  count-closed =
      let a = going.count in
      let b = ap {B = ℕ} (λ f. cond f 1 0) none in
      omega (arith, a, b)

  closed : going.bytes ++ (items ++ end_mark packets) ≡ encode (trace_of channels rows)
  closed =
      sym (append_assoc going.bytes items (end_mark packets)) ∙ ap (λ bs. bs ++ end_mark packets) all-closed
      ∙ ap (λ k. (header_bytes channels ++ rows_bytes channels rows) ++ end_mark k) count-closed ∙ sym (encode-rows channels rows)

  pub told-closed : now ≡ append_known told (items ++ end_mark packets) → now ≡ append_known first (encode (trace_of channels rows))
  told-closed e = told-both first told now going.bytes (items ++ end_mark packets) going.told_is e
      ∙ ap (append_known first) closed

  pub record CutEnd : Type 0 where
    pub bytes : List ℕ
    pub lost : List ℕ
    pub told_is : now ≡ append_known first bytes
    pub all : bytes ++ lost ≡ encode (trace_of channels rows)
    pub out : 0 < length rows → length (header_bytes channels) + drained_but_last (sizes_of channels) plan rows ≤ length bytes

  pub cut-end : AppendsSome told now (items ++ end_mark packets) → CutEnd
  cut-end is = record {
    bytes = going.bytes ++ is.kept;
    lost = is.lost;
    told_is = told-both first told now going.bytes is.kept going.told_is is.told;
    all = append_assoc going.bytes is.kept is.lost ∙ ap (λ bs. going.bytes ++ bs) (sym is.split) ∙ closed;
    out = λ some.
        (let a = going.out in
        let b = before-less (length rows) fresh in
        let d = length-append going.bytes is.kept in
        omega (arith, a, b, d));
  }
    where
      before-less : (t : ℕ) (f : Bool) → drained_before (sizes_of channels) plan rows (t - 1) (fresh_at plan rows (t - 1))
          ≤ drained_before (sizes_of channels) plan rows t f
      before-less zero f = omega arith
      before-less (suc t) f =
          let e : suc t - 1 ≡ t = omega arith in
          let d = ap (λ u. drained_before (sizes_of channels) plan rows u (fresh_at plan rows u)) e in
          omega (arith, d)
