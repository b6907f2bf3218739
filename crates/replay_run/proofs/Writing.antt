-- What is written, over plain values.
use Rattle.std.proofs.Common.{◌≡◌, ℕ, ◌+◌, ◌-◌, ◌*◌, ◌<◌, ◌≤◌, ◌==◌, ◌&&◌, Bool, true, false, cond, not, List, [], ◌∷◌, ◌++◌}
use Rattle.std.proofs.Common.{length, drop, take, refl, ap, sym, ◌∙◌, arith, append_assoc, zero-add}
use Rattle.std.specs.List.{flat_map}
use Rattle.std.proofs.lemmas.List.{append-nil, length-append, length-take-le, take_at}
use borrow.Rule.Slice.PartMut.{post_of, put_mid}
use Rattle.std.proofs.lemmas.List.Concat.{flat_map-append}
use Rattle.trace_code.specs.trace_model.declared.channel.Channel.{Channel}
use Rattle.trace_code.specs.trace_model.declared.packet.Packet.{Packet}
use Rattle.trace_code.specs.trace_model.declared.packet.TheConstants.{RESET_LEN}
use Rattle.trace_code.specs.trace_model.declared.row.Row.{Row}
use Rattle.trace_code.specs.trace_model.Length.{contents_len, head_len, packet_len}
use Rattle.trace_code.specs.trace_model.Recording.{after_gap, end_after, end_of, has_event, own_before, packet_of, packets_at, packets_from}
use Rattle.trace_code.specs.trace_model.Recording.{reset_packet, trace_of}
use Rattle.trace_code.specs.Encoding.{encode, end_mark, header_bytes, packet_bytes, row_bytes, rows_bytes}
use Rattle.trace_code.proofs.trace_model_lemmas.TraceLaws.{packets-push}
use Rattle.trace_code.proofs.RowsBytes.{encode-rows, end-next, packets-next, some-bytes, some-many}
use Rattle.replay_run.specs.Output.{fresh_bytes, IsWritten, IsWrittenBefore}
use Rattle.replay_run.specs.declared.output.Output.{Output}

-- ---- the buffer
pub whole : (n : ℕ) (xs ys : List ℕ) → length xs ≡ n → take n (xs ++ drop (length xs) ys) ≡ xs
whole n xs ys e = ap (λ k. take k (xs ++ drop (length xs) ys)) (sym e) ∙ take_at xs (drop (length xs) ys) (length xs) refl

-- what was written behind the first bytes
pub put-front : (a k n : ℕ) (xs ys bs zs : List ℕ) → a ≤ length xs → ys ≡ bs ++ zs → n ≡ length bs
    → take (a + n) (put_mid a k xs ys) ≡ take a xs ++ bs
put-front a k n xs ys bs zs l e m =
    ap (λ qs. take (a + n) (put_mid a k xs qs)) e
    ∙ ap (λ qs. take (a + n) (take a xs ++ qs)) (append_assoc bs zs (post_of a k xs))
    ∙ ap (take (a + n)) (sym (append_assoc (take a xs) bs (zs ++ post_of a k xs)))
    ∙ take_at (take a xs ++ bs) (zs ++ post_of a k xs) (a + n) (omega (arith, length-append (take a xs) bs, length-take-le a xs l, m))

pub reset-many : (channels : List Channel) (gap : ℕ) → length (packet_bytes channels (reset_packet gap)) ≡ RESET_LEN
reset-many channels gap = refl

-- ---- a row
-- it has an event exactly where something was written of it
pub row-longer : (channels : List Channel) (row : Row) (len after : ℕ) → after ≡ len + packet_len channels row.starts row.ends → len < after
    → has_event row ≡ true
row-longer channels row len after e l = one (row.starts == 0 && row.ends == 0) e
  where
    one : (bare : Bool) → after ≡ len + cond bare 0 (head_len (length channels) + contents_len row.starts channels) → not bare ≡ true
    one true e = absurd (omega (arith, e, l))
    one false e = refl

pub row-no_longer : (channels : List Channel) (row : Row) (len after : ℕ) → after ≡ len + packet_len channels row.starts row.ends → after ≤ len
    → has_event row ≡ false
row-no_longer channels row len after e l = one (row.starts == 0 && row.ends == 0) e
  where
    one : (bare : Bool) → after ≡ len + cond bare 0 (head_len (length channels) + contents_len row.starts channels) → not bare ≡ false
    one true e = refl
    one false e = absurd (omega (arith, e, l))

-- where the packets end behind one row more

-- the packets of one row more, the reset before it where it is fresh

-- their bytes and their number, where it follows packets that end at `e`
at-bytes : (channels : List Channel) (t e : ℕ) (row : Row) → flat_map (packet_bytes channels) (packets_at channels t e row)
    ≡ fresh_bytes channels (t - e) row ++ row_bytes channels (t - own_before t e row) row
at-bytes channels t e row =
    let r = reset_packet (t - e) in
    let p = after_gap (t - own_before t e row) (packet_of channels row) in
    flat_map-append (packet_bytes channels) (cond row.fresh (r ∷ []) []) (cond (has_event row) (p ∷ []) [])
    ∙ ap (λ bs. bs ++ flat_map (packet_bytes channels) (cond (has_event row) (p ∷ []) [])) (some-bytes channels row.fresh r)
    ∙ ap (λ bs. fresh_bytes channels (t - e) row ++ bs) (some-bytes channels (has_event row) p)

at-many : (channels : List Channel) (t e : ℕ) (row : Row) → length (packets_at channels t e row) ≡ cond row.fresh 1 0 + cond (has_event row) 1 0
at-many channels t e row =
    let r = reset_packet (t - e) in
    let p = after_gap (t - own_before t e row) (packet_of channels row) in
    length-append (cond row.fresh (r ∷ []) []) (cond (has_event row) (p ∷ []) [])
    ∙ ap (λ n. n + length (cond (has_event row) (p ∷ []) [])) (some-many row.fresh r)
    ∙ ap (λ n. cond row.fresh 1 0 + n) (some-many (has_event row) p)

-- the reset before a row
pub written-reset : (channels : List Channel) (rows : List Row) (row : Row) (cycle : ℕ) (fresh : Bool) (old new : Output) → row.fresh ≡ fresh
    → length rows ≡ cycle → IsWritten channels rows old
    → take new.len new.bytes.items ≡ take old.len old.bytes.items ++ fresh_bytes channels (cycle - old.end) row
    → new.packets ≡ old.packets + cond fresh 1 0 → new.end ≡ cond fresh cycle old.end → IsWrittenBefore channels rows row new
written-reset channels rows row cycle fresh old new has here is bytes packets ends = record {
  all = bytes ∙ ap (λ bs. bs ++ fresh_bytes channels (cycle - old.end) row) is.all
      ∙ ap (λ n. (header_bytes channels ++ rows_bytes channels rows) ++ fresh_bytes channels (n - old.end) row) (sym here)
      ∙ ap (λ n. (header_bytes channels ++ rows_bytes channels rows) ++ fresh_bytes channels (length rows - n) row) is.end_is;
  count = packets ∙ ap (λ n. n + cond fresh 1 0) is.count ∙ ap (λ b. length (packets_from channels 0 0 rows) + cond b 1 0) (sym has);
  end_is = ends ∙ ap (λ n. cond fresh n old.end) (sym here) ∙ ap (λ n. cond fresh (length rows) n) is.end_is
      ∙ ap (λ b. cond b (length rows) (end_of 0 0 rows)) (sym has);
}

-- behind one row more
pub written-more : (channels : List Channel) (rows : List Row) (row : Row) (cycle : ℕ) (event : Bool) (old new : Output) → has_event row ≡ event
    → length rows ≡ cycle → IsWrittenBefore channels rows row old
    → take new.len new.bytes.items ≡ take old.len old.bytes.items ++ row_bytes channels (cycle - old.end) row
    → new.packets ≡ old.packets + cond event 1 0 → new.end ≡ cond event (cycle + 1) old.end → IsWritten channels (rows ++ row ∷ []) new
written-more channels rows row cycle event old new has here is bytes packets ends =
    let front = header_bytes channels in
    let e = end_of 0 0 rows in
    let own = own_before (length rows) e row in
    let reset = fresh_bytes channels (length rows - e) row in
    let gap : row_bytes channels (cycle - old.end) row ≡ row_bytes channels (length rows - own) row =
    ap (λ n. row_bytes channels (n - old.end) row) (sym here) ∙ ap (λ n. row_bytes channels (length rows - n) row) is.end_is in
    let whole : rows_bytes channels (rows ++ row ∷ []) ≡ rows_bytes channels rows ++ (reset ++ row_bytes channels (length rows - own) row) =
    ap (flat_map (packet_bytes channels)) (packets-next channels rows row)
    ∙ flat_map-append (packet_bytes channels) (packets_from channels 0 0 rows) (packets_at channels (length rows) e row)
    ∙ ap (λ bs. rows_bytes channels rows ++ bs) (at-bytes channels (length rows) e row) in
    record {
      all = bytes ∙ ap (λ bs. bs ++ row_bytes channels (cycle - old.end) row) is.all
          ∙ ap (λ bs. ((front ++ rows_bytes channels rows) ++ reset) ++ bs) gap
          ∙ append_assoc (front ++ rows_bytes channels rows) reset (row_bytes channels (length rows - own) row)
          ∙ append_assoc front (rows_bytes channels rows) (reset ++ row_bytes channels (length rows - own) row)
          ∙ ap (λ bs. front ++ bs) (sym whole);
      count =
          let many = ap length (packets-next channels rows row)
          ∙ length-append (packets_from channels 0 0 rows) (packets_at channels (length rows) e row) in
          let one = at-many channels (length rows) e row in
          let was = is.count in
          let b = ap (λ b. cond {A = ℕ} b 1 0) has in omega (arith, many, one, was, packets, b);
      end_is = ends ∙ ap (λ n. cond event (n + 1) old.end) (sym here) ∙ ap (λ n. cond event (length rows + 1) n) is.end_is
          ∙ ap (λ b. cond b (length rows + 1) own) (sym has)
          ∙ sym (end-next 0 0 rows row ∙ ap (λ t. end_after t e row) (zero-add (length rows)));
    }

-- ---- the end
pub ended-trace : (channels : List Channel) (rows : List Row) (output : Output) (bytes : List ℕ) → IsWritten channels rows output
    → bytes ≡ take output.len output.bytes.items ++ end_mark output.packets → bytes ≡ encode (trace_of channels rows)
ended-trace channels rows output bytes is e =
    e ∙ ap (λ bs. bs ++ end_mark output.packets) is.all ∙ ap (λ n. (header_bytes channels ++ rows_bytes channels rows) ++ end_mark n) is.count
    ∙ sym (encode-rows channels rows)
