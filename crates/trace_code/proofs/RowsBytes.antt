-- The bytes of the packets of rows, by a row more that isn't fresh: how many packets there are, and where the last of them ends.
use Rattle.std.proofs.Common.{◌≡◌, ℕ, ◌+◌, ◌-◌, ◌*◌, ◌≤◌, Bool, true, false, cond, List, [], ◌∷◌, ◌++◌, length, refl, sym, ap, ◌∙◌}
use Rattle.std.proofs.Common.{append_assoc, arith, zero-add}
use Rattle.std.specs.List.{flat_map}
use Rattle.std.proofs.lemmas.List.{append-nil, length-append}
use Rattle.std.proofs.lemmas.List.Concat.{flat_map-append}
use Rattle.vec_clock.specs.trace_model.declared.channel.Channel.{Channel}
use Rattle.vec_clock.specs.trace_model.declared.packet.Packet.{Packet}
use Rattle.vec_clock.specs.trace_model.declared.row.Row.{Row}
use Rattle.vec_clock.specs.trace_model.Recording.{after_gap, end_after, end_of, has_event, own_before, packet_of, packets_at, packets_from, reset_packet}
use Rattle.vec_clock.specs.trace_model.Recording.{trace_of}
use Rattle.vec_clock.proofs.trace_model_lemmas.TraceLaws.{packets-push}
use Rattle.trace_code.specs.Encoding.{encode, end_mark, header_bytes, packet_bytes, row_bytes, rows_bytes}

-- ---- where packets end
end-on : (t e : ℕ) (row : Row) → e ≤ t → end_after t e row ≤ t + 1
end-on t e row l = after (has_event row) row.fresh
  where
    after : (event fresh : Bool) → cond event (t + 1) (cond fresh t e) ≤ t + 1
    after true fresh = omega arith
    after false true = omega arith
    after false false = omega (arith, l)

end-most : (t e : ℕ) (rows : List Row) → e ≤ t → end_of t e rows ≤ t + length rows
end-most t e [] l = omega (arith, l)
end-most t e (row ∷ rows) l = let r = end-most (t + 1) (end_after t e row) rows (end-on t e row l) in omega (arith, r)

pub end-within : (rows : List Row) → end_of 0 0 rows ≤ length rows
end-within rows = let l = end-most 0 0 rows (omega arith) in omega (arith, l)

pub end-next : (t e : ℕ) (rows : List Row) (row : Row) → end_of t e (rows ++ row ∷ []) ≡ end_after (t + length rows) (end_of t e rows) row
end-next t e [] row = ap (λ n. end_after n e row) (let same : t ≡ t + 0 = omega arith in same)
end-next t e (x ∷ rows) row =
    let on : t + 1 + length rows ≡ t + length (x ∷ rows) = omega arith in
    end-next (t + 1) (end_after t e x) rows row ∙ ap (λ n. end_after n (end_of (t + 1) (end_after t e x) rows) row) on

pub end-push : (rows : List Row) (row : Row) → row.fresh ≡ false
    → end_of 0 0 (rows ++ row ∷ []) ≡ cond (has_event row) (length rows + 1) (end_of 0 0 rows)
end-push rows row h =
    end-next 0 0 rows row ∙ ap (λ t. end_after t (end_of 0 0 rows) row) (zero-add (length rows))
    ∙ ap (λ b. cond (has_event row) (length rows + 1) (cond b (length rows) (end_of 0 0 rows))) h

-- ---- a row more
-- its packets, the reset before it where it is fresh
pub packets-next : (channels : List Channel) (rows : List Row) (row : Row) → packets_from channels 0 0 (rows ++ row ∷ [])
    ≡ packets_from channels 0 0 rows ++ packets_at channels (length rows) (end_of 0 0 rows) row
packets-next channels rows row = packets-push channels 0 0 rows row
    ∙ ap (λ t. packets_from channels 0 0 rows ++ packets_at channels t (end_of 0 0 rows) row) (zero-add (length rows))

pub some-bytes : (channels : List Channel) (b : Bool) (p : Packet)
    → flat_map (packet_bytes channels) (cond b (p ∷ []) []) ≡ cond b (packet_bytes channels p) []
some-bytes channels true p = append-nil (packet_bytes channels p)
some-bytes channels false p = refl

pub some-many : (b : Bool) (p : Packet) → length (cond b (p ∷ []) []) ≡ cond b 1 0
some-many true p = refl
some-many false p = refl

own-alone : (cs : List Channel) (t e : ℕ) (row : Row) → row.fresh ≡ false
    → packets_at cs t e row ≡ cond (has_event row) (after_gap (t - e) (packet_of cs row) ∷ []) []
own-alone cs t e row h = ap
    (λ b. cond b (reset_packet (t - e) ∷ []) [] ++ cond (has_event row) (after_gap (t - cond b t e) (packet_of cs row) ∷ []) []) h

packets-more : (cs : List Channel) (rows : List Row) (row : Row) → row.fresh ≡ false → packets_from cs 0 0 (rows ++ row ∷ [])
    ≡ packets_from cs 0 0 rows ++ cond (has_event row) (after_gap (length rows - end_of 0 0 rows) (packet_of cs row) ∷ []) []
packets-more cs rows row h =
    packets-next cs rows row
    ∙ ap (λ ps. packets_from cs 0 0 rows ++ ps) (own-alone cs (length rows) (end_of 0 0 rows) row h)

pub rows-push : (cs : List Channel) (rows : List Row) (row : Row) → row.fresh ≡ false
    → rows_bytes cs (rows ++ row ∷ []) ≡ rows_bytes cs rows ++ row_bytes cs (length rows - end_of 0 0 rows) row
rows-push cs rows row h =
    let p = after_gap (length rows - end_of 0 0 rows) (packet_of cs row) in
    ap (flat_map (packet_bytes cs)) (packets-more cs rows row h)
    ∙ flat_map-append (packet_bytes cs) (packets_from cs 0 0 rows) (cond (has_event row) (p ∷ []) [])
    ∙ ap (λ bs. rows_bytes cs rows ++ bs) (one (has_event row) p)
  where
    one : (b : Bool) (p : Packet) → flat_map (packet_bytes cs) (cond b (p ∷ []) []) ≡ cond b (packet_bytes cs p) []
    one true p = append-nil (packet_bytes cs p)
    one false p = refl

pub count-push : (cs : List Channel) (rows : List Row) (row : Row) → row.fresh ≡ false
    → length (packets_from cs 0 0 (rows ++ row ∷ [])) ≡ length (packets_from cs 0 0 rows) + cond (has_event row) 1 0
count-push cs rows row h =
    let p = after_gap (length rows - end_of 0 0 rows) (packet_of cs row) in
    ap length (packets-more cs rows row h) ∙ length-append (packets_from cs 0 0 rows) (cond (has_event row) (p ∷ []) [])
    ∙ ap (λ n. length (packets_from cs 0 0 rows) + n) (one (has_event row) p)
  where
    one : (b : Bool) (p : Packet) → length (cond b (p ∷ []) []) ≡ cond b 1 0
    one true p = refl
    one false p = refl

-- ---- how many there are
few-at : (cs : List Channel) (t e : ℕ) (row : Row) → length (packets_at cs t e row) ≤ 2
few-at cs t e row = one row.fresh (has_event row) (reset_packet (t - e)) (after_gap (t - own_before t e row) (packet_of cs row))
  where
    one : (fresh event : Bool) (r p : Packet) → length (cond fresh (r ∷ []) [] ++ cond event (p ∷ []) []) ≤ 2
    one true true r p = omega arith
    one true false r p = omega arith
    one false true r p = omega arith
    one false false r p = omega arith

few-from : (cs : List Channel) (t e : ℕ) (rows : List Row) → length (packets_from cs t e rows) ≤ 2 * length rows
few-from cs t e [] = omega arith
few-from cs t e (row ∷ rows) =
    let a = few-at cs t e row in
    let b = few-from cs (t + 1) (end_after t e row) rows in
    let c = length-append (packets_at cs t e row) (packets_from cs (t + 1) (end_after t e row) rows) in
    omega (arith, a, b, c)

-- each row has at most two: a reset and its own
pub rows-few : (cs : List Channel) (rows : List Row) → length (packets_from cs 0 0 rows) ≤ 2 * length rows
rows-few cs rows = few-from cs 0 0 rows

-- ---- all bytes
pub encode-rows : (cs : List Channel) (rows : List Row)
    → encode (trace_of cs rows) ≡ (header_bytes cs ++ rows_bytes cs rows) ++ end_mark (length (packets_from cs 0 0 rows))
encode-rows cs rows = sym (append_assoc (header_bytes cs) (rows_bytes cs rows) (end_mark (length (packets_from cs 0 0 rows))))
