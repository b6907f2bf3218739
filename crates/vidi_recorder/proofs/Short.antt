-- A recorded trace isn't too long to be read again.
use Rattle.std.proofs.Common.{◌≡◌, ℕ, suc, ◌+◌, ◌-◌, ◌*◌, ◌≤◌, Bool, true, false, cond, List, [], ◌∷◌, ◌++◌, Some, length, slice_get}
use Rattle.std.proofs.Common.{refl, ap, arith}
use Rattle.std.specs.List.{All, flat_map}
use Rattle.std.proofs.lemmas.List.{append-nil, length-append}
use Rattle.std.proofs.lemmas.List.Concat.{flat_map-append}
use Rattle.std.proofs.lemmas.List.Elements.{All-head, All-tail}
use Rattle.trace_code.specs.trace_model.declared.packet.TheConstants.{LONGEST_PACKET, MOST_CHANNELS, MOST_CYCLES, RESET_LEN}
use Rattle.trace_code.specs.trace_model.declared.channel.Channel.{Channel}
use Rattle.trace_code.specs.trace_model.declared.packet.Packet.{Packet}
use Rattle.trace_code.specs.trace_model.declared.row.Row.{Row}
use Rattle.trace_code.specs.trace_model.Channel.{IsChannel, IsName, IsTable}
use Rattle.trace_code.specs.trace_model.Recording.{after_gap, end_after, has_event, own_before, packet_of, packets_at, packets_from, reset_packet}
use Rattle.trace_code.specs.trace_model.Recording.{trace_of}
use Rattle.trace_code.specs.trace_model.Row.{IsOver}
use Rattle.trace_code.specs.declared.decoding.TheConstants.{TRACE_LIMIT}
use Rattle.trace_code.specs.Encoding.{channel_bytes, encode, end_mark, header_bytes, packet_bytes, row_bytes, rows_bytes}
use Rattle.room_ledger.proofs.Following.{same-len}
use Rattle.vidi_recorder.proofs.Going.{bytes-len}
use Rattle.trace_code.proofs.RowBytes.{packet-most}
use Rattle.trace_code.proofs.RowsBytes.{encode-rows}
use Rattle.vidi_recorder.proofs.Passed.{longest}

-- ---- the header
name-short : (name : List ℕ) → IsName name → length name ≤ 64
name-short [] is = absurd is
name-short (b ∷ name) is = let l = is.2 in omega (arith, l)

channel-short : (c : Channel) → IsChannel c → length (channel_bytes c) ≤ 83
channel-short c is =
    let a = name-short c.name is.name in
    let b = is.ports in
    let d = length-append c.name (length c.widths ∷ c.widths) in
    omega (arith, a, b, d)

channels-short : (channels : List Channel) → All IsChannel channels → length (flat_map channel_bytes channels) ≤ length channels * 83
channels-short [] all = omega arith
channels-short (c ∷ channels) all =
    let a = channel-short c (All-head IsChannel c channels all) in
    let b = channels-short channels (All-tail IsChannel c channels all) in
    let d = length-append (channel_bytes c) (flat_map channel_bytes channels) in
    omega (arith, a, b, d)

header-short : (channels : List Channel) → IsTable channels → length (header_bytes channels) ≤ 9 + 83 * MOST_CHANNELS
header-short channels table =
    let a = channels-short channels table.each in
    let few = table.few in
    omega (arith, a, few)

-- ---- the packets
row-short : (channels : List Channel) → IsTable channels → (gap : ℕ) (row : Row) → IsOver channels row
    → length (row_bytes channels gap row) ≤ LONGEST_PACKET
row-short channels table gap row over =
    let a = bytes-len channels gap row table over in
    let b = same-len channels row.starts row.ends in
    let most = packet-most channels row.starts row.ends in
    let l = longest channels table in
    omega (arith, a, b, most, l)

-- those of a row are its own packet and a reset at most
at-short : (channels : List Channel) → IsTable channels → (t before : ℕ) (row : Row) → IsOver channels row
    → length (flat_map (packet_bytes channels) (packets_at channels t before row)) ≤ LONGEST_PACKET + RESET_LEN
at-short channels table t before row over =
    let gap = t - own_before t before row in
    let first = cond row.fresh (reset_packet (t - before) ∷ []) [] in
    let second = cond (has_event row) (after_gap gap (packet_of channels row) ∷ []) [] in
    let a = ap length (flat_map-append (packet_bytes channels) first second) in
    let b = length-append (flat_map (packet_bytes channels) first) (flat_map (packet_bytes channels) second) in
    let reset = reset-short row.fresh in
    let own = ap length (alone (has_event row) (after_gap gap (packet_of channels row))) in
    let short = row-short channels table gap row over in
    omega (arith, a, b, reset, own, short)
  where
    reset-short : (b : Bool) → length (flat_map (packet_bytes channels) (cond b (reset_packet (t - before) ∷ []) [])) ≤ RESET_LEN
    reset-short true = omega arith
    reset-short false = omega arith

    alone : (b : Bool) (p : Packet) → flat_map (packet_bytes channels) (cond b (p ∷ []) []) ≡ cond b (packet_bytes channels p) []
    alone true p = append-nil (packet_bytes channels p)
    alone false p = refl

rows-short : (channels : List Channel) → IsTable channels → (t before : ℕ) (rows : List Row)
    → ((n : ℕ) (row : Row) → slice_get rows n ≡ Some row → IsOver channels row)
    → length (flat_map (packet_bytes channels) (packets_from channels t before rows)) ≤ length rows * (LONGEST_PACKET + RESET_LEN)
rows-short channels table t before [] over = omega arith
rows-short channels table t before (row ∷ rows) over =
    let here = packets_at channels t before row in
    let others = packets_from channels (t + 1) (end_after t before row) rows in
    let a = at-short channels table t before row (over 0 row refl) in
    let b = rows-short channels table (t + 1) (end_after t before row) rows (λ n r at. over (suc n) r at) in
    let c = ap length (flat_map-append (packet_bytes channels) here others) in
    let d = length-append (flat_map (packet_bytes channels) here) (flat_map (packet_bytes channels) others) in
    omega (arith, a, b, c, d)

mark-long : (n : ℕ) → length (end_mark n) ≡ 5
mark-long n = refl

pub trace-short : (channels : List Channel) → IsTable channels → (rows : List Row)
    → ((t : ℕ) (row : Row) → slice_get rows t ≡ Some row → IsOver channels row) → length rows ≤ MOST_CYCLES
    → length (encode (trace_of channels rows)) ≤ TRACE_LIMIT
trace-short channels table rows over few =
    let a = header-short channels table in
    let b = rows-short channels table 0 0 rows over in
    let count = length (packets_from channels 0 0 rows) in
    let e = ap length (encode-rows channels rows) in
    let d = length-append (header_bytes channels ++ rows_bytes channels rows) (end_mark count) in
    let f = length-append (header_bytes channels) (rows_bytes channels rows) in
    let g = mark-long count in
    omega (arith, a, b, d, e, f, g, few)
