-- Lengths of packets.
use Rattle.std.proofs.Common.{◌≡◌, ℕ, ◌+◌, ◌<◌, ◌≤◌, ◌==◌, ◌&&◌, Bool, true, false, cond, not, List, [], ◌∷◌, ◌++◌, Option, None, Some}
use Rattle.std.proofs.Common.{length, map, sum_by, take, drop, refl, ap, sym, ◌∙◌, arith}
use Rattle.std.proofs.lemmas.List.{length-map, take_at}
use Rattle.std.proofs.lemmas.List.Sums.{sum_by-cons}
use Rattle.trace_code.specs.trace_model.declared.channel.Channel.{Channel}
use Rattle.trace_code.specs.trace_model.Channel.{content_bytes, IsTable}
use Rattle.trace_code.specs.trace_model.declared.row.Row.{Row}
use Rattle.trace_code.specs.trace_model.Length.{contents_len, head_len, packet_len}
use Rattle.trace_code.specs.trace_model.Recording.{has_event, reset_packet}
use Rattle.trace_code.proofs.RowBytes.{packet-most}
use Rattle.trace_code.specs.Encoding.{packet_bytes}
use Rattle.room_ledger.specs.Gates.{row_len}
use Rattle.room_ledger.specs.Ledger.{Ledger, claimed, Emitted, IsReset}
use Rattle.room_ledger.specs.Reservation.{event_len, need, reset_len, whole}
use Rattle.room_ledger.proofs.Following.{same-len}
use Rattle.vidi_recorder.specs.Standing.{reset_bytes}

-- a row's packet is no longer than what all channels reserve together
pub row-least : (channels : List Channel) → IsTable channels → (row : Option Row)
    → row_len (map content_bytes channels) row ≤ need (map content_bytes channels)
row-least channels table None = omega arith
row-least channels table (Some row) =
    let same = same-len channels row.starts row.ends in
    let most = packet-most channels row.starts row.ends in
    let long = length-map channels content_bytes in
    let all = head-least (head_len (length channels)) channels table.some in
    let same-need : need (map content_bytes channels) ≡ sum_by (whole (head_len (length channels))) (map content_bytes channels) =
    ap (λ n. sum_by (whole (head_len n)) (map content_bytes channels)) long in
    omega (arith, same, most, all, same-need)
  where
    contents-within : (head : ℕ) (xs : List Channel) → sum_by content_bytes xs ≤ sum_by (whole head) (map content_bytes xs)
    contents-within head [] = omega arith
    contents-within head (x ∷ xs) =
        let l = contents-within head xs in
        let a = sum_by-cons content_bytes x xs in
        let b = sum_by-cons (whole head) (content_bytes x) (map content_bytes xs) in
        omega (arith, l, a, b)

    head-least : (head : ℕ) (xs : List Channel) → 1 ≤ length xs → head + sum_by content_bytes xs ≤ sum_by (whole head) (map content_bytes xs)
    head-least head [] some = absurd (omega (arith, some))
    head-least head (x ∷ xs) some =
        let l = contents-within head xs in
        let a = sum_by-cons content_bytes x xs in
        let b = sum_by-cons (whole head) (content_bytes x) (map content_bytes xs) in
        omega (arith, l, a, b)

-- a row has an event exactly where its packet has bytes
pub some-by_len : (channels : List Channel) (row : Row) (len : ℕ) → len ≡ packet_len channels row.starts row.ends → 0 < len
    → has_event row ≡ true
some-by_len channels row len e some = event (row.starts == 0 && row.ends == 0) e
  where
    event : (bare : Bool) → len ≡ cond bare 0 (head_len (length channels) + contents_len row.starts channels) → not bare ≡ true
    event true same = absurd (omega (arith, same, some))
    event false same = refl

pub none-by_len : (channels : List Channel) (row : Row) (len : ℕ) → len ≡ packet_len channels row.starts row.ends → len ≤ 0
    → has_event row ≡ false
none-by_len channels row len e none = event (row.starts == 0 && row.ends == 0) e
  where
    event : (bare : Bool) → len ≡ cond bare 0 (head_len (length channels) + contents_len row.starts channels) → not bare ≡ false
    event true same = refl
    event false same = absurd (omega (arith, same, none))

-- a packet that was taken into the books has room in the store
pub packet_room : (channels : List Channel) (old new : Ledger) (starts ends waiting len capacity : ℕ) → Emitted old starts ends new
    → claimed new ≤ new.capacity → old.sizes ≡ map content_bytes channels → waiting ≡ old.used → capacity ≡ old.capacity
    → len ≡ packet_len channels starts ends → waiting + len ≤ capacity
packet_room channels old new starts ends waiting len capacity is room sizes w c e =
    let used = is.used in
    let cap = is.capacity in
    let same : len ≡ event_len old.sizes starts ends = e ∙ same-len channels starts ends ∙ ap (λ s. event_len s starts ends) (sym sizes) in
    omega (arith, room, used, cap, same, w, c)

-- what is in the books is no more than the store holds
pub used_within : (old new : Ledger) (starts ends : ℕ) → Emitted old starts ends new → claimed new ≤ new.capacity → new.used ≤ old.capacity
used_within old new starts ends is room = let cap = is.capacity in omega (arith, room, cap)

-- and so has the packet of a reset
pub reset_room : (old new : Ledger) (waiting capacity : ℕ) → IsReset old new → claimed new ≤ new.capacity → waiting ≡ old.used
    → capacity ≡ old.capacity → waiting + reset_len ≤ capacity
reset_room old new waiting capacity is room w c =
    let used = is.used in
    let cap = is.capacity in
    omega (arith, room, used, cap, w, c)

-- what is put of a reset
pub reset-put : (comes : Bool) (gap len : ℕ) (items old new : List ℕ) → comes ≡ true → new ≡ packet_bytes [] (reset_packet gap) ++ drop len old
    → len ≡ reset_len → items ++ take len new ≡ items ++ reset_bytes comes gap
reset-put comes gap len items old new h e l =
    let p = packet_bytes [] (reset_packet gap) in
    ap (λ bs. items ++ take len bs) e ∙ ap (λ bs. items ++ bs) (take_at p (drop len old) len (sym l) ∙ ap (λ b. reset_bytes b gap) (sym h))
