-- *Memory environment*: what an AXI4 memory offers after the rows before (AMBA AXI4 IHI 0022, A3.3 and A3.4.1; that one burst is out at a
-- time, and which contents are shown, is this project's profile). All counts are completions in these rows.
use Rattle.std.specs.Prelude.{ℕ, zero, suc, ◌+◌, ◌-◌, ◌*◌, ◌/◌, ◌%◌, ◌^◌, ◌==◌, ◌&&◌, ◌||◌, Bool, false, if◌then◌else◌, nat_le, nat_lt}
use Rattle.std.specs.Prelude.{List, [], ◌∷◌, map, take, length, reverse, replicate, slice_get, slice_index, slice_set, Option, None, Some}
use Rattle.std.specs.Prelude.{is_none, is_some}
use Rattle.std.specs.List.{flat_map, filter, zip, enumerate_from, range_with_len, position_or_len}
use Rattle.axi_burst.specs.declared.axi.AddressPorts.{AddressPorts}
use Rattle.axi_burst.specs.declared.axi_text.Role.{Role}
use Rattle.axi_burst.specs.declared.axi_text.Role.TheVariants.{WriteAddress, WriteData, WriteResponse, ReadAddress, ReadData}
use Rattle.axi_burst.specs.declared.transfers.Address.{Address}
use Rattle.axi_burst.specs.Transfers.{begun_address}
use Rattle.env_script.specs.trace_model.declared.channel.Channel.{Channel}
use Rattle.env_script.specs.trace_model.declared.row.Row.{Row}
use Rattle.env_script.specs.trace_model.Packet.{widths_of}
use Rattle.env_script.specs.trace_model.Row.{completes, content_at}
use Rattle.env_script.specs.trace_model.vidi_bits.Number.{has, part_of, truth}
use Rattle.env_script.specs.Offer.{Offer, nothing}
use Rattle.axi_memory.specs.declared.served.Ports.{Ports}
use Rattle.axi_memory.specs.declared.served.Served.{Served}
use Rattle.axi_memory.specs.declared.turn.Turn.{Turn}
use Rattle.axi_memory.specs.declared.turn.TheConstants.{FIXED, WRAP}

-- ---- what has completed
-- the contents of the completions of channel c, in order
abbrev pub taken : List Channel → ℕ → List Row → List (List ℕ)
taken channels c rows = map (λ (row : Row). content_at channels row.contents c) (filter (λ (row : Row). completes row c) rows)

abbrev pub done : Served → ℕ → List Row → ℕ
done p c rows = length (taken p.channels c rows)

-- the bursts that an address channel has asked for
abbrev pub asks_on : Served → AddressPorts → List Row → List Address
asks_on p ports rows = map (begun_address p.ports.beat ports) (taken p.channels ports.channel rows)

abbrev pub write_asks : Served → List Row → List Address
write_asks p rows = asks_on p p.ports.writes.aw rows

abbrev pub read_asks : Served → List Row → List Address
read_asks p rows = asks_on p p.ports.reads.ar rows

-- the beats of a burst
abbrev pub turns_of : Address → List Turn
turns_of a = map (λ i. record { ask = a; beat = i }) (range_with_len 0 a.beats)

-- all beats of these bursts: the k-th beat that completes is number k of them
abbrev pub turns : List Address → List Turn
turns asks = flat_map turns_of asks

-- ---- the address of a beat (A3.4.1)
abbrev pub bytes_of : Address → ℕ
bytes_of a = a.beats * a.size

-- where a wrapping burst begins anew
abbrev pub boundary : Address → ℕ
boundary a = a.addr - a.addr % bytes_of a

abbrev pub wrapped : Address → ℕ → ℕ
wrapped a i = boundary a + (a.addr - boundary a + i * a.size) % bytes_of a

abbrev pub stepped : Address → ℕ → ℕ
stepped a i = if i == 0 then a.addr else (a.addr - a.addr % a.size) + i * a.size

abbrev pub address_of : Turn → ℕ
address_of t =
    if t.ask.burst == FIXED then t.ask.addr else (if t.ask.burst == WRAP then wrapped t.ask t.beat else stepped t.ask t.beat)

-- the word of a beat
abbrev pub word_of : Served → Turn → ℕ
word_of p t = address_of t / p.ports.beat

-- ---- the memory
-- the low n bytes, each of the new number where its strobe bit is 1, else of the old one
abbrev pub merged : ℕ → ℕ → ℕ → ℕ → ℕ
merged zero old new strobe = 0
merged (suc k) old new strobe = merged k old new strobe + part_of (if has strobe k then new else old) (8 * k) 8 * 2 ^ (8 * k)

-- the words behind a write beat, by its content; a word past the end isn't written, and is 0
abbrev pub written : Served → List ℕ → List ℕ × Turn → List ℕ
written p words x = slice_set words (word_of p x.1)
    (merged p.ports.beat (slice_index words (word_of p x.1)) (slice_index x.0 p.ports.places.wdata) (slice_index x.0 p.ports.places.wstrb))

abbrev pub all_written : Served → List ℕ → List (List ℕ × Turn) → List ℕ
all_written p words [] = words
all_written p words (x ∷ xs) = all_written p (written p words x) xs

-- M: all 0 at first, then as the write beats that completed in these rows leave it
abbrev pub memory_after : Served → List Row → List ℕ
memory_after p rows = all_written p (replicate p.ports.words 0) (zip (taken p.channels p.ports.writes.w rows) (turns (write_asks p rows)))

-- o: 1 plus the last row with a completion on `ar` or `r`, 0 where there is none
abbrev pub shows : Served → Row → Bool
shows p row = completes row p.ports.reads.ar.channel || completes row p.ports.reads.r

abbrev pub shown_since : Served → List Row → ℕ
shown_since p rows = length rows - position_or_len (shows p) (reverse rows)

-- ---- how the memory stands after rows
-- the read beat that is offered
abbrev pub read_turn : Served → List Row → Option Turn
read_turn p rows = slice_get (turns (read_asks p rows)) (done p p.ports.reads.r rows)

-- the word of a beat, 0 where there is none
abbrev pub word_under : Served → List ℕ → Option Turn → ℕ
word_under p words None = 0
word_under p words (Some t) = slice_index words (word_of p t)

abbrev pub id_under : Option Address → ℕ
id_under None = 0
id_under (Some a) = a.id

abbrev pub is_out : Served → List Row → Bool
is_out p rows = nat_lt (done p p.ports.writes.b rows) (done p p.ports.writes.aw.channel rows)

abbrev pub write_beats : Served → List Row → ℕ
write_beats p rows = length (turns (write_asks p rows))

pub record Standing : Type 0 where
  -- as many `aw` as `b` have come
  pub free : Bool
  -- more `aw` than `b` have come, and fewer `w` than these `aw` have beats
  pub wants : Bool
  -- more `aw` than `b` have come, and all their beats have
  pub answers : Bool
  -- the ID of the burst that is to be answered
  pub id : ℕ
  -- the read beat that is offered, and the word that it shows
  pub turn : Option Turn
  pub word : ℕ

abbrev pub standing_after : Served → List Row → Standing
standing_after p rows = record {
  free = done p p.ports.writes.aw.channel rows == done p p.ports.writes.b rows;
  wants = is_out p rows && nat_lt (done p p.ports.writes.w rows) (write_beats p rows);
  answers = is_out p rows && nat_le (write_beats p rows) (done p p.ports.writes.w rows);
  id = id_under (slice_get (write_asks p rows) (done p p.ports.writes.b rows));
  turn = read_turn p rows;
  word = word_under p (memory_after p (take (shown_since p rows) rows)) (read_turn p rows);
}

-- ---- what it offers so
abbrev pub takes : Bool → Offer
takes up = record { valid = false; content = []; ready = up }

abbrev pub gives : Bool → List ℕ → Offer
gives up content = record { valid = up; content = if up then content else []; ready = false }

-- a number at each port of a channel, without the upper bits for which it has no room
abbrev pub content : List Channel → ℕ → (ℕ → ℕ) → List ℕ
content channels c at = map (λ (x : ℕ × ℕ). at x.0 % 2 ^ x.1) (enumerate_from 0 (widths_of (slice_get channels c)))

abbrev pub is_place : Option ℕ → ℕ → Bool
is_place None k = false
is_place (Some place) k = place == k

abbrev pub response : Served → Standing → ℕ → ℕ
response p s k = if is_place p.ports.writes.id k then s.id else 0

-- the beat, its burst's ID, and LAST exactly where it is the last
abbrev pub read_number : Served → Option Turn → ℕ → ℕ → ℕ
read_number p None word k = 0
read_number p (Some t) word k =
    if p.ports.places.rdata == k then word else
    (if is_place p.ports.reads.id k then t.ask.id else (if is_place p.ports.reads.last k then truth (t.beat + 1 == t.ask.beats) else 0))

abbrev pub offer_aw : Standing → Offer
offer_aw s = takes s.free

abbrev pub offer_w : Standing → Offer
offer_w s = takes s.wants

abbrev pub offer_b : Served → Standing → Offer
offer_b p s = gives s.answers (content p.channels p.ports.writes.b (response p s))

-- `ar` is ready exactly where all beats of the `ar` so far have come on `r`, and `r` is valid exactly where they haven't
abbrev pub offer_ar : Standing → Offer
offer_ar s = takes (is_none s.turn)

abbrev pub offer_r : Served → Standing → Offer
offer_r p s = gives (is_some s.turn) (content p.channels p.ports.reads.r (read_number p s.turn s.word))

-- which channel of the port channel c is
abbrev pub role_at : Ports → ℕ → Option Role
role_at ports c =
    if c == ports.writes.aw.channel then Some WriteAddress else
    (if c == ports.writes.w then Some WriteData else
    (if c == ports.writes.b then Some WriteResponse else
    (if c == ports.reads.ar.channel then Some ReadAddress else (if c == ports.reads.r then Some ReadData else None))))

abbrev pub offer_as : Served → Standing → Option Role → Offer
offer_as p s None = nothing
offer_as p s (Some WriteAddress) = offer_aw s
offer_as p s (Some WriteData) = offer_w s
offer_as p s (Some WriteResponse) = offer_b p s
offer_as p s (Some ReadAddress) = offer_ar s
offer_as p s (Some ReadData) = offer_r p s

abbrev pub offer_of : Served → Standing → ℕ → Offer
offer_of p s c = offer_as p s (role_at p.ports c)

abbrev pub memory_offer : Served → List Row → ℕ → Offer
memory_offer p rows c = offer_of p (standing_after p rows) c
