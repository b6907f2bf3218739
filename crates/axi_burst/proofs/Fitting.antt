-- What contents say is as small as the ports of an AXI file are narrow.
use Rattle.std.proofs.Common.{◌≡◌, ℕ, ◌<◌, ◌≤◌, ◌^◌, true, ◌&&◌, List, [], ◌∷◌, length, get_or, slice_get, slice_index}
use Rattle.std.proofs.Common.{All, Option, None, Some, refl, sym, subst, arith}
use Rattle.std.specs.List.{filter, zip, enumerate_from}
use Rattle.std.proofs.Math.Nat.{pow-le-pow_right}
use Rattle.std.proofs.lemmas.Bool.{eqb-true, false≢true}
use Rattle.std.proofs.lemmas.Bool.Decides.{nat_tests}
use Rattle.std.proofs.lemmas.List.{length-map}
use Rattle.std.proofs.lemmas.List.Elements.{All-cons, All-filter, All-head, All-map, All-nil, All-tail, filter_passes}
use Rattle.std.proofs.lemmas.List.FromFn.{length-enumerate_from}
use Rattle.std.proofs.lemmas.List.Sums.{count_by-le-length, length-filter}
use Rattle.std.proofs.lemmas.Nat.{pow_pos}
use Rattle.std.proofs.lemmas.Option.{get_or_from_slice_get, slice_get_within}
use Rattle.std.proofs.lemmas.Slice.Zip.{length-zip}
use Rattle.trace_model.specs.vidi_bits.Number.{has}
use Rattle.trace_model.specs.declared.channel.Channel.{Channel}
use Rattle.trace_model.specs.declared.event.Kind.TheVariants.{Start, End}
use Rattle.trace_model.specs.declared.packet.Packet.{Packet}
use Rattle.trace_model.specs.declared.trace.Trace.{Trace}
use Rattle.trace_model.specs.Packet.{Fit, IsPacket, content_of, does}
use Rattle.trace_model.specs.Recording.{recorded}
use Rattle.trace_model.proofs.ContentsLemmas.{content-fits, fit-at}
use Rattle.trace_model.proofs.vidi_bits_lemmas.Bools.{left_of, right_of}
use Rattle.axi_burst.specs.declared.axi.AddressPorts.{AddressPorts}
use Rattle.axi_burst.specs.declared.ports.Word.{Word}
use Rattle.axi_burst.specs.declared.ports.Word.TheVariants.{Id, Addr, Len, Size, Burst}
use Rattle.axi_burst.specs.Forms.{is_beat}
use Rattle.axi_burst.specs.Passes.{AreAddressPorts, IsAddress, places_of}
use Rattle.axi_burst.specs.Ports.{address_fits, is_port, is_wide, place_fits}
use Rattle.axi_burst.specs.Transfers.{FitsAddress, Transfer, address, addresses, beat_of, beats, end_places, field, size_of, transfers}

-- ---- a number is below the power of its port's width
abbrev AtMost : Word → ℕ → Type 0
AtMost word bits = (w : ℕ) → is_wide word w ≡ true → w ≤ bits

module _ (word : Word) (bits : ℕ) (most : AtMost word bits) (widths numbers : List ℕ) (f : Fit widths numbers) where
  at-port : (place : ℕ) (o : Option ℕ) → slice_get widths place ≡ o → is_port word o ≡ true → get_or numbers place 0 < 2 ^ bits
  at-port place None e h = absurd (false≢true h)
  at-port place (Some w) e h =
      let below = fit-at widths numbers place f (slice_get_within widths place w e) in
      let same = get_or_from_slice_get widths place w 0 e in
      let power : 2 ^ w ≤ 2 ^ bits = pow-le-pow_right (omega arith) (most w h) in
      let own : get_or numbers place 0 < 2 ^ w = subst (λ v. get_or numbers place 0 < 2 ^ v) same below in
      omega (arith, own, power)

  at-place : (place : Option ℕ) → place_fits widths word place ≡ true → field 0 place numbers < 2 ^ bits
  at-place None h = pow_pos bits
  at-place (Some place) h = at-port place (slice_get widths place) refl h

len-wide : AtMost Len 8
len-wide w h = let e = eqb-true w 8 h in omega (arith, e)

size-wide : AtMost Size 3
size-wide w h = let e = eqb-true w 3 h in omega (arith, e)

addr-wide : AtMost Addr 64
addr-wide w h = grind (arith, nat_tests)

-- numbers that fit ports, which fit the words of an address
pub content_fits : (ports : AddressPorts) (ws numbers : List ℕ) → address_fits ws (places_of ports) ≡ true → Fit ws numbers → FitsAddress ports numbers
content_fits ports ws numbers fit f =
    let id = place_fits ws Id ports.id in
    let addr = place_fits ws Addr (Some ports.addr) in
    let len = place_fits ws Len ports.len in
    let size = place_fits ws Size ports.size in
    let burst = place_fits ws Burst ports.burst in
    let behind_id = right_of id (addr && (len && (size && burst))) fit in
    let behind_addr = right_of addr (len && (size && burst)) behind_id in
    let behind_len = right_of len (size && burst) behind_addr in
    record {
      len = at-place Len 8 len-wide ws numbers f ports.len (left_of len (size && burst) behind_addr);
      size = at-place Size 3 size-wide ws numbers f ports.size (left_of size burst behind_len);
      addr = at-place Addr 64 addr-wide ws numbers f (Some ports.addr) (left_of addr (len && (size && burst)) behind_id);
    }

one-fits : (channels : List Channel) (ports : AddressPorts) (p : Packet) → AreAddressPorts channels ports → IsPacket channels p
    → has p.starts ports.channel ≡ true → FitsAddress ports (content_of channels p ports.channel)
one-fits channels ports p are is h =
    content_fits ports are.channel.widths (content_of channels p ports.channel) are.fit
    (content-fits channels p ports.channel are.channel is.contents are.there h)

pub contents_fit : (channels : List Channel) (packets : List Packet) (ports : AddressPorts) → AreAddressPorts channels ports
    → All (IsPacket channels) packets
    → All (λ (p : Packet). has p.starts ports.channel ≡ true → FitsAddress ports (content_of channels p ports.channel)) packets
contents_fit channels packets ports are each k d l = one-fits channels ports (get_or packets k d) are (each k d l)

-- of slices that show them
pub shown_fit : (channels cs : List Channel) (packets ps : List Packet) (ports : AddressPorts) → cs ≡ channels → ps ≡ packets
    → AreAddressPorts channels ports → All (IsPacket channels) packets
    → All (λ (p : Packet). has p.starts ports.channel ≡ true → FitsAddress ports (content_of cs p ports.channel)) ps
shown_fit channels cs packets ps ports e f are each =
    let Of : List Channel → List Packet → Type 0 =
    λ xs ys. All (λ (p : Packet). has p.starts ports.channel ≡ true → FitsAddress ports (content_of xs p ports.channel)) ys in
    subst (λ (xs : List Channel). Of xs ps) (sym e) (subst (λ (ys : List Packet). Of channels ys) (sym f) (contents_fit channels packets ports are each))

-- ---- and so is an address
beat-small : (beat : ℕ) → is_beat beat ≡ true → (1 ≤ beat) × (beat ≤ 128)
beat-small beat h = (grind (arith, nat_tests), grind (arith, nat_tests))

power-small : (n : ℕ) → n < 2 ^ 3 → (1 ≤ 2 ^ n) × (2 ^ n ≤ 128)
power-small n l =
    let most : n ≤ 7 = omega (arith, l) in
    let power : 2 ^ n ≤ 2 ^ 7 = pow-le-pow_right (omega arith) most in
    (pow_pos n, power)

size-small : (beat : ℕ) (place : Option ℕ) (content : List ℕ) → is_beat beat ≡ true → field 0 place content < 2 ^ 3
    → (1 ≤ size_of beat place content) × (size_of beat place content ≤ 128)
size-small beat None content b l = beat-small beat b
size-small beat (Some place) content b l = power-small (slice_index content place) l

pub is-address : (beat : ℕ) (ports : AddressPorts) (x : Transfer) → is_beat beat ≡ true → FitsAddress ports x.content
    → IsAddress (address beat ports x)
is-address beat ports x b f =
    let size = size-small beat ports.size x.content b f.size in
    let len = f.len in
    record { some = size.0; small = size.1; least = omega arith; most = omega (arith, len); addr = f.addr }

starting-fit : (channels : List Channel) (packets : List Packet) (ports : AddressPorts) → AreAddressPorts channels ports
    → All (IsPacket channels) packets → All (FitsAddress ports) (recorded channels packets ports.channel)
starting-fit channels packets ports are each =
    All-map (FitsAddress ports) (λ (p : Packet). content_of channels p ports.channel) (filter (does Start ports.channel) packets) (λ k d l.
    All-filter (does Start ports.channel) (λ (p : Packet). has p.starts ports.channel ≡ true → FitsAddress ports (content_of channels p ports.channel))
    packets (contents_fit channels packets ports are each) k d l (filter_passes (does Start ports.channel) packets k d l))

firsts-fit : {X Y : Type 0} (P : X → Type 0) (xs : List X) (ys : List Y) → All P xs → All (λ (x : X × Y). P x.0) (zip xs ys)
firsts-fit {X} {Y} P [] ys h = All-nil (λ (x : X × Y). P x.0)
firsts-fit {X} {Y} P (x ∷ xs) [] h = All-nil (λ (x : X × Y). P x.0)
firsts-fit {X} {Y} P (x ∷ xs) (y ∷ ys) h =
    All-cons (λ (z : X × Y). P z.0) (x, y) (zip xs ys) (All-head P x xs h) (firsts-fit P xs ys (All-tail P x xs h))

pub addresses_fit : (beat : ℕ) (ports : AddressPorts) (t : Trace) → is_beat beat ≡ true → AreAddressPorts t.channels ports
    → All (IsPacket t.channels) t.packets → All IsAddress (addresses beat ports t)
addresses_fit beat ports t b are each =
    let starts = recorded t.channels t.packets ports.channel in
    let ends = end_places ports.channel t.packets in
    let all = firsts-fit (FitsAddress ports) starts ends (starting-fit t.channels t.packets ports are each) in
    let made : List ℕ × ℕ → Transfer = λ x. record { content = x.0; at = x.1 } in
    All-map IsAddress (address beat ports) (transfers t ports.channel)
    (All-map (λ (x : Transfer). IsAddress (address beat ports x)) made (zip starts ends)
    (λ k d l. is-address beat ports (made (get_or (zip starts ends) k d)) b (all k d l)))

-- ---- how many they are
few-ends : (c : ℕ) (packets : List Packet) → length (end_places c packets) ≤ length packets
few-ends c packets =
    let ends : List (ℕ × Packet) = filter (λ (x : ℕ × Packet). does End c x.1) (enumerate_from 0 packets) in
    omega (
      arith,
      length-map ends (λ (x : ℕ × Packet). x.0),
      length-filter (λ (x : ℕ × Packet). does End c x.1) (enumerate_from 0 packets),
      count_by-le-length (λ (x : ℕ × Packet). does End c x.1) (enumerate_from 0 packets),
      length-enumerate_from 0 packets,
    )

few-transfers : (t : Trace) (c : ℕ) → length (transfers t c) ≤ length t.packets
few-transfers t c =
    let starts = recorded t.channels t.packets c in
    let ends = end_places c t.packets in
    let made : List ℕ × ℕ → Transfer = λ x. record { content = x.0; at = x.1 } in
    omega (arith, length-map (zip starts ends) made, length-zip starts ends, few-ends c t.packets)

pub few_addresses : (beat : ℕ) (ports : AddressPorts) (t : Trace) → length (addresses beat ports t) ≤ length t.packets
few_addresses beat ports t = omega (arith, length-map (transfers t ports.channel) (address beat ports), few-transfers t ports.channel)

pub few_beats : (id last : Option ℕ) (t : Trace) (c : ℕ) → length (beats id last t c) ≤ length t.packets
few_beats id last t c = omega (arith, length-map (transfers t c) (beat_of id last), few-transfers t c)
