-- A replay's packets fix its rows; they keep contents; what it records is in the recorded order.
use Rattle.std.proofs.Common.{◌≡◌, ◌⊎◌, ◌↔◌, ℕ, zero, suc, ◌-◌, ◌<◌, ◌≤◌, ◌^◌, Bool, true, false, not, cond, List, []}
use Rattle.std.proofs.Common.{◌∷◌, Some, length, take, map, slice_get, inl, inr, ⊎_elim, refl, ap, sym, subst}
use Rattle.std.proofs.Common.{◌∙◌, arith}
use Rattle.std.specs.List.{filter}
use Rattle.std.proofs.lemmas.Bool.{cases_Bool, cases_lt, and_parts, false≢true, cond-true, cond-false}
use Rattle.std.proofs.lemmas.List.{length-map}
use Rattle.std.proofs.lemmas.List.Sums.{length-filter}
use Rattle.std.proofs.lemmas.Option.{slice_get_within, same_Some}
use Rattle.chan_map.specs.vidi_bits.Number.{has}
use Rattle.chan_map.proofs.vidi_bits_lemmas.BitLemmas.{has-above}
use Rattle.chan_map.specs.trace_model.declared.channel.Channel.{Channel}
use Rattle.chan_map.specs.trace_model.declared.channel.Dir.{Dir}
use Rattle.chan_map.specs.trace_model.declared.channel.Dir.TheVariants.{Inward, Outward}
use Rattle.chan_map.specs.trace_model.declared.event.Kind.{Kind}
use Rattle.chan_map.specs.trace_model.declared.event.Kind.TheVariants.{Start, End, Reset}
use Rattle.chan_map.specs.trace_model.declared.packet.Packet.{Packet}
use Rattle.chan_map.specs.trace_model.declared.row.Offers.{Offers}
use Rattle.chan_map.specs.trace_model.declared.row.Row.{Row}
use Rattle.chan_map.specs.trace_model.Clock.{clock, Covers}
use Rattle.chan_map.specs.trace_model.Counting.{IsNth}
use Rattle.chan_map.specs.trace_model.Packet.{does, count, content_of, Fit, IsPacket}
use Rattle.chan_map.specs.trace_model.Recording.{row_does, shown, has_event, packet_of, packets_of, recorded}
use Rattle.chan_map.specs.trace_model.Row.{content_at, sink_valid, is_in_flight, flies_after, row_before, AreOffers, AreRows}
use Rattle.chan_map.proofs.trace_model_lemmas.ContentsLemmas.{content-fits}
use Rattle.chan_map.proofs.trace_model_lemmas.CountingLemmas.{count-suc_no, count-mono, nth, nth-unique}
use Rattle.chan_map.proofs.trace_model_lemmas.RowLaws.{counted, recorded-once, same-counts, does-same}
use Rattle.net_design.specs.declared.design.Design.{Design}
use Rattle.chan_map.specs.declared.pins.Map.{Map}
use Rattle.run_model.specs.Building.{mask_of, joined}
use Rattle.run_model.specs.Laws.{OneReplay, ContentsFit, ContentsStay, HasWellFormedTrace, IsReady, OneOfLength}
use Rattle.run_model.specs.Laws.{ReplayKeepsContents, controls, IsInOrder, AreInOrder, OrderInTheOutput}
use Rattle.run_model.specs.Offers.{no_content, CarriesOn}
use Rattle.run_model.specs.Played.{AreStable, all_up, is_fresh_after}
use Rattle.run_model.specs.Replay.{done, IsCovered, IsOfferedOn, IsEpochRow, IsReplayStretch}
use Rattle.run_model.proofs.Contents.{mask-below, has-mask, has-all, fit-joined, content-joined}
use Rattle.run_model.proofs.EventPlaces.{covered-or-not, filter-nth}
use Rattle.run_model.proofs.PinLemmas.{all-at}
use Rattle.run_model.proofs.PlayedLaws.{Determines, Allows, one-list_of_rows, some-list}
use Rattle.run_model.proofs.RowParts.{AgreeOn, no-content-fits}
use Rattle.run_model.proofs.RunLaws.{kept, none-behind}
use Rattle.run_model.proofs.Stays.{KeepsContents, keeps-from, keeps-in-flight, flight-parts, flying-flag}

-- ---- at most one
same-tests : (a b : Bool) (P : Type 0) → ((a ≡ true) ↔ P) → ((b ≡ true) ↔ P) → a ≡ b
same-tests true b P x y = sym (y.1 (x.0 refl))
same-tests false true P x y = absurd (false≢true (x.1 (y.0 refl)))
same-tests false false P x y = refl

agree-on : (channels : List Channel) (packets : List Packet) (have : ℕ → ℕ) (a b : Row) (c : ℕ) (dir : Dir)
    → IsOfferedOn channels packets have a c dir → IsOfferedOn channels packets have b c dir → AgreeOn channels a b c dir
agree-on channels packets have a b c Inward x y =
    let valid : has a.valids c ≡ has b.valids c = same-tests (has a.valids c) (has b.valids c) _ x.0 y.0 in (
      valid,
      ⊎_elim
          (λ (t : has a.valids c ≡ true).
          (let w = x.0.0 t in x.1 t w.place w.packet w.is ∙ sym (y.1 (sym valid ∙ t) w.place w.packet w.is)))
          (λ (f : has a.valids c ≡ false). x.2 f ∙ sym (y.2 (sym valid ∙ f)))
          (cases_Bool (has a.valids c)),
    )
agree-on channels packets have a b c Outward x y = same-tests (has a.readies c) (has b.readies c) _ x y

replay-determines : (later : Bool) (channels : List Channel) (packets : List Packet) → Determines channels (IsEpochRow later channels packets)
replay-determines later channels packets before a b are oa ob ra rb = (
  ra.2 ∙ sym rb.2,
  record {
    gates = ra.1 ∙ sym rb.1;
    on = λ c x at. agree-on channels packets (done before) a b c x.dir (ra.0 c x at) (rb.0 c x at);
  },
)

-- ---- at least one
abbrev yes_or : {P : Type 0} → P ⊎ (P → ⊥) → Bool
yes_or {P} d = ⊎_elim (λ (p : P). true) (λ (n : P → ⊥). false) d

yes-when : {P : Type 0} (d : P ⊎ (P → ⊥)) → (yes_or d ≡ true) ↔ P
yes-when {P} (inl p) = (λ e. p, λ q. refl)
yes-when {P} (inr n) = (λ e. absurd (false≢true e), λ q. absurd (n q))

abbrev content_or : (channels : List Channel) (n : ℕ) (packets : List Packet) (have : ℕ → ℕ) (c : ℕ)
    → IsCovered n packets have Start c (have c) ⊎ (IsCovered n packets have Start c (have c) → ⊥) → List ℕ
content_or channels n packets have c d = ⊎_elim (λ (x : IsCovered n packets have Start c (have c)). content_of channels x.packet c)
    (λ (none : IsCovered n packets have Start c (have c) → ⊥). no_content channels c) d

abbrev offer_valid : List Channel → List Packet → (ℕ → ℕ) → ℕ → Bool
offer_valid channels packets have c = yes_or (covered-or-not (length channels) packets have Start c (have c))

abbrev offer_ready : List Channel → List Packet → (ℕ → ℕ) → ℕ → Bool
offer_ready channels packets have c = yes_or (covered-or-not (length channels) packets have End c (have c))

abbrev offer_content : List Channel → List Packet → (ℕ → ℕ) → ℕ → List ℕ
offer_content channels packets have c =
    content_or channels (length channels) packets have c (covered-or-not (length channels) packets have Start c (have c))

abbrev offers_of : List Channel → List Packet → (ℕ → ℕ) → Offers
offers_of channels packets have = record {
  valids = mask_of (offer_valid channels packets have) (length channels);
  readies = mask_of (offer_ready channels packets have) (length channels);
  contents = joined (offer_content channels packets have) 0 channels;
}

packet-at : (channels : List Channel) (packets : List Packet) → ContentsFit channels packets → (p : ℕ) (packet : Packet)
    → slice_get packets p ≡ Some packet → IsPacket channels packet
packet-at channels packets fit p packet at = all-at (IsPacket channels) packets p packet fit at

content-or-fits : (channels : List Channel) (n : ℕ) (packets : List Packet) (have : ℕ → ℕ) (c : ℕ) (x : Channel)
    → ContentsFit channels packets
    → slice_get channels c ≡ Some x → (d : IsCovered n packets have Start c (have c) ⊎ (IsCovered n packets have Start c (have c) → ⊥))
    → Fit x.widths (content_or channels n packets have c d)
content-or-fits channels n packets have c x fit at (inl w) =
    content-fits channels w.packet c x (packet-at channels packets fit w.place w.packet w.is.at).contents at w.is.passes
content-or-fits channels n packets have c x fit at (inr none) = no-content-fits channels c x at

offer-content-fits : (channels : List Channel) (packets : List Packet) (have : ℕ → ℕ) → ContentsFit channels packets → (c : ℕ) (x : Channel)
    → slice_get channels c ≡ Some x → Fit x.widths (offer_content channels packets have c)
offer-content-fits channels packets have fit c x at = content-or-fits channels (length channels) packets have c x fit at
    (covered-or-not (length channels) packets have Start c (have c))

offers-over : (channels : List Channel) (packets : List Packet) (have : ℕ → ℕ) → ContentsFit channels packets
    → AreOffers channels (offers_of channels packets have)
offers-over channels packets have fit = record {
  valids = mask-below (offer_valid channels packets have) (length channels);
  readies = mask-below (offer_ready channels packets have) (length channels);
  contents = fit-joined (offer_content channels packets have) channels (offer-content-fits channels packets have fit);
}

-- the content that is offered, by whether the start is covered
content-when : (channels : List Channel) (n : ℕ) (packets : List Packet) (have : ℕ → ℕ) (c : ℕ)
    (d : IsCovered n packets have Start c (have c) ⊎ (IsCovered n packets have Start c (have c) → ⊥)) (place : ℕ) (packet : Packet)
    → IsNth (does Start c) packets (have c) place packet → yes_or d ≡ true
    → content_or channels n packets have c d ≡ content_of channels packet c
content-when channels n packets have c (inl w) place packet is h =
    ap (λ (p : Packet). content_of channels p c) (nth-unique (does Start c) packets (have c) w.place place w.packet packet w.is is).1
content-when channels n packets have c (inr none) place packet is h = absurd (false≢true h)

offered-on : (channels : List Channel) (packets : List Packet) (have : ℕ → ℕ) → ContentsFit channels packets
    → (row : Row) (c : ℕ) (dir : Dir)
    (x : Channel) → slice_get channels c ≡ Some x → CarriesOn channels (offers_of channels packets have) row c dir
    → IsOfferedOn channels packets have row c dir
offered-on channels packets have fit row c Inward x at h =
    let l = slice_get_within channels c x at in
    let decided = covered-or-not (length channels) packets have Start c (have c) in
    let bit : has row.valids c ≡ yes_or decided = h.0 ∙ has-mask (offer_valid channels packets have) (length channels) c l in
    let when = yes-when decided in (
      (λ t. when.0 (sym bit ∙ t), λ w. bit ∙ when.1 w),
      λ t place packet is.
          h.1 ∙ cond-true (has (offers_of channels packets have).valids c) _ (no_content channels c) (sym h.0 ∙ t)
          ∙ content-joined (offer_content channels packets have) channels (offer-content-fits channels packets have fit) c x at
          ∙ content-when channels (length channels) packets have c decided place packet is (sym bit ∙ t),
      λ f. h.1 ∙ cond-false (has (offers_of channels packets have).valids c) _ (no_content channels c) (sym h.0 ∙ f),
    )
offered-on channels packets have fit row c Outward x at h =
    let l = slice_get_within channels c x at in
    let decided = covered-or-not (length channels) packets have End c (have c) in
    let bit : has row.readies c ≡ yes_or decided = h ∙ has-mask (offer_ready channels packets have) (length channels) c l in
    let when = yes-when decided in
    (λ t. when.0 (sym bit ∙ t), λ w. bit ∙ when.1 w)

pub all-up-below : (n : ℕ) → 2 ^ n - 1 < 2 ^ n
all-up-below zero = omega arith
all-up-below (suc n) = let p = all-up-below n in omega arith

replay-allows : (later : Bool) (channels : List Channel) (packets : List Packet) → ContentsFit channels packets → (before : List Row)
    → AreRows channels before → Allows channels (IsEpochRow later channels packets) before
replay-allows later channels packets fit before are = record {
  offers = offers_of channels packets (done before);
  gates = all_up channels;
  fresh = is_fresh_after later before;
  are = offers-over channels packets (done before) fit;
  below = all-up-below (length channels);
  allows = λ row over carries g fresh.
      (λ c x at. offered-on channels packets (done before) fit row c x.dir x at (carries c x at), g, fresh);
}

pub one-epoch_replay : (later : Bool) (d : Design) (m : Map) → IsReady d m → (packets : List Packet) → ContentsFit m.channels packets → (n : ℕ)
    → OneOfLength (IsReplayStretch later d m packets) n
one-epoch_replay later d m ready packets fit n = (
  some-list d m ready.lawful ready.one_map ready.mapped (IsEpochRow later m.channels packets) (replay-allows later m.channels packets fit) n,
  λ a b la lb ra rb. one-list_of_rows d m ready.lawful ready.one_map ready.mapped (IsEpochRow later m.channels packets)
      (replay-determines later m.channels packets) a b ra rb (la ∙ sym lb),
)

pub one-replay : OneReplay
one-replay = one-epoch_replay false

-- ---- contents stay
covers-more : (n : ℕ) (x y z : ℕ → ℕ) → Covers n x z → ((c : ℕ) → x c ≤ y c) → Covers n y z
covers-more n x y z h more c l = let a = h c l in let b = more c in omega arith

done-same : (rows : List Row) (v c : ℕ) (before : Row) → slice_get rows v ≡ Some before → has before.ends c ≡ false
    → done (take v rows) c ≡ done (take (suc v) rows) c
done-same rows v c before at h = sym (count-suc_no (row_does End c) rows v before at h)

offered-inward : (channels : List Channel) (packets : List Packet) (have : ℕ → ℕ) (row : Row) (c : ℕ) (dir : Dir) → dir ≡ Inward
    → IsOfferedOn channels packets have row c dir → IsOfferedOn channels packets have row c Inward
offered-inward channels packets have row c Inward d h = h
offered-inward channels packets have row c Outward d h = absurd (cc)

offered-outward : (channels : List Channel) (packets : List Packet) (have : ℕ → ℕ) (row : Row) (c : ℕ) (dir : Dir) → dir ≡ Outward
    → IsOfferedOn channels packets have row c dir → IsOfferedOn channels packets have row c Outward
offered-outward channels packets have row c Inward d h = absurd (cc)
offered-outward channels packets have row c Outward d h = h

kinds : End ≡ Start → ⊥
kinds e = cc

module _ (later : Bool) (d : Design) (m : Map) (packets : List Packet) (rows : List Row) (replay : IsReplayStretch later d m packets rows) where
  inward : (t : ℕ) (before row : Row) → row_before rows t ≡ Some before → slice_get rows t ≡ Some row → (c : ℕ) (x : Channel)
      → slice_get m.channels c ≡ Some x → x.dir ≡ Inward → is_in_flight before c ≡ true
      → (has row.valids c ≡ true) × (content_at m.channels row.contents c ≡ content_at m.channels before.contents c)
  inward zero before row b at c x there dir flies = absurd (cc)
  inward (suc v) before row b at c x there dir flies =
      let f = flight-parts before c flies in
      let old = offered-inward m.channels packets (done (take v rows)) before c x.dir dir ((replay.ruled v before b).0 c x there) in
      let new = offered-inward m.channels packets (done (take (suc v) rows)) row c x.dir dir ((replay.ruled (suc v) row at).0 c x there) in
      let w = old.0.0 f.0 in
      let same : done (take v rows) c ≡ done (take (suc v) rows) c = done-same rows v c before b
      ((replay.marked v before b).1.ends c ∙ f.2) in
      let is : IsNth (does Start c) packets (done (take (suc v) rows) c) w.place w.packet =
      subst (λ k. IsNth (does Start c) packets k w.place w.packet) same w.is in
      let up = new.0.1 (record {
        place = w.place;
        packet = w.packet;
        is = is;
        covers = covers-more (length m.channels) (done (take v rows)) (done (take (suc v) rows)) (clock packets w.place) w.covers
            (λ k. count-mono (row_does End k) rows v (suc v) (omega arith));
      }) in
      (up, new.1 up w.place w.packet is ∙ sym (old.1 f.0 w.place w.packet w.is))

  over-before : (t : ℕ) (before : Row) → row_before rows t ≡ Some before → before.valids < 2 ^ length m.channels
  over-before zero before b = absurd (cc)
  over-before (suc t) before b = (replay.marked t before b).0.valids

  gates-up : (t : ℕ) (before row : Row) → row_before rows t ≡ Some before → slice_get rows t ≡ Some row → (c : ℕ)
      → is_in_flight before c ≡ true → has row.gates c ≡ true
  gates-up t before row b at c flies = ⊎_elim
      (λ (l : c < length m.channels). ap (λ g. has g c) (replay.ruled t row at).1 ∙ has-all (length m.channels) c l)
      (λ (l : length m.channels ≤ c). absurd (false≢true (sym (has-above before.valids (length m.channels) c (over-before t before b) l)
      ∙ (flight-parts before c flies).0)))
      (cases_lt c (length m.channels))

  pub replay-keeps : AreStable m.channels rows → KeepsContents m.channels rows
  replay-keeps stable = keeps-from m.channels rows replay.marked stable inward gates-up

pub epoch-keeps_contents : (later : Bool) (d : Design) (m : Map) (packets : List Packet) (rows : List Row) → IsReplayStretch later d m packets rows
    → AreStable m.channels rows → ContentsStay m.channels rows × HasWellFormedTrace m.channels rows
epoch-keeps_contents later d m packets rows replay stable = kept m.channels rows
    (none-behind later rows (λ t row at. (replay.ruled t row at).2)) replay.marked (replay-keeps later d m packets rows replay stable)

pub replay-keeps_contents : ReplayKeepsContents
replay-keeps_contents = epoch-keeps_contents false

-- ---- from a packet to its row
pub record FromRow (channels : List Channel) (rows : List Row) (p : ℕ) (packet : Packet) : Type 0 where
  pub t : ℕ
  pub row : Row
  pub at : slice_get rows t ≡ Some row
  pub packet-is : packet ≡ packet_of channels row
  pub front : take p (packets_of channels rows) ≡ packets_of channels (take t rows)

from-cons : (channels : List Channel) (row : Row) (rows : List Row) (b : Bool) → has_event row ≡ b → (p : ℕ) (packet : Packet)
    → slice_get (map (packet_of channels) (cond b (row ∷ filter has_event rows) (filter has_event rows))) p ≡ Some packet
    → ((q : ℕ) → slice_get (packets_of channels rows) q ≡ Some packet → FromRow channels rows q packet)
    → FromRow channels (row ∷ rows) p packet
from-cons channels row rows true e zero packet at later = record {
  t = 0;
  row = row;
  at = refl;
  packet-is = let same : packet_of channels row ≡ packet = same_Some (packet_of channels row) packet at in sym same;
  front = refl;
}
from-cons channels row rows true e (suc q) packet at later =
    let r = later q at in
    record {
      t = suc r.t;
      row = r.row;
      at = r.at;
      packet-is = r.packet-is;
      front = ap (λ b. take (suc q) (map (packet_of channels) (cond b (row ∷ filter has_event rows) (filter has_event rows)))) e
          ∙ ap (λ ps. packet_of channels row ∷ ps) r.front
          ∙ sym (ap (λ b. map (packet_of channels) (cond b (row ∷ filter has_event (take r.t rows)) (filter has_event (take r.t rows)))) e);
    }
from-cons channels row rows false e p packet at later =
    let r = later p at in
    record {
      t = suc r.t;
      row = r.row;
      at = r.at;
      packet-is = r.packet-is;
      front = ap (λ b. take p (map (packet_of channels) (cond b (row ∷ filter has_event rows) (filter has_event rows)))) e
          ∙ r.front
          ∙ sym (ap (λ b. map (packet_of channels) (cond b (row ∷ filter has_event (take r.t rows)) (filter has_event (take r.t rows)))) e);
    }

pub from-row : (channels : List Channel) (rows : List Row) (p : ℕ) (packet : Packet) → slice_get (packets_of channels rows) p ≡ Some packet
    → FromRow channels rows p packet
from-row channels [] p packet at = absurd (cc)
from-row channels (row ∷ rows) p packet at = from-cons channels row rows (has_event row) refl p packet at
    (λ q h. from-row channels rows q packet h)

pub front-count : (channels : List Channel) (rows : List Row) (p : ℕ) (packet : Packet) (f : FromRow channels rows p packet)
    (kind : Kind) (c : ℕ)
    → count kind c (take p (packets_of channels rows)) ≡ shown kind c (take f.t rows)
front-count channels rows p packet f kind c = ap (count kind c) f.front ∙ same-counts kind c channels (take f.t rows)

nth-row : (channels : List Channel) (rows : List Row) (kind : Kind) (c j p : ℕ) (packet : Packet) (f : FromRow channels rows p packet)
    → IsNth (does kind c) (packets_of channels rows) j p packet → IsNth (row_does kind c) rows j f.t f.row
nth-row channels rows kind c j p packet f is = record {
  at = f.at;
  passes = sym (does-same kind c channels f.row) ∙ ap (does kind c) (sym f.packet-is) ∙ is.passes;
  before = sym (front-count channels rows p packet f kind c) ∙ is.before;
}

map-get : {X Y : Type 0} (f : X → Y) (xs : List X) (j : ℕ) (x : X) → slice_get xs j ≡ Some x → slice_get (map f xs) j ≡ Some (f x)
map-get f [] j x at = absurd (cc)
map-get f (y ∷ ys) zero x at = ap (λ z. Some (f z)) (same_Some y x at)
map-get f (y ∷ ys) (suc j) x at = map-get f ys j x at

-- the content that the packet records is the row's
start-content : (channels : List Channel) (rows : List Row) → AreRows channels rows → (c j p t : ℕ) (packet : Packet) (row : Row)
    → IsNth (does Start c) (packets_of channels rows) j p packet → IsNth (row_does Start c) rows j t row
    → content_of channels packet c ≡ content_at channels row.contents c
start-content channels rows are c j p t packet row is in-row = same_Some (content_of channels packet c) (content_at channels row.contents c)
    (sym (map-get (λ (x : Packet). content_of channels x c) (filter (does Start c) (packets_of channels rows)) j packet
    (filter-nth (does Start c) (packets_of channels rows) j p packet is))
    ∙ ap (λ xs. slice_get xs j) (recorded-once channels rows are c)
    ∙ map-get (λ (x : Row). content_at channels x.contents c) (filter (row_does Start c) rows) j row
    (filter-nth (row_does Start c) rows j t row in-row))

-- ---- order
module _ (later : Bool) (d : Design) (m : Map) (packets : List Packet) (rows : List Row) (replay : IsReplayStretch later d m packets rows)
    (stable : AreStable m.channels rows) where
  -- in a row with a start as many transactions were completed as started before
  pub idle : (c t : ℕ) (row : Row) → slice_get rows t ≡ Some row → has row.starts c ≡ true
      → shown Start c (take t rows) ≡ done (take t rows) c
  idle c t row at starts =
      let l = slice_get_within rows t row at in
      let all = counted m.channels rows replay.marked (keeps-in-flight m.channels rows (replay-keeps later d m packets rows replay stable)) t
      (omega arith) c in
      let parts = and_parts (sink_valid row c) (not (flies_after (row_before rows t) c)) (sym ((replay.marked t row at).1.starts c)
      ∙ starts) in
      let off = flying-flag (flies_after (row_before rows t) c) parts.1 in
      omega (arith, all, off)

  valid-in : (c t : ℕ) (row : Row) → slice_get rows t ≡ Some row → has row.starts c ≡ true → has row.valids c ≡ true
  valid-in c t row at starts =
      let parts = and_parts (sink_valid row c) (not (flies_after (row_before rows t) c)) (sym ((replay.marked t row at).1.starts c)
      ∙ starts) in
      (and_parts (has row.valids c) (has row.gates c) parts.0).0

  ready-in : (c t : ℕ) (row : Row) → slice_get rows t ≡ Some row → has row.ends c ≡ true → has row.readies c ≡ true
  ready-in c t row at ends = (and_parts (sink_valid row c) (has row.readies c) (sym ((replay.marked t row at).1.ends c) ∙ ends)).1

  out-clock : (p : ℕ) (packet : Packet) (f : FromRow m.channels rows p packet) (place : ℕ)
      → Covers (length m.channels) (done (take f.t rows)) (clock packets place)
      → Covers (length m.channels) (clock (packets_of m.channels rows) p) (clock packets place)
  out-clock p packet f place h c l = let a = h c l in let b = front-count m.channels rows p packet f End c in omega arith

  in-order : (kind : Kind) (dir : Dir) (c j p : ℕ) (x : Channel) (packet : Packet) → slice_get m.channels c ≡ Some x → x.dir ≡ dir
      → controls dir kind ≡ true → IsNth (does kind c) (packets_of m.channels rows) j p packet
      → IsInOrder m.channels packets (packets_of m.channels rows) kind c j p packet
  in-order Start Inward c j p x packet there dir h is =
      let f = from-row m.channels rows p packet is.at in
      let r = nth-row m.channels rows Start c j p packet f is in
      let offered = offered-inward m.channels packets (done (take f.t rows)) f.row c x.dir dir
      ((replay.ruled f.t f.row f.at).0 c x there) in
      let valid = valid-in c f.t f.row f.at r.passes in
      let w = offered.0.0 valid in
      let index : done (take f.t rows) c ≡ j = sym (idle c f.t f.row f.at r.passes) ∙ r.before in
      record {
        place = w.place;
        original = w.packet;
        is = subst (λ k. IsNth (does Start c) packets k w.place w.packet) index w.is;
        covers = out-clock p packet f w.place w.covers;
        content = λ e. start-content m.channels rows replay.marked c j p f.t packet f.row is r ∙ offered.1 valid w.place w.packet w.is;
      }
  in-order Start Outward c j p x packet there dir h is = absurd (false≢true h)
  in-order End Inward c j p x packet there dir h is = absurd (false≢true h)
  in-order Reset Inward c j p x packet there dir h is = absurd (false≢true h)
  in-order Reset Outward c j p x packet there dir h is = absurd (false≢true h)
  in-order End Outward c j p x packet there dir h is =
      let f = from-row m.channels rows p packet is.at in
      let r = nth-row m.channels rows End c j p packet f is in
      let offered = offered-outward m.channels packets (done (take f.t rows)) f.row c x.dir dir
      ((replay.ruled f.t f.row f.at).0 c x there) in
      let w = offered.0 (ready-in c f.t f.row f.at r.passes) in
      record {
        place = w.place;
        original = w.packet;
        is = subst (λ k. IsNth (does End c) packets k w.place w.packet) r.before w.is;
        covers = out-clock p packet f w.place w.covers;
        content = λ e. absurd (kinds e);
      }

  prefix : (xs ys : List (List ℕ)) → ((j : ℕ) (x : List ℕ) → slice_get xs j ≡ Some x → slice_get ys j ≡ Some x) → xs ≡ take (length xs) ys
  prefix [] ys h = refl
  prefix (x ∷ xs) [] h = (let e = h 0 x refl in absurd (cc))
  prefix (x ∷ xs) (y ∷ ys) h =
      let same : y ≡ x = same_Some y x (h 0 x refl) in
      ap (λ z. z ∷ xs) (sym same) ∙ ap (λ zs. y ∷ zs) (prefix xs ys (λ j z at. h (suc j) z at))

  -- item j of the recorded contents comes from the j-th start
  from-recorded : (out : List Packet) (c j : ℕ) (x : List ℕ) → slice_get (recorded m.channels out c) j ≡ Some x
      → (p : ℕ) × (packet : Packet) × IsNth (does Start c) out j p packet × (content_of m.channels packet c ≡ x)
  from-recorded out c j x at =
      let l = slice_get_within (recorded m.channels out c) j x at in
      let few : j < count Start c out = omega (
        arith,
        l,
        length-map (filter (does Start c) out) (λ (p : Packet). content_of m.channels p c),
        length-filter (does Start c) out,
      ) in
      let found = nth (does Start c) out j few in (
        found.place,
        found.item,
        found.is,
        same_Some (content_of m.channels found.item c) x
            (sym (map-get (λ (p : Packet). content_of m.channels p c) (filter (does Start c) out) j found.item
            (filter-nth (does Start c) out j found.place found.item found.is)) ∙ at),
      )

  in-order-all : AreInOrder m.channels packets (packets_of m.channels rows)
  in-order-all = record {
    events = λ kind c j p x packet there h is. in-order kind x.dir c j p x packet there refl h is;
    contents = λ c x there dir. prefix (recorded m.channels (packets_of m.channels rows) c) (recorded m.channels packets c)
        (λ j k at. (let f = from-recorded (packets_of m.channels rows) c j k at in
        let o = in-order Start x.dir c j f.0 x f.1 there refl (ap (λ e. controls e Start) dir) f.2 in
        map-get (λ (p : Packet). content_of m.channels p c) (filter (does Start c) packets) j o.original
        (filter-nth (does Start c) packets j o.place o.original o.is) ∙ ap Some (sym (o.content refl) ∙ f.3)));
  }

pub order-in_epoch : (later : Bool) (d : Design) (m : Map) (packets : List Packet) (rows : List Row) → IsReplayStretch later d m packets rows
    → AreStable m.channels rows → AreInOrder m.channels packets (packets_of m.channels rows)
order-in_epoch later d m packets rows replay stable = in-order-all later d m packets rows replay stable

pub order-in_the_output : OrderInTheOutput
order-in_the_output = order-in_epoch false
