-- No bytes have two readings, and neither has a front of them.
use Rattle.std.proofs.Common.{◌≡◌, ◌≢◌, ℕ, ◌+◌, ◌-◌, ◌^◌, ◌<◌, ◌≤◌, ◌⊎◌, Bool, true, false, cond, List, [], ◌∷◌, ◌++◌, length, All, Ok, Err, inl, inr, ⊎_elim, refl, sym}
use Rattle.std.proofs.Common.{ap, subst, ◌∙◌, arith}
use Rattle.std.specs.List.{flat_map}
use Rattle.std.proofs.lemmas.List.{append-nil, length-append}
use Rattle.std.proofs.lemmas.Option.{same_Some}
use Rattle.vec_clock.specs.trace_model.declared.channel.Channel.{Channel}
use Rattle.vec_clock.specs.trace_model.declared.packet.Packet.{Packet}
use Rattle.vec_clock.specs.trace_model.declared.trace.Trace.{Trace}
use Rattle.vec_clock.specs.trace_model.declared.packet.TheConstants.{MOST_CHANNELS}
use Rattle.vec_clock.specs.trace_model.Channel.{IsTable}
use Rattle.vec_clock.specs.trace_model.Packet.{IsPacket}
use Rattle.vec_clock.specs.trace_model.Trace.{AlternateThroughout}
use Rattle.vec_clock.proofs.trace_model_lemmas.EpochLemmas.{epochs_alternate, throughout_from, throughout-front}
use Rattle.trace_code.specs.declared.error.CodeError.TheVariants.{BadTrace, Memory}
use Rattle.trace_code.specs.Encoding.{magic, events_bytes, gap_bytes, table_bytes, header_bytes, packet_bytes, end_mark, encode, Encodes}
use Rattle.trace_code.specs.Reading.{header_at, AreChannels}
use Rattle.trace_code.specs.PacketReading.{packet_at, AreAll}
use Rattle.trace_code.specs.Decoding.{Splits, SplitsLongest, HasNoHeader, IsBehindPackets, OneReading, OnePlace, ReadsBack}
use Rattle.trace_code.proofs.Table.{header_again}
use Rattle.trace_code.proofs.PacketLaws.{packet_again}
use Rattle.trace_code.proofs.Spelled.{EndsNowhere, GoesOn, compared, ended, none-behind}

-- ---- headers

table_channels : (cs : List Channel) → IsTable cs → AreChannels MOST_CHANNELS cs
table_channels cs h = record { some = h.some; few = h.few; each = h.each }

-- two headers of a version, each with what follows it
pub same_channels : (magic : List ℕ) (most : ℕ) (cs ds : List Channel) (xs ys : List ℕ) → AreChannels most cs → AreChannels most ds
    → table_bytes magic cs ++ xs ≡ table_bytes magic ds ++ ys → (cs ≡ ds) × (xs ≡ ys)
same_channels magic most cs ds xs ys c d e =
    let s = same_Some (cs, xs) (ds, ys) (sym (header_again magic most cs xs c) ∙ ap (header_at magic most) e
    ∙ header_again magic most ds ys d) in
    (ap (λ (p : List Channel × List ℕ). p.0) s, ap (λ (p : List Channel × List ℕ). p.1) s)

same_header : (cs ds : List Channel) (xs ys : List ℕ) → IsTable cs → IsTable ds → header_bytes cs ++ xs ≡ header_bytes ds ++ ys
    → (cs ≡ ds) × (xs ≡ ys)
same_header cs ds xs ys c d e = same_channels magic MOST_CHANNELS cs ds xs ys (table_channels cs c) (table_channels ds d) e

-- ---- packets

-- two packets, each with what follows it
pub same_packet : (cs : List Channel) (p q : Packet) (xs ys : List ℕ) → IsPacket cs p → IsPacket cs q → packet_bytes cs p ++ xs
    ≡ packet_bytes cs q ++ ys → (p ≡ q) × (xs ≡ ys)
same_packet cs p q xs ys hp hq e =
    let s = same_Some (p, xs) (q, ys) (sym (packet_again cs p xs hp) ∙ ap (packet_at cs) e ∙ packet_again cs q ys hq) in
    (ap (λ (x : Packet × List ℕ). x.0) s, ap (λ (x : Packet × List ℕ). x.1) s)

pub apart : (cs : List Channel) → EndsNowhere (packet_bytes cs)
apart cs p n rest = one p.reset
  where
    one : (b : Bool) → end_mark n ≢ cond b (2 ∷ gap_bytes p.gap) (1 ∷ (gap_bytes p.gap ++ events_bytes cs p.starts p.ends p.contents)) ++ rest
    one true e = absurd cc
    one false e = absurd cc

-- ---- the whole

pub same_trace : (t u : Trace) → t.channels ≡ u.channels → t.packets ≡ u.packets → t ≡ u
same_trace t u c p = λ i. record { channels = c i; packets = p i }

-- an encoding is a header, packets, and the end
pub encoding-splits : (t : Trace) (bytes : List ℕ) → Encodes t bytes → Splits bytes t.channels t.packets (end_mark (length t.packets))
encoding-splits t bytes h = record {
  table = h.0.table;
  each = h.0.well_formed.packets;
  alternate = throughout_from t.packets h.0.well_formed.alternate;
  parts = sym
      h.1;
}

-- two splits of the same bytes
pub same-table : (bytes : List ℕ) (cs ds : List Channel) (ps qs : List Packet) (r s : List ℕ) → Splits bytes cs ps r → Splits bytes ds qs s
    → cs ≡ ds
same-table bytes cs ds ps qs r s a b = (same_header cs ds (flat_map (packet_bytes cs) ps ++ r) (flat_map (packet_bytes ds) qs ++ s) a.table
    b.table (sym a.parts ∙ b.parts)).0

pub two-splits : (bytes : List ℕ) (cs : List Channel) (ps qs : List Packet) (r s : List ℕ) → Splits bytes cs ps r → Splits bytes cs qs s
    → GoesOn (packet_bytes cs) ps qs r s ⊎ GoesOn (packet_bytes cs) qs ps s r
two-splits bytes cs ps qs r s a b =
    compared (IsPacket cs) (packet_bytes cs) (same_packet cs) ps qs r s a.each b.each (same_header cs cs (flat_map (packet_bytes cs) ps ++ r) (flat_map (packet_bytes cs) qs ++ s) a.table
    b.table (sym a.parts ∙ b.parts)).1

-- a split of the bytes of a trace whose rest is another end
pub one_reading : OneReading
one_reading bytes t u a b =
    let s = encoding-splits t bytes a in
    let c = same-table bytes t.channels u.channels t.packets u.packets (end_mark (length t.packets)) (end_mark (length u.packets)) s
    (encoding-splits u bytes b) in
    let r = subst (λ (cs : List Channel). Splits bytes cs u.packets (end_mark (length u.packets))) (sym c) (encoding-splits u bytes b) in
    same_trace t u c (⊎_elim
    (λ (g : GoesOn (packet_bytes t.channels) t.packets u.packets (end_mark (length t.packets)) (end_mark (length u.packets))). sym
    (ended (packet_bytes t.channels) (apart t.channels) t.packets u.packets (length t.packets) (end_mark (length u.packets)) g).0)
    (λ (g : GoesOn (packet_bytes t.channels) u.packets t.packets (end_mark (length u.packets)) (end_mark (length t.packets))).
    (ended (packet_bytes t.channels) (apart t.channels) u.packets t.packets (length u.packets) (end_mark (length t.packets)) g).0)
    (two-splits bytes t.channels t.packets u.packets (end_mark (length t.packets)) (end_mark (length u.packets)) s r))

pub reads_back : ReadsBack
reads_back t (Ok u) has code = inl (ap (λ (v : Trace). Ok v) (one_reading (encode t) u t code (has, refl)))
reads_back t (Err (BadTrace at)) has code = absurd (code.1 t (has, refl))
reads_back t (Err Memory) has code = inr refl

-- ---- the place of a fault
pub longer : {X : Type 0} (front all others : List X) → all ≡ front ++ others → length front ≤ length all
longer front all others e = omega (arith, ap length e, length-append front others)

-- as long, and begun by it: the same
pub as-long : {X : Type 0} (front all others : List X) → all ≡ front ++ others → length all ≤ length front → all ≡ front
as-long front all [] e l = e ∙ append-nil front
as-long front all (x ∷ xs) e l = absurd (omega (arith, ap length e, length-append front (x ∷ xs)))

pub one-longest : (bytes : List ℕ) (cs : List Channel) (ps qs : List Packet) (r s : List ℕ) → SplitsLongest bytes cs ps r
    → SplitsLongest bytes cs qs s → ps ≡ qs
one-longest bytes cs ps qs r s a b = ⊎_elim
    (λ (g : GoesOn (packet_bytes cs) ps qs r s). sym (as-long ps qs g.others g.whole (a.most qs s b.splits)))
    (λ (g : GoesOn (packet_bytes cs) qs ps s r). as-long qs ps g.others g.whole (b.most ps r a.splits))
    (two-splits bytes cs ps qs r s a.splits b.splits)

both-behind : (bytes : List ℕ) (a b : ℕ) → IsBehindPackets bytes a → IsBehindPackets bytes b → a ≡ b
both-behind bytes a b p q =
    let c = same-table bytes p.channels q.channels p.packets q.packets p.rest q.rest p.longest.splits q.longest.splits in
    let there = subst (λ (cs : List Channel). SplitsLongest bytes cs q.packets q.rest) (sym c) q.longest in
    let ps = one-longest bytes p.channels p.packets q.packets p.rest q.rest p.longest there in
    p.place ∙ ap (λ (xs : List Packet). length (header_bytes p.channels) + length (flat_map (packet_bytes p.channels) xs)) ps
    ∙ ap (λ (cs : List Channel). length (header_bytes cs) + length (flat_map (packet_bytes cs) q.packets)) c ∙ sym q.place

headed : (bytes : List ℕ) (at : ℕ) → HasNoHeader bytes → IsBehindPackets bytes at → ⊥
headed bytes at none p = none p.channels (flat_map (packet_bytes p.channels) p.packets ++ p.rest) p.longest.splits.table
    p.longest.splits.parts

pub one_place : OnePlace
one_place bytes a b (inl p) (inl q) = p.1 ∙ sym q.1
one_place bytes a b (inl p) (inr q) = absurd (headed bytes b p.0 q)
one_place bytes a b (inr p) (inl q) = absurd (headed bytes a q.0 p)
one_place bytes a b (inr p) (inr q) = both-behind bytes a b p q

-- ---- what the code reads
-- behind all packets none goes on
none-more : (cs : List Channel) (bytes rest left : List ℕ) (ps qs : List Packet) → AreAll cs bytes ps rest → All (IsPacket cs) qs
    → AlternateThroughout qs → GoesOn (packet_bytes cs) ps qs rest left → (qs ≡ ps) × (rest ≡ left)
none-more cs bytes rest left ps qs all each alternate =
    none-behind (IsPacket cs) (packet_bytes cs) AlternateThroughout throughout-front rest left ps qs all.last each alternate

-- the header and all packets behind it
pub all-split : (cs : List Channel) (bytes body rest : List ℕ) (ps : List Packet) → IsTable cs → bytes ≡ header_bytes cs ++ body
    → AreAll cs body ps rest → Splits bytes cs ps rest
all-split cs bytes body rest ps table whole all = record {
  table = table;
  each = all.each;
  alternate = all.alternate;
  parts = whole
      ∙ ap (λ bs. header_bytes cs ++ bs) all.parts;
}

pub all-longest : (cs : List Channel) (bytes body rest : List ℕ) (ps : List Packet) → IsTable cs → bytes ≡ header_bytes cs ++ body
    → AreAll cs body ps rest → SplitsLongest bytes cs ps rest
all-longest cs bytes body rest ps table whole all =
    let mine = all-split cs bytes body rest ps table whole all in
    record {
      splits = mine;
      most = λ more left other. ⊎_elim
          (λ (g : GoesOn (packet_bytes cs) ps more rest left). let same = ap length (none-more cs body rest left ps more all other.each other.alternate
          g).0 in omega arith)
          (λ (g : GoesOn (packet_bytes cs) more ps left rest). longer more ps g.others g.whole)
          (two-splits bytes cs ps more rest left mine other);
    }

-- where the end doesn't stand, no trace is encoded
pub no-end : (cs : List Channel) (bytes body rest : List ℕ) (ps : List Packet) → IsTable cs → bytes ≡ header_bytes cs ++ body
    → AreAll cs body ps rest → ((length ps < 2 ^ 32) × (rest ≡ end_mark (length ps)) → ⊥) → (t : Trace) → Encodes t bytes → ⊥
no-end cs bytes body rest ps table whole all never t code =
    let mine = all-split cs bytes body rest ps table whole all in
    let there = encoding-splits t bytes code in
    let c = same-table bytes t.channels cs t.packets ps (end_mark (length t.packets)) rest there mine in
    let moved = subst (λ (ds : List Channel). Splits bytes ds t.packets (end_mark (length t.packets))) c there in
    let same : (t.packets ≡ ps) × (rest ≡ end_mark (length t.packets)) = ⊎_elim
    (λ (g : GoesOn (packet_bytes cs) ps t.packets rest (end_mark (length t.packets))). none-more cs body rest (end_mark (length t.packets)) ps t.packets
    all moved.each moved.alternate g)
    (λ (g : GoesOn (packet_bytes cs) t.packets ps (end_mark (length t.packets)) rest).
    (let e = ended (packet_bytes cs) (apart cs) t.packets ps (length t.packets) rest g in (sym e.0, sym e.1)))
    (two-splits bytes cs ps t.packets rest (end_mark (length t.packets)) mine moved) in
    never (
      subst (λ (qs : List Packet). length qs < 2 ^ 32) same.0 code.0.few,
      same.1
          ∙ ap (λ (qs : List Packet). end_mark (length qs)) same.0,
    )

-- the place that is left behind by the rest
pub place-behind : (cs : List Channel) (bytes body rest : List ℕ) (ps : List Packet) (at : ℕ) → IsTable cs → bytes ≡ header_bytes cs ++ body
    → AreAll cs body ps rest → at ≡ length bytes - length rest → IsBehindPackets bytes at
place-behind cs bytes body rest ps at table whole all e = record {
  channels = cs;
  packets = ps;
  rest = rest;
  longest = all-longest cs bytes body rest ps table whole all;
  place = omega (
    arith,
    e,
    ap length whole,
    length-append (header_bytes cs) body,
    ap length all.parts,
    length-append
        (flat_map (packet_bytes cs) ps) rest,
  );
}

-- where it stands, the trace is read
pub all-encoded : (cs : List Channel) (bytes body rest : List ℕ) (ps : List Packet) → IsTable cs → bytes ≡ header_bytes cs ++ body
    → AreAll cs body ps rest → (length ps < 2 ^ 32) × (rest ≡ end_mark (length ps)) → Encodes (record { channels = cs; packets = ps }) bytes
all-encoded cs bytes body rest ps table whole all (few, end) = (
  record { table = table; well_formed = record { packets = all.each; alternate = epochs_alternate ps all.alternate }; few = few },
  ap (λ bs. header_bytes cs ++ (flat_map (packet_bytes cs) ps ++ bs)) (sym end) ∙ ap (λ bs. header_bytes cs ++ bs) (sym all.parts)
      ∙ sym whole,
)
