-- No bytes have two readings as an old trace, and neither has a front of them.
use Rattle.std.proofs.Common.{◌≡◌, ℕ, ◌+◌, ◌-◌, ◌^◌, ◌<◌, ◌≤◌, ◌⊎◌, List, ◌++◌, length, All, Ok, Err, inl, inr, ⊎_elim, refl, sym}
use Rattle.std.proofs.Common.{ap, subst, ◌∙◌, arith}
use Rattle.std.specs.List.{flat_map}
use Rattle.std.proofs.lemmas.List.{length-append}
use Rattle.std.proofs.lemmas.Option.{same_Some}
use Rattle.trace_code.specs.declared.error.CodeError.TheVariants.{BadTrace, Memory}
use Rattle.trace_code.specs.trace_model.declared.channel.Channel.{Channel}
use Rattle.trace_code.specs.trace_model.declared.packet.Packet.{Packet}
use Rattle.trace_code.specs.trace_model.declared.trace.Trace.{Trace}
use Rattle.trace_code.specs.trace_model.Trace.{Alternates}
use Rattle.trace_code.specs.Encoding.{end_mark}
use Rattle.trace_code.specs.Reading.{AreChannels}
use Rattle.trace_code.proofs.trace_model_lemmas.EpochLemmas.{epoch-all, epochs-alone}
use Rattle.trace_code.proofs.trace_model_lemmas.FlightLemmas.{alternates-front}
use Rattle.trace_code.proofs.Readings.{as-long, longer, same_channels, same_trace}
use Rattle.trace_code.proofs.Spelled.{EndsNowhere, GoesOn, compared, ended, none-behind, packets-few}
use Rattle.trace_v2.specs.declared.header.TheConstants.{MOST_OLD_CHANNELS}
use Rattle.trace_v2.specs.Old.{IsOldTable, IsOldPacket, old_magic, old_header_bytes, old_packet_bytes, EncodesOld}
use Rattle.trace_v2.specs.OldReading.{old_packet_at, AreAllOld}
use Rattle.trace_v2.specs.OldDecoding.{SplitsOld, SplitsOldLongest, HasNoOldHeader, IsBehindOldPackets, SalvagesOld}
use Rattle.trace_v2.specs.OldDecoding.{OneOldReading, OneOldPlace, OneOldSalvage}
use Rattle.trace_v2.proofs.OldPackets.{old_packet_again}

-- ---- headers

old_channels : (cs : List Channel) → IsOldTable cs → AreChannels MOST_OLD_CHANNELS cs
old_channels cs h = record { some = h.some; few = h.few; each = h.each }

-- two headers, each with what follows it
same_old_header : (cs ds : List Channel) (xs ys : List ℕ) → IsOldTable cs → IsOldTable ds
    → old_header_bytes cs ++ xs ≡ old_header_bytes ds ++ ys → (cs ≡ ds) × (xs ≡ ys)
same_old_header cs ds xs ys c d e = same_channels old_magic MOST_OLD_CHANNELS cs ds xs ys (old_channels cs c) (old_channels ds d) e

-- ---- packets

-- two packets, each with what follows it
pub same_packet : (cs : List Channel) (p q : Packet) (xs ys : List ℕ) → IsOldPacket cs p → IsOldPacket cs q → old_packet_bytes cs p ++ xs
    ≡ old_packet_bytes cs q ++ ys → (p ≡ q) × (xs ≡ ys)
same_packet cs p q xs ys hp hq e =
    let s = same_Some (p, xs) (q, ys) (sym (old_packet_again cs p xs hp) ∙ ap (old_packet_at cs) e ∙ old_packet_again cs q ys hq) in
    (ap (λ (x : Packet × List ℕ). x.0) s, ap (λ (x : Packet × List ℕ). x.1) s)

apart : (cs : List Channel) → EndsNowhere (old_packet_bytes cs)
apart cs p n rest e = absurd cc

-- ---- the whole

-- an encoding is a header, packets, and the end
pub encoding-splits : (t : Trace) (bytes : List ℕ) → EncodesOld t bytes → SplitsOld bytes t.channels t.packets (end_mark (length t.packets))
encoding-splits t bytes h = record {
  table = h.0.table;
  each = λ k d lt. (h.0.well_formed.packets k d lt, h.0.old k d lt);
  alternate = subst Alternates (epoch-all t.packets (λ k d lt. (h.0.old k d lt).1)) (h.0.well_formed.alternate 0);
  parts = sym
      h.1;
}

-- two splits of the same bytes
pub same-table : (bytes : List ℕ) (cs ds : List Channel) (ps qs : List Packet) (r s : List ℕ) → SplitsOld bytes cs ps r → SplitsOld bytes ds qs s
    → cs ≡ ds
same-table bytes cs ds ps qs r s a b = (same_old_header cs ds (flat_map (old_packet_bytes cs) ps ++ r) (flat_map (old_packet_bytes ds) qs ++ s) a.table
    b.table (sym a.parts ∙ b.parts)).0

pub two-splits : (bytes : List ℕ) (cs : List Channel) (ps qs : List Packet) (r s : List ℕ) → SplitsOld bytes cs ps r → SplitsOld bytes cs qs s
    → GoesOn (old_packet_bytes cs) ps qs r s ⊎ GoesOn (old_packet_bytes cs) qs ps s r
two-splits bytes cs ps qs r s a b =
    compared (IsOldPacket cs) (old_packet_bytes cs) (same_packet cs) ps qs r s a.each b.each (same_old_header cs cs (flat_map (old_packet_bytes cs) ps ++ r) (flat_map (old_packet_bytes cs) qs ++ s) a.table
    b.table (sym a.parts ∙ b.parts)).1

-- a split of the bytes of a trace whose rest is another end
pub one_old_reading : OneOldReading
one_old_reading bytes t u a b =
    let s = encoding-splits t bytes a in
    let c = same-table bytes t.channels u.channels t.packets u.packets (end_mark (length t.packets)) (end_mark (length u.packets)) s
    (encoding-splits u bytes b) in
    let r = subst (λ (cs : List Channel). SplitsOld bytes cs u.packets (end_mark (length u.packets))) (sym c) (encoding-splits u bytes b) in
    same_trace t u c (⊎_elim
    (λ (g : GoesOn (old_packet_bytes t.channels) t.packets u.packets (end_mark (length t.packets)) (end_mark (length u.packets))). sym
    (ended (old_packet_bytes t.channels) (apart t.channels) t.packets u.packets (length t.packets) (end_mark (length u.packets)) g).0)
    (λ (g : GoesOn (old_packet_bytes t.channels) u.packets t.packets (end_mark (length u.packets)) (end_mark (length t.packets))).
    (ended (old_packet_bytes t.channels) (apart t.channels) u.packets t.packets (length u.packets) (end_mark (length t.packets)) g).0)
    (two-splits bytes t.channels t.packets u.packets (end_mark (length t.packets)) (end_mark (length u.packets)) s r))

-- ---- the place of a fault
pub one-longest : (bytes : List ℕ) (cs : List Channel) (ps qs : List Packet) (r s : List ℕ) → SplitsOldLongest bytes cs ps r
    → SplitsOldLongest bytes cs qs s → ps ≡ qs
one-longest bytes cs ps qs r s a b = ⊎_elim
    (λ (g : GoesOn (old_packet_bytes cs) ps qs r s). sym (as-long ps qs g.others g.whole (a.most qs s b.splits)))
    (λ (g : GoesOn (old_packet_bytes cs) qs ps s r). as-long qs ps g.others g.whole (b.most ps r a.splits))
    (two-splits bytes cs ps qs r s a.splits b.splits)

both-behind : (bytes : List ℕ) (a b : ℕ) → IsBehindOldPackets bytes a → IsBehindOldPackets bytes b → a ≡ b
both-behind bytes a b p q =
    let c = same-table bytes p.channels q.channels p.packets q.packets p.rest q.rest p.longest.splits q.longest.splits in
    let there = subst (λ (cs : List Channel). SplitsOldLongest bytes cs q.packets q.rest) (sym c) q.longest in
    let ps = one-longest bytes p.channels p.packets q.packets p.rest q.rest p.longest there in
    p.place ∙ ap (λ (xs : List Packet). length (old_header_bytes p.channels) + length (flat_map (old_packet_bytes p.channels) xs)) ps
    ∙ ap (λ (cs : List Channel). length (old_header_bytes cs) + length (flat_map (old_packet_bytes cs) q.packets)) c ∙ sym q.place

headed : (bytes : List ℕ) (at : ℕ) → HasNoOldHeader bytes → IsBehindOldPackets bytes at → ⊥
headed bytes at none p = none p.channels (flat_map (old_packet_bytes p.channels) p.packets ++ p.rest) p.longest.splits.table
    p.longest.splits.parts

pub one_old_place : OneOldPlace
one_old_place bytes a b (inl p) (inl q) = p.1 ∙ sym q.1
one_old_place bytes a b (inl p) (inr q) = absurd (headed bytes b p.0 q)
one_old_place bytes a b (inr p) (inl q) = absurd (headed bytes a q.0 p)
one_old_place bytes a b (inr p) (inr q) = both-behind bytes a b p q

-- ---- what the code reads
-- behind all packets none goes on
none-more : (cs : List Channel) (bytes rest left : List ℕ) (ps qs : List Packet) → AreAllOld cs bytes ps rest → All (IsOldPacket cs) qs
    → Alternates qs → GoesOn (old_packet_bytes cs) ps qs rest left → (qs ≡ ps) × (rest ≡ left)
none-more cs bytes rest left ps qs all each alternate =
    none-behind (IsOldPacket cs) (old_packet_bytes cs) Alternates alternates-front rest left ps qs all.last each alternate

-- the header and all packets behind it
pub all-split : (cs : List Channel) (bytes body rest : List ℕ) (ps : List Packet) → IsOldTable cs → bytes ≡ old_header_bytes cs ++ body
    → AreAllOld cs body ps rest → SplitsOld bytes cs ps rest
all-split cs bytes body rest ps table whole all = record {
  table = table;
  each = all.each;
  alternate = all.alternate;
  parts = whole
      ∙ ap (λ bs. old_header_bytes cs ++ bs) all.parts;
}

pub all-longest : (cs : List Channel) (bytes body rest : List ℕ) (ps : List Packet) → IsOldTable cs → bytes ≡ old_header_bytes cs ++ body
    → AreAllOld cs body ps rest → SplitsOldLongest bytes cs ps rest
all-longest cs bytes body rest ps table whole all =
    let mine = all-split cs bytes body rest ps table whole all in
    record {
      splits = mine;
      most = λ more left other. ⊎_elim
          (λ (g : GoesOn (old_packet_bytes cs) ps more rest left). let same = ap length (none-more cs body rest left ps more all other.each other.alternate
          g).0 in omega arith)
          (λ (g : GoesOn (old_packet_bytes cs) more ps left rest). longer more ps g.others g.whole)
          (two-splits bytes cs ps more rest left mine other);
    }

-- where the end doesn't stand, no trace is encoded
pub no-end : (cs : List Channel) (bytes body rest : List ℕ) (ps : List Packet) → IsOldTable cs → bytes ≡ old_header_bytes cs ++ body
    → AreAllOld cs body ps rest → ((length ps < 2 ^ 32) × (rest ≡ end_mark (length ps)) → ⊥) → (t : Trace) → EncodesOld t bytes → ⊥
no-end cs bytes body rest ps table whole all never t code =
    let mine = all-split cs bytes body rest ps table whole all in
    let there = encoding-splits t bytes code in
    let c = same-table bytes t.channels cs t.packets ps (end_mark (length t.packets)) rest there mine in
    let moved = subst (λ (ds : List Channel). SplitsOld bytes ds t.packets (end_mark (length t.packets))) c there in
    let same : (t.packets ≡ ps) × (rest ≡ end_mark (length t.packets)) = ⊎_elim
    (λ (g : GoesOn (old_packet_bytes cs) ps t.packets rest (end_mark (length t.packets))). none-more cs body rest (end_mark (length t.packets)) ps t.packets
    all moved.each moved.alternate g)
    (λ (g : GoesOn (old_packet_bytes cs) t.packets ps (end_mark (length t.packets)) rest).
    (let e = ended (old_packet_bytes cs) (apart cs) t.packets ps (length t.packets) rest g in (sym e.0, sym e.1)))
    (two-splits bytes cs ps t.packets rest (end_mark (length t.packets)) mine moved) in
    never (
      subst (λ (qs : List Packet). length qs < 2 ^ 32) same.0 code.0.few,
      same.1
          ∙ ap (λ (qs : List Packet). end_mark (length qs)) same.0,
    )

-- the place that is left behind by the rest
pub place-behind : (cs : List Channel) (bytes body rest : List ℕ) (ps : List Packet) (at : ℕ) → IsOldTable cs → bytes ≡ old_header_bytes cs ++ body
    → AreAllOld cs body ps rest → at ≡ length bytes - length rest → IsBehindOldPackets bytes at
place-behind cs bytes body rest ps at table whole all e = record {
  channels = cs;
  packets = ps;
  rest = rest;
  longest = all-longest cs bytes body rest ps table whole all;
  place = omega (
    arith,
    e,
    ap length whole,
    length-append (old_header_bytes cs) body,
    ap length all.parts,
    length-append
        (flat_map (old_packet_bytes cs) ps) rest,
  );
}

-- where it stands, the trace is read
pub all-encoded : (cs : List Channel) (bytes body rest : List ℕ) (ps : List Packet) → IsOldTable cs → bytes ≡ old_header_bytes cs ++ body
    → AreAllOld cs body ps rest → (length ps < 2 ^ 32) × (rest ≡ end_mark (length ps)) → EncodesOld (record { channels = cs; packets = ps }) bytes
all-encoded cs bytes body rest ps table whole all (few, end) = (
  record {
    table = table;
    old = λ k d lt. (all.each k d lt).1;
    well_formed = record { packets = λ k d lt. (all.each k d lt).0; alternate = epochs-alone ps (λ k d lt. (all.each k d lt).1.1) all.alternate };
    few = few;
  },
  ap (λ bs. old_header_bytes cs ++ (flat_map (old_packet_bytes cs) ps ++ bs)) (sym end) ∙ ap (λ bs. old_header_bytes cs ++ bs) (sym all.parts)
      ∙ sym whole,
)

-- ---- one way to salvage
same-salvage : (bytes : List ℕ) (t u : Trace) → SalvagesOld bytes (Ok t) → SalvagesOld bytes (Ok u) → t ≡ u
same-salvage bytes t u a b =
    let c = same-table bytes t.channels u.channels t.packets u.packets a.0 b.0 a.1.splits b.1.splits in
    let there = subst (λ (cs : List Channel). SplitsOldLongest bytes cs u.packets b.0) (sym c) b.1 in
    same_trace t u c (one-longest bytes t.channels t.packets u.packets a.0 b.0 a.1 there)

not-headed : (bytes : List ℕ) (t : Trace) → HasNoOldHeader bytes → SalvagesOld bytes (Ok t) → ⊥
not-headed bytes t none a = none t.channels (flat_map (old_packet_bytes t.channels) t.packets ++ a.0) a.1.splits.table a.1.splits.parts

pub one_old_salvage : OneOldSalvage
one_old_salvage bytes (Ok t) (Ok u) a b = inr (inr (ap (λ (v : Trace). Ok v) (same-salvage bytes t u a b)))
one_old_salvage bytes (Ok t) (Err (BadTrace at)) a b = absurd (not-headed bytes t b.0 a)
one_old_salvage bytes (Err (BadTrace at)) (Ok u) a b = absurd (not-headed bytes u a.0 b)
one_old_salvage bytes (Err (BadTrace m)) (Err (BadTrace n)) a b = inr (inr (ap (λ k. Err (BadTrace k)) (a.1 ∙ sym b.1)))
one_old_salvage bytes (Err Memory) b _ _ = inl refl
one_old_salvage bytes (Ok t) (Err Memory) _ _ = inr (inl refl)
one_old_salvage bytes (Err (BadTrace at)) (Err Memory) _ _ = inr (inl refl)

-- ---- no more packets than bytes
pub split-few : (bytes : List ℕ) (cs : List Channel) (ps : List Packet) (rest : List ℕ) → SplitsOld bytes cs ps rest
    → length ps ≤ length bytes
split-few bytes cs ps rest s = omega (
  arith,
  packets-few (old_packet_bytes cs) (λ p. omega arith) ps,
  ap length s.parts,
  length-append (old_header_bytes cs) (flat_map (old_packet_bytes cs) ps ++ rest),
  length-append (flat_map (old_packet_bytes cs) ps) rest,
)
