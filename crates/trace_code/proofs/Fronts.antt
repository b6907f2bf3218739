-- What is whole of a trace that was cut off.
use Rattle.std.proofs.Common.{◌≡◌, ◌⊎◌, ℕ, suc, ◌+◌, ◌-◌, ◌≤◌, List, [], ◌∷◌, ◌++◌, length, take, drop, Result, Ok, Err, inl, inr}
use Rattle.std.proofs.Common.{refl, sym, ap, subst, ◌∙◌, append_assoc, arith}
use Rattle.std.specs.List.{flat_map}
use Rattle.std.proofs.lemmas.List.{length-append, length-take, take-append-drop, take_at, take_all, length-take-le}
use Rattle.std.proofs.lemmas.List.Concat.{flat_map-append}
use Rattle.std.proofs.lemmas.List.Elements.{All-take}
use Rattle.vec_clock.specs.trace_model.declared.channel.Channel.{Channel}
use Rattle.vec_clock.specs.trace_model.declared.packet.Packet.{Packet}
use Rattle.vec_clock.specs.trace_model.declared.trace.Trace.{Trace}
use Rattle.vec_clock.specs.trace_model.Packet.{IsPacket}
use Rattle.vec_clock.proofs.trace_model_lemmas.EpochLemmas.{throughout_from, throughout-take}
use Rattle.trace_code.specs.declared.error.CodeError.{CodeError}
use Rattle.trace_code.specs.declared.error.CodeError.TheVariants.{BadTrace, Memory}
use Rattle.trace_code.specs.Encoding.{header_bytes, packet_bytes, end_mark, encode, HasEncoding}
use Rattle.trace_code.specs.Decoding.{Splits, SplitsLongest, HasNoHeader}
use Rattle.trace_code.specs.Salvage.{Salvages, OneSalvage, front, front_len, LieWhole, FrontIsSalvaged}
use Rattle.trace_code.proofs.PacketLaws.{packet_some}
use Rattle.trace_code.proofs.Readings.{apart, encoding-splits, same_trace, same-table, two-splits, one-longest}
use Rattle.trace_code.proofs.Spelled.{GoesOn, ended, packets-few}

-- ---- one way to salvage
same-salvage : (bytes : List ℕ) (t u : Trace) → Salvages bytes (Ok t) → Salvages bytes (Ok u) → t ≡ u
same-salvage bytes t u a b =
    let c = same-table bytes t.channels u.channels t.packets u.packets a.0 b.0 a.1.splits b.1.splits in
    let there = subst (λ (cs : List Channel). SplitsLongest bytes cs u.packets b.0) (sym c) b.1 in
    same_trace t u c (one-longest bytes t.channels t.packets u.packets a.0 b.0 a.1 there)

not-headed : (bytes : List ℕ) (t : Trace) → HasNoHeader bytes → Salvages bytes (Ok t) → ⊥
not-headed bytes t none a = none t.channels (flat_map (packet_bytes t.channels) t.packets ++ a.0) a.1.splits.table a.1.splits.parts

pub one_salvage : OneSalvage
one_salvage bytes (Ok t) (Ok u) a b = inr (inr (ap (λ (v : Trace). Ok v) (same-salvage bytes t u a b)))
one_salvage bytes (Ok t) (Err (BadTrace at)) a b = absurd (not-headed bytes t b.0 a)
one_salvage bytes (Err (BadTrace at)) (Ok u) a b = absurd (not-headed bytes u a.0 b)
one_salvage bytes (Err (BadTrace m)) (Err (BadTrace n)) a b = inr (inr (ap (λ k. Err (BadTrace k)) (a.1 ∙ sym b.1)))
one_salvage bytes (Err Memory) b _ _ = inl refl
one_salvage bytes (Ok t) (Err Memory) _ _ = inr (inl refl)
one_salvage bytes (Err (BadTrace at)) (Err Memory) _ _ = inr (inl refl)

-- ---- a front of an encoding

-- behind a piece that lies whole in the front, the rest of the front
take-past : (piece others : List ℕ) (k : ℕ) → take (length piece + k) (piece ++ others) ≡ piece ++ take k others
take-past [] others k = ap (λ n. take n others) (let e : 0 + k ≡ k = omega arith in e)
take-past (x ∷ piece) others k =
    ap (λ n. take n (x ∷ (piece ++ others))) (let e : suc (length piece) + k ≡ suc (length piece + k) = omega arith in e)
    ∙ ap (λ (bs : List ℕ). x ∷ bs) (take-past piece others k)

front-past : (piece others : List ℕ) (n : ℕ) → length piece ≤ n → take n (piece ++ others) ≡ piece ++ take (n - length piece) others
front-past piece others n l =
    ap (λ m. take m (piece ++ others)) (let e : n ≡ length piece + (n - length piece) = omega arith in e)
    ∙ take-past piece others (n - length piece)

-- a list that another one begins
record Begins (first all : List Packet) : Type 0 where
  within : length first ≤ length all
  is : first ≡ take (length first) all

begins : (cs : List Channel) (first all : List Packet) (rest : List ℕ) (count : ℕ)
    → GoesOn (packet_bytes cs) first all rest (end_mark count) ⊎ GoesOn (packet_bytes cs) all first (end_mark count) rest → Begins first all
begins cs first all rest count (inl g) = record {
  within = omega (arith, ap length g.whole, length-append first g.others);
  is = sym (ap (take (length first)) g.whole ∙ take_at first g.others (length first) refl);
}
begins cs first all rest count (inr g) =
    let same = (ended (packet_bytes cs) (apart cs) all first count rest g).0 in
    record {
      within = omega (arith, ap length same);
      is = same ∙ sym (take_all (length first) all (omega (arith, ap length same)));
    }

-- the split of the front is one of the encoding
front-splits : (t : Trace) (n : ℕ) (cs : List Channel) (ps : List Packet) (rest : List ℕ) → Splits (take n (encode t)) cs ps rest
    → Splits (encode t) cs ps (rest ++ drop n (encode t))
front-splits t n cs ps rest s = record {
  table = s.table;
  each = s.each;
  alternate = s.alternate;
  parts = sym (take-append-drop n (encode t)) ∙ ap (λ (bs : List ℕ). bs ++ drop n (encode t)) s.parts
      ∙ append_assoc (header_bytes cs) (flat_map (packet_bytes cs) ps ++ rest) (drop n (encode t))
      ∙ ap (λ (bs : List ℕ). header_bytes cs ++ bs) (append_assoc (flat_map (packet_bytes cs) ps) rest (drop n (encode t)));
}

-- the first j packets of t, where they lie whole in the front
piece-splits : (t : Trace) (n j : ℕ) → HasEncoding t → front_len j t ≤ n
    → (left : List ℕ) × Splits (take n (encode t)) t.channels (take j t.packets) left
piece-splits t n j has l =
    let header : List ℕ = header_bytes t.channels in
    let one : List ℕ = flat_map (packet_bytes t.channels) (take j t.packets) in
    let two : List ℕ = flat_map (packet_bytes t.channels) (drop j t.packets) in
    let end : List ℕ = end_mark (length t.packets) in
    let long : length (header ++ one) ≡ front_len j t = length-append header one in
    let packets : flat_map (packet_bytes t.channels) t.packets ≡ one ++ two =
    ap (flat_map (packet_bytes t.channels)) (sym (take-append-drop j t.packets))
    ∙ flat_map-append (packet_bytes t.channels) (take j t.packets) (drop j t.packets) in
    let whole : encode t ≡ (header ++ one) ++ (two ++ end) =
    ap (λ (bs : List ℕ). header ++ (bs ++ end)) packets
    ∙ ap (λ (bs : List ℕ). header ++ bs) (append_assoc one two end) ∙ sym (append_assoc header one (two ++ end)) in
    let left : List ℕ = take (n - length (header ++ one)) (two ++ end) in (
      left,
      record {
        table = has.table;
        each = All-take (IsPacket t.channels) j t.packets has.well_formed.packets;
        alternate = throughout-take j t.packets (throughout_from t.packets has.well_formed.alternate);
        parts = ap (take n) whole ∙ front-past (header ++ one) (two ++ end) n (omega (arith, long, l)) ∙ append_assoc header one left;
      },
    )

abbrev salvaged : Trace → Result Trace CodeError
salvaged t = Ok t

salvaged-front : (t u : Trace) (n : ℕ) → HasEncoding t → Salvages (take n (encode t)) (Ok u)
    → (k : ℕ) × LieWhole t n k × (salvaged u ≡ salvaged (front k t))
salvaged-front t u n has (rest, longest) =
    let bytes : List ℕ = take n (encode t) in
    let there = encoding-splits t (encode t) (has, refl) in
    let mine = front-splits t n u.channels u.packets rest longest.splits in
    let c = same-table (encode t) u.channels t.channels u.packets t.packets (rest ++ drop n (encode t)) (end_mark (length t.packets)) mine
    there in
    let moved = subst (λ (cs : List Channel). Splits (encode t) cs u.packets (rest ++ drop n (encode t))) c mine in
    let here = subst (λ (cs : List Channel). SplitsLongest bytes cs u.packets rest) c longest in
    let b = begins t.channels u.packets t.packets (rest ++ drop n (encode t)) (length t.packets)
    (two-splits (encode t) t.channels u.packets t.packets (rest ++ drop n (encode t)) (end_mark (length t.packets)) moved there) in
    let k : ℕ = length u.packets in
    let bytes-long = ap length here.splits.parts in
    let parts-long = length-append (header_bytes t.channels) (flat_map (packet_bytes t.channels) u.packets ++ rest) in
    let packets-long = length-append (flat_map (packet_bytes t.channels) u.packets) rest in
    let packets-same = ap (λ (ps : List Packet). length (flat_map (packet_bytes t.channels) ps)) b.is in (
      k,
      record {
        there = b.within;
        whole = omega (arith, length-take n (encode t), bytes-long, parts-long, packets-long, packets-same);
        most = λ j within l.
            let piece = piece-splits t n j has l in
            omega (arith, here.most (take j t.packets) piece.0 piece.1, length-take-le j t.packets within);
      },
      ap salvaged (same_trace u (front k t) c b.is),
    )

pub front_is_salvaged : FrontIsSalvaged
front_is_salvaged t n (Ok u) has l a = inr (salvaged-front t u n has a)
front_is_salvaged t n (Err (BadTrace at)) has l a =
    let tail : List ℕ = flat_map (packet_bytes t.channels) t.packets ++ end_mark (length t.packets) in
    absurd (a.0 t.channels (take (n - length (header_bytes t.channels)) tail) has.table (front-past (header_bytes t.channels) tail n l))
front_is_salvaged t n (Err Memory) has l a = inl refl

-- ---- no more packets than bytes
pub split-few : (bytes : List ℕ) (cs : List Channel) (ps : List Packet) (rest : List ℕ) → Splits bytes cs ps rest
    → length ps ≤ length bytes
split-few bytes cs ps rest s = omega (
  arith,
  packets-few (packet_bytes cs) (λ p. omega (arith, packet_some cs p)) ps,
  ap length s.parts,
  length-append (header_bytes cs) (flat_map (packet_bytes cs) ps ++ rest),
  length-append (flat_map (packet_bytes cs) ps) rest,
)
