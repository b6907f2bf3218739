-- Cursors that stand at one packet.
use Rattle.std.proofs.Common.{◌≡◌, ℕ, zero, suc, ◌<◌, ◌≤◌, Bool, List, [], ◌∷◌, length, drop, ⊎_elim, ap, sym, subst, ◌∙◌, arith}
use Rattle.std.specs.List.{flat_map}
use Rattle.std.proofs.lemmas.Bool.{cases_lt}
use Rattle.std.proofs.lemmas.List.{length-append}
use Rattle.std.proofs.lemmas.Option.{same_Some}
use Rattle.vec_clock.specs.trace_model.declared.channel.Channel.{Channel}
use Rattle.vec_clock.specs.trace_model.declared.event.Kind.{Kind}
use Rattle.vec_clock.specs.trace_model.declared.packet.Packet.{Packet}
use Rattle.vec_clock.specs.trace_model.declared.trace.Trace.{Trace}
use Rattle.vec_clock.specs.trace_model.Counting.{IsNth}
use Rattle.vec_clock.specs.trace_model.Packet.{does}
use Rattle.vec_clock.proofs.trace_model_lemmas.CountingLemmas.{nth-within}
use Rattle.trace_code.specs.Encoding.{packet_bytes, end_mark}
use Rattle.trace_code.specs.Counted.{Counted}
use Rattle.trace_code.specs.Standing.{StandsAt, bytes_from}
use Rattle.trace_code.proofs.PacketLaws.{packet_some}
use Rattle.trace_code.proofs.Walking.{place-is}

-- the packets from one on
most : (cs : List Channel) (ps : List Packet) (q : ℕ) → length (flat_map (packet_bytes cs) (drop q ps)) ≤ length (flat_map (packet_bytes cs) ps)
most cs [] zero = omega arith
most cs [] (suc q) = omega arith
most cs (p ∷ ps) zero = omega arith
most cs (p ∷ ps) (suc q) =
    let l = most cs ps q in
    let e = length-append (packet_bytes cs p) (flat_map (packet_bytes cs) ps) in
    omega (arith, l, e)

fewer : (cs : List Channel) (ps : List Packet) (p q : ℕ) → p < q → q ≤ length ps
    → length (flat_map (packet_bytes cs) (drop q ps)) < length (flat_map (packet_bytes cs) (drop p ps))
fewer cs [] p q l m = absurd (omega (arith, l, m))
fewer cs (x ∷ ps) zero zero l m = absurd (omega (arith, l))
fewer cs (x ∷ ps) (suc p) zero l m = absurd (omega (arith, l))
fewer cs (x ∷ ps) zero (suc q) l m =
    let k = most cs ps q in
    let e = length-append (packet_bytes cs x) (flat_map (packet_bytes cs) ps) in
    let some = packet_some cs x in
    omega (arith, k, e, some)
fewer cs (x ∷ ps) (suc p) (suc q) l m = fewer cs ps p q (omega (arith, l)) (omega (arith, m))

bytes-fewer : (t : Trace) (p q : ℕ) → p < q → q ≤ length t.packets → length (bytes_from t q) < length (bytes_from t p)
bytes-fewer t p q l m =
    let k = fewer t.channels t.packets p q l m in
    let mark = end_mark (length t.packets) in
    let a = length-append (flat_map (packet_bytes t.channels) (drop p t.packets)) mark in
    let b = length-append (flat_map (packet_bytes t.channels) (drop q t.packets)) mark in
    omega (arith, k, a, b)

-- bytes that are as many begin at one packet
one-place : (t : Trace) (p q : ℕ) → p ≤ length t.packets → q ≤ length t.packets → length (bytes_from t p) ≡ length (bytes_from t q) → p ≡ q
one-place t p q k l e = ⊎_elim
    (λ (a : p < q). let f = bytes-fewer t p q a l in absurd (omega (arith, e, f)))
    (λ (a : q ≤ p). ⊎_elim
    (λ (b : q < p). let f = bytes-fewer t q p b k in absurd (omega (arith, e, f)))
    (λ (b : p ≤ q). omega (arith, a, b))
    (cases_lt q p))
    (cases_lt p q)

-- the other's event is in packet p where as many bytes are left
pub beside : (t : Trace) (kind other : Kind) (c d i j : ℕ) (sizes rest : List ℕ) (counts : Counted) (sizes2 rest2 : List ℕ)
    (counts2 : Counted) {reset reset2 : Bool} {starts ends starts2 ends2 : ℕ}
    (s : StandsAt t kind c i sizes rest counts reset starts ends) (u : StandsAt t other d j sizes2 rest2 counts2 reset2 starts2 ends2) (p : ℕ) (packet : Packet)
    → IsNth (does kind c) t.packets i p packet → length rest ≡ length rest2 → IsNth (does other d) t.packets j p packet
beside t kind other c d i j sizes rest counts sizes2 rest2 counts2 s u p packet is e =
    let here = place-is t kind c i sizes rest counts s p packet is in
    let l = nth-within (does kind c) t.packets i p packet is in
    let same : u.place ≡ p =
    sym (one-place t s.place u.place s.at.within u.at.within (sym (ap length s.at.parts) ∙ e ∙ ap length u.at.parts)) ∙ here in
    let next = u.next (omega (arith, same, l)) in
    let at = subst (λ k. IsNth (does other d) t.packets j k next.0) same next.1 in
    subst (λ (x : Packet). IsNth (does other d) t.packets j p x) (same_Some next.0 packet (sym at.at ∙ is.at)) at

pub not-beside : (t : Trace) (kind other : Kind) (c d i j : ℕ) (sizes rest : List ℕ) (counts : Counted) (sizes2 rest2 : List ℕ)
    (counts2 : Counted) {reset reset2 : Bool} {starts ends starts2 ends2 : ℕ}
    (s : StandsAt t kind c i sizes rest counts reset starts ends) (u : StandsAt t other d j sizes2 rest2 counts2 reset2 starts2 ends2) (p : ℕ) (packet : Packet)
    → IsNth (does kind c) t.packets i p packet → IsNth (does other d) t.packets j p packet → length rest ≡ length rest2
not-beside t kind other c d i j sizes rest counts sizes2 rest2 counts2 s u p packet is too =
    let here = place-is t kind c i sizes rest counts s p packet is in
    let there = place-is t other d j sizes2 rest2 counts2 u p packet too in
    ap length s.at.parts ∙ ap (λ k. length (bytes_from t k)) (here ∙ sym there) ∙ sym (ap length u.at.parts)
