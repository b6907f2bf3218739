-- The places of a channel's events, and what is known of them.
use Rattle.std.proofs.Common.{◌≡◌, ℕ, ◌+◌, ◌<◌, ◌≤◌, Bool, true, false, cond, List, [], ◌∷◌, ◌++◌, length, get_or}
use Rattle.std.proofs.Common.{drop, map, All, refl, sym}
use Rattle.std.proofs.Common.{ap, subst, ◌∙◌, append_assoc, arith}
use Rattle.std.specs.Prelude.{count_by}
use Rattle.std.specs.List.{enumerate_from}
use Rattle.std.proofs.lemmas.List.{drop_more, drop_all, get_or_default, append-nil, length-map}
use Rattle.std.proofs.lemmas.List.Elements.{All-filter, All-map}
use Rattle.std.proofs.lemmas.List.FromFn.{length-enumerate_from, get_or-enumerate_from}
use Rattle.std.proofs.lemmas.List.Sums.{length-filter, count_by-le-length}
use Rattle.vec_clock.specs.trace_model.declared.event.Kind.{Kind}
use Rattle.vec_clock.specs.trace_model.declared.packet.Packet.{Packet}
use Rattle.vec_clock.specs.trace_model.Packet.{does, count}
use Rattle.vec_clock.proofs.trace_model_lemmas.CountingLemmas.{count-cons}
use Rattle.trace_compare.specs.Findings.{events_from}
use Rattle.trace_compare.specs.Walking.{places}

abbrev pub place : ℕ × Packet → ℕ
place e = e.0

-- ---- a walk over the packets
events-here : (kind : Kind) (c : ℕ) (packets : List Packet) (p : ℕ) (packet : Packet) → p < length packets
    → packet ≡ get_or packets p packet → events_from kind c p (drop p packets)
    ≡ cond (does kind c packet) ((p, packet) ∷ events_from kind c (p + 1) (drop (p + 1) packets))
    (events_from kind c (p + 1) (drop (p + 1) packets))
events-here kind c packets p packet l e =
    ap (events_from kind c p) (drop_more packets p packet l ∙ ap (λ (x : Packet). x ∷ drop (p + 1) packets) (sym e))

grouped : (b : Bool) (e : ℕ × Packet) (others : List (ℕ × Packet)) → map place (cond b (e ∷ others) others)
    ≡ cond b (e.0 ∷ []) [] ++ map place others
grouped true e others = refl
grouped false e others = refl

-- one packet more
pub places-on : (kind : Kind) (c : ℕ) (packets : List Packet) (p : ℕ) (packet : Packet) (front new all : List ℕ) → p < length packets
    → packet ≡ get_or packets p packet → front ++ map place (events_from kind c p (drop p packets)) ≡ all
    → new ≡ front ++ cond (does kind c packet) (p ∷ []) [] → new ++ map place (events_from kind c (p + 1) (drop (p + 1) packets)) ≡ all
places-on kind c packets p packet front new all l e so_far push =
    let others = events_from kind c (p + 1) (drop (p + 1) packets) in
    ap (λ (xs : List ℕ). xs ++ map place others) push
    ∙ append_assoc front (cond (does kind c packet) (p ∷ []) []) (map place others)
    ∙ ap (λ (xs : List ℕ). front ++ xs) (sym (grouped (does kind c packet) (p, packet) others))
    ∙ ap (λ (es : List (ℕ × Packet)). front ++ map place es) (sym (events-here kind c packets p packet l e)) ∙ so_far

-- and behind all packets
pub places-done : (kind : Kind) (c : ℕ) (packets : List Packet) (p : ℕ) (front all : List ℕ) → length packets ≤ p
    → front ++ map place (events_from kind c p (drop p packets)) ≡ all → front ≡ all
places-done kind c packets p front all l so_far =
    sym (append-nil front)
    ∙ ap (λ (xs : List Packet). front ++ map place (events_from kind c p xs)) (sym (drop_all p packets l)) ∙ so_far

-- ---- what is known of an event
pub record IsEvent (packets : List Packet) (e : ℕ × Packet) : Type 0 where
  pub within : e.0 < length packets
  pub at : (d : Packet) → get_or packets e.0 d ≡ e.1

numbered : (packets : List Packet) (k : ℕ) (d : Packet) → k < length packets → IsEvent packets (0 + k, get_or packets k d)
numbered packets k d l = record {
  within = omega (arith, l);
  at = λ x. ap (λ n. get_or packets n x) (let e : 0 + k ≡ k = omega arith in e)
      ∙ get_or_default packets k x d l;
}

pub events-known : (kind : Kind) (c : ℕ) (packets : List Packet) → All (IsEvent packets) (events_from kind c 0 packets)
events-known kind c packets =
    All-filter (λ (x : ℕ × Packet). does kind c x.1) (IsEvent packets) (enumerate_from 0 packets) (λ k d l.
    let within : k < length packets = omega (arith, l, length-enumerate_from 0 packets) in
    subst (IsEvent packets) (sym (get_or-enumerate_from 0 packets k d within)) (numbered packets k d.1 within))

pub places-within : (kind : Kind) (c : ℕ) (packets : List Packet) → All (λ p. p < length packets) (places kind c packets)
places-within kind c packets =
    All-map (λ p. p < length packets) place (events_from kind c 0 packets) (λ k d l. (events-known kind c packets k d l).within)

-- ---- how many they are
counted : (test : Packet → Bool) (n : ℕ) (packets : List Packet) → count_by (λ (x : ℕ × Packet). test x.1) (enumerate_from n packets)
    ≡ count_by test packets
counted test n [] = refl
counted test n (packet ∷ packets) =
    count-cons (λ (x : ℕ × Packet). test x.1) (n, packet) (enumerate_from (n + 1) packets)
    ∙ ap (λ m. cond (test packet) 1 0 + m) (counted test (n + 1) packets) ∙ sym (count-cons test packet packets)

pub places-counted : (kind : Kind) (c : ℕ) (packets : List Packet) → length (places kind c packets) ≡ count kind c packets
places-counted kind c packets =
    length-map (events_from kind c 0 packets) place
    ∙ length-filter (λ (x : ℕ × Packet). does kind c x.1) (enumerate_from 0 packets) ∙ counted (does kind c) 0 packets

pub places-few : (kind : Kind) (c : ℕ) (packets : List Packet) → length (places kind c packets) ≤ length packets
places-few kind c packets = omega (arith, places-counted kind c packets, count_by-le-length (does kind c) packets)

pub within-of : (kind : Kind) (c : ℕ) (packets : List Packet) (is : List ℕ) → is ≡ places kind c packets
    → All (λ p. p < length packets) is
within-of kind c packets is e = subst (All (λ p. p < length packets)) (sym e) (places-within kind c packets)
