-- Going on by a packet.
use Rattle.std.proofs.Common.{◌≡◌, ◌≢◌, ℕ, suc, ◌+◌, ◌-◌, ◌^◌, ◌<◌, ◌≤◌, Bool, true, false, cond, List, [], ◌∷◌, ◌++◌, Some, length, get_or}
use Rattle.std.proofs.Common.{take, drop, slice_get, replicate, map, sum_by, eqb, ⊎_elim, refl, sym, ap, subst, ◌∙◌, add-one, arith}
use Rattle.std.specs.Prelude.{◌↔◌}
use Rattle.std.specs.List.{enumerate_from}
use Rattle.std.specs.Int.{bit_at}
use Rattle.std.proofs.Math.Seq.{drop-append_seam, drop-drop}
use Rattle.std.proofs.lemmas.Bool.{cases_Bool, cases_lt, eq-eqb, eqb-true, false≢true}
use Rattle.std.proofs.lemmas.List.{length-append, length-drop, length-map, length-take-le, take_all}
use Rattle.std.proofs.lemmas.Option.{same_Some}
use Rattle.std.proofs.lemmas.List.Sums.{sum_by-cons}
use Rattle.vec_clock.specs.trace_model.declared.channel.Channel.{Channel}
use Rattle.vec_clock.specs.trace_model.declared.event.Kind.{Kind}
use Rattle.vec_clock.specs.trace_model.declared.event.Kind.TheVariants.{Start, End, Reset}
use Rattle.vec_clock.proofs.trace_model_lemmas.TraceLaws.{reset-is}
use Rattle.vec_clock.specs.trace_model.declared.packet.Packet.{Packet}
use Rattle.vec_clock.specs.trace_model.declared.trace.Trace.{Trace}
use Rattle.vec_clock.specs.trace_model.Channel.{content_bytes}
use Rattle.vec_clock.specs.trace_model.Epoch.{resets, since_reset}
use Rattle.vec_clock.specs.vidi_bits.Number.{has}
use Rattle.vec_clock.specs.trace_model.Counting.{IsNth}
use Rattle.vec_clock.specs.trace_model.Length.{head_len, mask_len, contents_len, sizes_under}
use Rattle.vec_clock.specs.trace_model.Packet.{widths_under, does, count}
use Rattle.vec_clock.proofs.trace_model_lemmas.CountingLemmas.{count-suc_no, nth-unique, nth-below, nth-count, take-suc_get}
use Rattle.trace_code.specs.Encoding.{number_bytes, HasEncoding}
use Rattle.trace_code.proofs.RowBytes.{contents_len-widths, contents-least}
use Rattle.trace_code.specs.Counted.{Counted, counts_of}
use Rattle.trace_code.specs.Heads.{front_len, heads, AreOf, IsHead}
use Rattle.trace_code.specs.Standing.{IsAt, StandsAt, bytes_from}
use Rattle.trace_code.proofs.Counts.{after-reset, after-row, before-all, clock-at, clock-length, clock-small, epoch-small}
use Rattle.trace_code.proofs.Here.{Here, here, at-end, contents-long}

-- ---- the sizes are the channels' content bytes
sizes-from : (mask n : ℕ) (cs : List Channel) → sum_by (λ (d : ℕ × ℕ). cond (has mask d.0) d.1 0) (enumerate_from n (map content_bytes cs))
    ≡ sum_by (λ (c : ℕ × Channel). cond (has mask c.0) (content_bytes c.1) 0) (enumerate_from n cs)
sizes-from mask n [] = refl
sizes-from mask n (c ∷ cs) =
    sum_by-cons (λ (d : ℕ × ℕ). cond (has mask d.0) d.1 0) (n, content_bytes c) (enumerate_from (n + 1) (map content_bytes cs))
    ∙ ap (λ k. cond (has mask n) (content_bytes c) 0 + k) (sizes-from mask (n + 1) cs)
    ∙ sym (sum_by-cons (λ (d : ℕ × Channel). cond (has mask d.0) (content_bytes d.1) 0) (n, c) (enumerate_from (n + 1) cs))

pub sizes-len : (mask : ℕ) (cs : List Channel) (sizes : List ℕ) → sizes ≡ map content_bytes cs → sizes_under mask sizes ≡ contents_len mask cs
sizes-len mask cs sizes e = ap (sizes_under mask) e ∙ sizes-from mask 0 cs

pub sizes-long : (t : Trace) (sizes : List ℕ) → sizes ≡ map content_bytes t.channels → length sizes ≡ length t.channels
sizes-long t sizes e = ap length e ∙ length-map t.channels content_bytes

-- the packet that stands there, of as many channels as there are sizes
pub here-by : (t : Trace) (p : ℕ) (sizes rest : List ℕ) (counts : Counted) → IsAt t p sizes rest counts → p < length t.packets
    → Here t p (length sizes) rest
here-by t p sizes rest counts at l =
    subst (λ n. Here t p n rest) (sym (sizes-long t sizes at.sizes_are)) (here t p sizes rest counts at l)

-- ---- the head as it is read
pub record Read (t : Trace) (p : ℕ) (sizes rest : List ℕ) (reset : Bool) (starts ends : ℕ) (contents : List ℕ) : Type 0 where
  pub here_is : Here t p (length sizes) rest
  pub reset_is : reset ≡ here_is.packet.reset
  pub starts_is : starts ≡ here_is.packet.starts
  pub ends_is : ends ≡ here_is.packet.ends
  pub contents_is : contents ≡ drop (front_len (length sizes) reset) rest

-- the byte with which a packet begins
abbrev tag_of : Bool → ℕ
tag_of reset = cond reset 2 1

same-tag : (a b : Bool) → tag_of a ≡ tag_of b → a ≡ b
same-tag true true e = refl
same-tag true false e = absurd (omega (arith, e))
same-tag false true e = absurd (omega (arith, e))
same-tag false false e = refl

masks-of : (t : Trace) (p n : ℕ) (rest : List ℕ) (h : Here t p n rest) (reset : Bool) (starts ends : ℕ) → reset ≡ h.packet.reset
    → AreOf n reset starts ends (drop 3 rest) → (starts ≡ h.packet.starts) × (ends ≡ h.packet.ends)
masks-of t p n rest h true starts ends e are =
    let same = reset-is t.channels h.packet h.lawful (sym e) in
    (are.0 ∙ ap (λ (q : Packet). q.starts) same, are.1 ∙ ap (λ (q : Packet). q.ends) same)
masks-of t p n rest h false starts ends e are = (are.starts_are ∙ h.starts (sym e), are.ends_are ∙ h.ends (sym e))

-- the head of the packet that stands there
pub head-read : (t : Trace) (p : ℕ) (sizes rest : List ℕ) (counts : Counted) (reset : Bool) (starts ends : ℕ) (contents : List ℕ)
    → IsAt t p sizes rest counts → p < length t.packets → IsHead (length sizes) reset starts ends rest
    → contents ≡ drop (front_len (length sizes) reset) rest → Read t p sizes rest reset starts ends contents
head-read t p sizes rest counts reset starts ends contents at l is c =
    let h = here-by t p sizes rest counts at l in
    let r = same-tag reset h.packet.reset (sym is.tag ∙ h.tag) in
    let masks = masks-of t p (length sizes) rest h reset starts ends r is.masks in
    record { here_is = h; reset_is = r; starts_is = masks.0; ends_is = masks.1; contents_is = c }

-- ---- one packet further
pub clock-long : (t : Trace) (p : ℕ) (sizes rest : List ℕ) (counts : Counted) → IsAt t p sizes rest counts
    → length counts.clock ≡ length t.channels
clock-long t p sizes rest counts at =
    ap (λ (k : Counted). length k.clock) at.counts_are ∙ clock-length (length t.channels) (take p t.packets)

pub small-counts : (t : Trace) (p : ℕ) (sizes rest : List ℕ) (counts : Counted) → IsAt t p sizes rest counts → p < length t.packets
    → (c : ℕ) → c < length counts.clock → get_or counts.clock c 0 < 2 ^ 32 - 1
small-counts t p sizes rest counts at l c k =
    let n = length t.channels in
    let few = at.encoding.few in
    let long = clock-long t p sizes rest counts at in
    let same = ap (λ (x : Counted). get_or x.clock c 0) at.counts_are in
    let small = clock-small n (take p t.packets) c (omega (arith, long, k)) in
    let front = length-take-le p t.packets at.within in
    omega (arith, few, l, same, small, front)

pub small-epoch : (t : Trace) (p : ℕ) (sizes rest : List ℕ) (counts : Counted) → IsAt t p sizes rest counts → p < length t.packets
    → counts.epoch < 2 ^ 32 - 1
small-epoch t p sizes rest counts at l =
    let few = at.encoding.few in
    let same = ap (λ (x : Counted). x.epoch) at.counts_are in
    let small = epoch-small (take p t.packets) in
    let front = length-take-le p t.packets at.within in
    omega (arith, few, l, same, small, front)

numbers-long : (t : Trace) (p : ℕ) (sizes rest : List ℕ) (h : Here t p (length sizes) rest) → sizes ≡ map content_bytes t.channels
    → (starts : ℕ) → starts ≡ h.packet.starts
    → sizes_under starts sizes ≡ length (number_bytes (widths_under h.packet.starts t.channels) h.packet.contents)
numbers-long t p sizes rest h are starts s =
    ap (λ k. sizes_under k sizes) s ∙ sizes-len h.packet.starts t.channels sizes are ∙ sym (contents-long t p (length sizes) rest h)

-- what follows the head: the contents, and the packets behind this one
pub behind-front : (t : Trace) (p : ℕ) (sizes rest : List ℕ) (reset : Bool) (starts ends : ℕ) (contents : List ℕ)
    → (r : Read t p sizes rest reset starts ends contents) → drop (front_len (length sizes) reset) rest
    ≡ number_bytes (widths_under r.here_is.packet.starts t.channels) r.here_is.packet.contents ++ bytes_from t (suc p)
behind-front t p sizes rest reset starts ends contents r =
    ap (λ b. drop (front_len (length sizes) b) rest) r.reset_is ∙ r.here_is.contents

-- the packet is there whole
pub packet-within : (t : Trace) (p : ℕ) (sizes rest : List ℕ) (counts : Counted) (reset : Bool) (starts ends : ℕ) (contents : List ℕ)
    → IsAt t p sizes rest counts → Read t p sizes rest reset starts ends contents
    → front_len (length sizes) reset + sizes_under starts sizes ≤ length rest
packet-within t p sizes rest counts reset starts ends contents at r =
    let h = r.here_is in
    let numbers = number_bytes (widths_under h.packet.starts t.channels) h.packet.contents in
    let front = front_len (length sizes) reset in
    let long = h.long in
    let same : front ≡ front_len (length sizes) h.packet.reset = ap (front_len (length sizes)) r.reset_is in
    let size : sizes_under starts sizes ≡ length numbers = numbers-long t p sizes rest h at.sizes_are starts r.starts_is in
    let parts = ap length (behind-front t p sizes rest reset starts ends contents r) in
    omega (arith, long, same, size, parts, length-drop front rest, length-append numbers (bytes_from t (suc p)))

-- the counts behind the packet
pub counts-on : (t : Trace) (p : ℕ) (sizes rest : List ℕ) (counts new : Counted) (reset : Bool) (starts ends : ℕ) (contents : List ℕ)
    → IsAt t p sizes rest counts → Read t p sizes rest reset starts ends contents → length new.clock ≡ length counts.clock
    → (reset ≡ true → new.clock ≡ replicate (length counts.clock) 0)
    → (reset ≡ false → (c : ℕ) → c < length counts.clock → get_or new.clock c 0 ≡ get_or counts.clock c 0 + bit_at ends c)
    → new.epoch ≡ counts.epoch + cond reset 1 0 → new ≡ counts_of (length t.channels) (take (p + 1) t.packets)
counts-on t p sizes rest counts new reset starts ends contents at r long zeros each epoch =
    let n = length t.channels in
    let x = r.here_is.packet in
    let was = clock-long t p sizes rest counts at in
    let before = ap (λ (k : Counted). k.epoch) at.counts_are in
    let more : take p t.packets ++ x ∷ [] ≡ take (p + 1) t.packets =
    sym (take-suc_get t.packets p x r.here_is.at) ∙ ap (λ k. take k t.packets) (sym (add-one p)) in
    subst (λ (ps : List Packet). new ≡ counts_of n ps) more (⊎_elim
    (λ (h : reset ≡ true).
    let e = epoch ∙ ap (λ b. counts.epoch + cond b 1 0) h in
    after-reset n (take p t.packets) x new (sym r.reset_is ∙ h) (zeros h ∙ ap (λ k. replicate k 0) was) (omega (arith, e, before)))
    (λ (h : reset ≡ false).
    let e = epoch ∙ ap (λ b. counts.epoch + cond b 1 0) h in
    after-row n (take p t.packets) x new (sym r.reset_is ∙ h) (long ∙ was)
    (λ c k. each h c (omega (arith, was, k)) ∙ ap (λ b. get_or counts.clock c 0 + bit_at b c) r.ends_is
    ∙ ap (λ (q : Counted). get_or q.clock c 0 + bit_at x.ends c) at.counts_are)
    (omega (arith, e, before)))
    (cases_Bool reset))

pub goes-on : (t : Trace) (p : ℕ) (sizes rest : List ℕ) (counts new : Counted) (after : List ℕ) (reset : Bool) (starts ends : ℕ)
    (contents : List ℕ) → IsAt t p sizes rest counts → p < length t.packets → Read t p sizes rest reset starts ends contents
    → after ≡ drop (front_len (length sizes) reset + sizes_under starts sizes) rest
    → new ≡ counts_of (length t.channels) (take (p + 1) t.packets) → IsAt t (p + 1) sizes after new
goes-on t p sizes rest counts new after reset starts ends contents at l r a n =
    let h = r.here_is in
    let numbers = number_bytes (widths_under h.packet.starts t.channels) h.packet.contents in
    let front = front_len (length sizes) reset in
    let size : sizes_under starts sizes ≡ length numbers = numbers-long t p sizes rest h at.sizes_are starts r.starts_is in
    record {
      encoding = at.encoding;
      sizes_are = at.sizes_are;
      within = omega (arith, l);
      parts = a ∙ sym (drop-drop (sizes_under starts sizes) front rest)
          ∙ ap (drop (sizes_under starts sizes)) (behind-front t p sizes rest reset starts ends contents r)
          ∙ ap (λ k. drop k (numbers ++ bytes_from t (suc p))) size
          ∙ drop-append_seam numbers (bytes_from t (suc p)) ∙ ap (bytes_from t) (sym (add-one p));
      counts_are = n;
    }

-- ---- the search for an event
pub count-stays : (t : Trace) (p : ℕ) (kind : Kind) (c : ℕ) (packet : Packet) → slice_get t.packets p ≡ Some packet → does kind c packet ≡ false
    → count kind c (take (p + 1) t.packets) ≡ count kind c (take p t.packets)
count-stays t p kind c packet at misses = ap (λ k. count kind c (take k t.packets)) (add-one p) ∙ count-suc_no (does kind c) t.packets p packet at misses

-- ---- where a cursor stands
pub over-if : (t : Trace) (kind : Kind) (c j : ℕ) (sizes rest : List ℕ) (counts : Counted) {reset : Bool} {starts ends : ℕ}
    (s : StandsAt t kind c j sizes rest counts reset starts ends)
    → length t.packets ≤ s.place → count kind c t.packets ≤ j
over-if t kind c j sizes rest counts s l =
    omega (arith, s.before, ap (count kind c) (take_all s.place t.packets l))

pub over-only : (t : Trace) (kind : Kind) (c j : ℕ) (sizes rest : List ℕ) (counts : Counted) {reset : Bool} {starts ends : ℕ}
    (s : StandsAt t kind c j sizes rest counts reset starts ends)
    → count kind c t.packets ≤ j → length t.packets ≤ s.place
over-only t kind c j sizes rest counts s l = ⊎_elim
    (λ (k : s.place < length t.packets). let e = s.next k in let b = nth-below (does kind c) t.packets j s.place e.0 e.1 in absurd (omega (arith, b, l)))
    (λ (k : length t.packets ≤ s.place). k)
    (cases_lt s.place (length t.packets))

-- the packet at which it stands is the one of its next event
pub place-is : (t : Trace) (kind : Kind) (c j : ℕ) (sizes rest : List ℕ) (counts : Counted) {reset : Bool} {starts ends : ℕ}
    (s : StandsAt t kind c j sizes rest counts reset starts ends) (p : ℕ) (packet : Packet)
    → IsNth (does kind c) t.packets j p packet → s.place ≡ p
place-is t kind c j sizes rest counts s p packet is = ⊎_elim
    (λ (k : s.place < length t.packets). let e = s.next k in (nth-unique (does kind c) t.packets j s.place p e.0 packet e.1 is).0)
    (λ (k : length t.packets ≤ s.place).
    let b = nth-below (does kind c) t.packets j p packet is in
    let o = over-if t kind c j sizes rest counts s k in absurd (omega (arith, b, o)))
    (cases_lt s.place (length t.packets))

-- ---- what the code needs of a packet at the front
pub few-bytes : (t : Trace) (p : ℕ) (sizes rest : List ℕ) (counts : Counted) → IsAt t p sizes rest counts → mask_len (length sizes) ≤ 16
few-bytes t p sizes rest counts at =
    let few = at.encoding.table.few in
    let long = sizes-long t sizes at.sizes_are in
    omega arith

pub small-contents : (t : Trace) (p : ℕ) (sizes rest : List ℕ) (counts : Counted) → IsAt t p sizes rest counts → (starts : ℕ)
    → sizes_under starts sizes < 2 ^ 32
small-contents t p sizes rest counts at starts =
    let most = at.encoding.table.content in
    let a = sizes-len starts t.channels sizes at.sizes_are in
    let b = contents_len-widths starts t.channels in
    let d = contents-least starts t.channels in
    omega arith

-- ---- the end
no-zero : (b : Bool) → tag_of b ≡ 0 → ⊥
no-zero true e = omega (arith, e)
no-zero false e = omega (arith, e)

pub tag-tells : (t : Trace) (p : ℕ) (sizes rest : List ℕ) (counts : Counted) → IsAt t p sizes rest counts
    → (eqb (get_or rest 0 0) 0 ≡ true) ↔ (length t.packets ≤ p)
tag-tells t p sizes rest counts at = (
  λ (e : eqb (get_or rest 0 0) 0 ≡ true). ⊎_elim
      (λ (l : p < length t.packets).
      let z = eqb-true (get_or rest 0 0) 0 e in
      let h = here t p sizes rest counts at l in
      absurd (no-zero h.packet.reset (sym h.tag ∙ z)))
      (λ (l : length t.packets ≤ p). l)
      (cases_lt p (length t.packets)),
  λ (l : length t.packets ≤ p). eq-eqb (get_or rest 0 0) 0 (ap (λ (bs : List ℕ). get_or bs 0 0) (at-end t p sizes rest counts at l)),
)

pub before-end : (t : Trace) (p : ℕ) (r : Bool) → r ≡ false → ((r ≡ true) ↔ (length t.packets ≤ p)) → p < length t.packets
before-end t p r f says = ⊎_elim (λ (l : p < length t.packets). l)
    (λ (l : length t.packets ≤ p). absurd (false≢true (sym f ∙ says.1 l)))
    (cases_lt p (length t.packets))

-- ---- where the search ends
pub stands-there : (t : Trace) (kind : Kind) (c j p : ℕ) (sizes rest : List ℕ) (counts : Counted) (reset : Bool) (starts ends : ℕ) → IsAt t p sizes rest counts
    → count kind c (take p t.packets) ≡ j → (packet : Packet) → slice_get t.packets p ≡ Some packet → does kind c packet ≡ true
    → IsHead (length sizes) reset starts ends rest → StandsAt t kind c j sizes rest counts reset starts ends
stands-there t kind c j p sizes rest counts reset starts ends at before packet there passes head = record {
  place = p;
  at = at;
  before = before;
  next = λ _. (packet, record { at = there; passes = passes; before = before });
  head = λ _. head;
}

pub stands-over : (t : Trace) (kind : Kind) (c j p : ℕ) (sizes rest : List ℕ) (counts : Counted) (reset : Bool) (starts ends : ℕ) → IsAt t p sizes rest counts
    → count kind c (take p t.packets) ≡ j → length t.packets ≤ p → StandsAt t kind c j sizes rest counts reset starts ends
stands-over t kind c j p sizes rest counts reset starts ends at before l = record {
  place = p;
  at = at;
  before = before;
  next = λ k. absurd (omega (arith, k, l));
  head = λ k. absurd (omega (arith, k, l));
}

-- behind the packet of event j stand j + 1 events
pub behind : (t : Trace) (kind : Kind) (c j : ℕ) (sizes rest : List ℕ) (counts : Counted) {reset : Bool} {starts ends : ℕ}
    (s : StandsAt t kind c j sizes rest counts reset starts ends)
    → (l : s.place < length t.packets) → count kind c (take (s.place + 1) t.packets) ≡ j + 1
behind t kind c j sizes rest counts s l =
    let e = s.next l in
    ap (λ k. count kind c (take k t.packets)) (add-one s.place) ∙ nth-count (does kind c) t.packets j s.place e.0 e.1 ∙ sym (add-one j)

pub not-over : (t : Trace) (kind : Kind) (c j : ℕ) (sizes rest : List ℕ) (counts : Counted) {reset : Bool} {starts ends : ℕ}
    (s : StandsAt t kind c j sizes rest counts reset starts ends)
    → j < count kind c t.packets → s.place < length t.packets
not-over t kind c j sizes rest counts s l = ⊎_elim
    (λ (k : s.place < length t.packets). k)
    (λ (k : length t.packets ≤ s.place). let o = over-if t kind c j sizes rest counts s k in absurd (omega (arith, o, l)))
    (cases_lt s.place (length t.packets))

-- ---- the next event's clock
pub need-is : (t : Trace) (kind : Kind) (c j : ℕ) (sizes rest : List ℕ) (counts : Counted) {reset : Bool} {starts ends : ℕ}
    (s : StandsAt t kind c j sizes rest counts reset starts ends) (d p : ℕ) (packet : Packet) → d < length t.channels
    → IsNth (does kind c) t.packets j p packet → get_or counts.clock d 0 ≡ count End d (since_reset (take p t.packets))
need-is t kind c j sizes rest counts s d p packet l is =
    ap (λ (k : Counted). get_or k.clock d 0) s.at.counts_are ∙ clock-at (length t.channels) (take s.place t.packets) d l
    ∙ ap (λ k. count End d (since_reset (take k t.packets))) (place-is t kind c j sizes rest counts s p packet is)

pub epoch-is : (t : Trace) (kind : Kind) (c j : ℕ) (sizes rest : List ℕ) (counts : Counted) {reset : Bool} {starts ends : ℕ}
    (s : StandsAt t kind c j sizes rest counts reset starts ends) (p : ℕ) (packet : Packet)
    → IsNth (does kind c) t.packets j p packet → counts.epoch ≡ resets (take p t.packets)
epoch-is t kind c j sizes rest counts s p packet is =
    ap (λ (k : Counted). k.epoch) s.at.counts_are
    ∙ ap (λ k. resets (take k t.packets)) (place-is t kind c j sizes rest counts s p packet is)

-- an event of the packet
pub event-is : (t : Trace) (p : ℕ) (sizes rest : List ℕ) (reset : Bool) (starts ends : ℕ) (contents : List ℕ)
    → Read t p sizes rest reset starts ends contents → (kind : Kind) (c : ℕ) (packet : Packet) → slice_get t.packets p ≡ Some packet
    → heads kind c reset starts ends ≡ does kind c packet
event-is t p sizes rest reset starts ends contents r Start c packet there =
    ap (λ m. has m c) r.starts_is ∙ ap (λ (q : Packet). has q.starts c) (same_Some r.here_is.packet packet (sym r.here_is.at ∙ there))
event-is t p sizes rest reset starts ends contents r End c packet there =
    ap (λ m. has m c) r.ends_is ∙ ap (λ (q : Packet). has q.ends c) (same_Some r.here_is.packet packet (sym r.here_is.at ∙ there))
event-is t p sizes rest reset starts ends contents r Reset c packet there =
    r.reset_is ∙ ap (λ (q : Packet). q.reset) (same_Some r.here_is.packet packet (sym r.here_is.at ∙ there))

front-some : (n : ℕ) (reset : Bool) → 3 ≤ front_len n reset
front-some n true = omega arith
front-some n false = omega arith

pub shorter : (t : Trace) (p : ℕ) (sizes rest : List ℕ) (reset : Bool) (starts ends : ℕ) (contents after : List ℕ) (size : ℕ)
    → Read t p sizes rest reset starts ends contents → after ≡ drop (front_len (length sizes) reset + size) rest
    → length after < length rest
shorter t p sizes rest reset starts ends contents after size r a =
    let front = front_len (length sizes) reset in
    let long = r.here_is.long in
    let same : front ≡ front_len (length sizes) r.here_is.packet.reset = ap (front_len (length sizes)) r.reset_is in
    let some = front-some (length sizes) reset in
    omega (arith, ap length a, length-drop (front + size) rest, long, same, some)

-- the length and the byte of the packet that stands there
pub some-there : (t : Trace) (p : ℕ) (sizes rest : List ℕ) (counts : Counted) → IsAt t p sizes rest counts → p < length t.packets
    → 0 < length rest
some-there t p sizes rest counts at l =
    let h = here-by t p sizes rest counts at l in
    let long = h.long in
    let some = front-some (length sizes) h.packet.reset in
    omega (arith, long, some)

row-told : (n m x : ℕ) (reset : Bool) → x ≡ tag_of reset → front_len n reset ≤ m → x ≢ 2 → (x ≡ 1) × (head_len n ≤ m)
row-told n m x true tag long other = absurd (other tag)
row-told n m x false tag long other = (tag, long)

pub row-there : (t : Trace) (p : ℕ) (sizes rest : List ℕ) (counts : Counted) → IsAt t p sizes rest counts → p < length t.packets
    → get_or rest 0 0 ≢ 2 → (get_or rest 0 0 ≡ 1) × (head_len (length sizes) ≤ length rest)
row-there t p sizes rest counts at l other =
    let h = here-by t p sizes rest counts at l in
    row-told (length sizes) (length rest) (get_or rest 0 0) h.packet.reset h.tag h.long other

-- ---- at the first packet
pub first-at : (t : Trace) (channels : List Channel) (sizes rest : List ℕ) (counts : Counted) → HasEncoding t → t.channels ≡ channels
    → rest ≡ bytes_from t 0 → sizes ≡ map content_bytes channels → counts.clock ≡ replicate (length channels) 0 → counts.epoch ≡ 0
    → IsAt t 0 sizes rest counts
first-at t channels sizes rest counts has same r s k e = record {
  encoding = has;
  sizes_are = s ∙ ap (λ (cs : List Channel). map content_bytes cs) (sym same);
  within = omega arith;
  parts = r;
  counts_are = before-all (length t.channels) counts (k ∙ ap (λ (cs : List Channel). replicate (length cs) 0) (sym same)) e;
}

-- the packet's masks name its channels
pub ends-below : (t : Trace) (p : ℕ) (sizes rest : List ℕ) (reset : Bool) (starts ends : ℕ) (contents : List ℕ)
    → Read t p sizes rest reset starts ends contents → (n : ℕ) → n ≡ length t.channels → ends < 2 ^ n
ends-below t p sizes rest reset starts ends contents r n long =
    subst (λ k. ends < 2 ^ k) (sym long) (subst (λ e. e < 2 ^ length t.channels) (sym r.ends_is) r.here_is.lawful.ends)

-- the next packet has the same head
pub stands-next : (t : Trace) (kind : Kind) (c j : ℕ) (sizes rest : List ℕ) (counts : Counted) {reset : Bool} {starts ends : ℕ}
    (s : StandsAt t kind c j sizes rest counts reset starts ends) → s.place < length t.packets → (after : List ℕ) (new : Counted)
    → IsAt t (s.place + 1) sizes after new → IsHead (length sizes) reset starts ends after
    → StandsAt t kind c (j + 1) sizes after new reset starts ends
stands-next t kind c j sizes rest counts {reset} {starts} {ends} s l after new at head =
    let here = s.next l in
    let old = head-read t s.place sizes rest counts reset starts ends _ s.at l (s.head l) refl in
    let named = event-is t s.place sizes rest reset starts ends _ old kind c here.0 here.1.at ∙ here.1.passes in
    let before = behind t kind c j sizes rest counts s l in
    record {
      place = s.place + 1;
      at = at;
      before = before;
      next = λ k.
          (let r = head-read t (s.place + 1) sizes after new reset starts ends _ at k head refl in
          let event = event-is t (s.place + 1) sizes after reset starts ends _ r kind c r.here_is.packet r.here_is.at in
          (r.here_is.packet, record { at = r.here_is.at; passes = sym event ∙ named; before = before }));
      head = λ _. head;
    }
