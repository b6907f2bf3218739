-- Starts and ends alternate in each epoch exactly where they do in each channel's story.
use Rattle.std.proofs.Common.{◌≡◌, ℕ, zero, suc, ◌+◌, ◌<◌, ◌++◌, ◌||◌, Bool, true, false, cond, List, [], ◌∷◌, take, slice_get, Some}
use Rattle.std.proofs.Common.{refl, ap, sym, subst, ◌∙◌, ⊎_elim, arith}
use Rattle.std.proofs.lemmas.Bool.{cases_Bool, cond-true, cond-false}
use Rattle.std.proofs.lemmas.Option.{same_Some}
use Rattle.trace_model.specs.vidi_bits.Number.{has}
use Rattle.trace_model.specs.declared.event.Kind.{Kind}
use Rattle.trace_model.specs.declared.event.Kind.TheVariants.{Start, End, Reset}
use Rattle.trace_model.specs.declared.packet.Packet.{Packet}
use Rattle.trace_model.specs.Epoch.{epoch}
use Rattle.trace_model.specs.Packet.{count, does}
use Rattle.trace_model.specs.Trace.{Alternates}
use Rattle.trace_model.proofs.CountingLemmas.{count-cons}
use Rattle.trace_edit.specs.Stories.{story, alternating, StoriesAlternate}

abbrev one_if : Bool → ℕ
one_if b = cond b 1 0

abbrev told : Bool → Bool → List Kind
told sb eb = cond sb (Start ∷ []) [] ++ cond eb (End ∷ []) []

-- whether something is in flight after a packet
abbrev then_flies : Bool → Bool → Bool → Bool
then_flies fly true true = false
then_flies fly true false = true
then_flies fly false true = false
then_flies fly false false = fly

-- ---- one packet's part of a story
pub record May (fly sb eb : Bool) : Type 0 where
  pub start : sb ≡ true → fly ≡ false
  pub end : eb ≡ true → (fly || sb) ≡ true

on : (fly sb eb : Bool) (more : List Kind) → May fly sb eb → alternating (then_flies fly sb eb) more ≡ true → alternating fly (told sb eb ++ more) ≡ true
on true true true more m h = absurd (let z = m.start refl in cc)
on true true false more m h = absurd (let z = m.start refl in cc)
on true false true more m h = h
on true false false more m h = h
on false true true more m h = h
on false true false more m h = h
on false false true more m h = absurd (let z = m.end refl in cc)
on false false false more m h = h

back : (fly sb eb : Bool) (more : List Kind) → alternating fly (told sb eb ++ more) ≡ true → May fly sb eb × (alternating (then_flies fly sb eb) more ≡ true)
back true true true more h = absurd cc
back true true false more h = absurd cc
back true false true more h = (record { start = λ s. absurd cc; end = λ e. refl }, h)
back true false false more h = (record { start = λ s. absurd cc; end = λ e. absurd cc }, h)
back false true true more h = (record { start = λ s. refl; end = λ e. refl }, h)
back false true false more h = (record { start = λ s. refl; end = λ e. absurd cc }, h)
back false false true more h = absurd cc
back false false false more h = (record { start = λ s. absurd cc; end = λ e. absurd cc }, h)

behind_reset : (fly : Bool) (more : List Kind) → alternating fly (Reset ∷ more) ≡ alternating false more
behind_reset true more = refl
behind_reset false more = refl

-- ---- from so many starts and ends on
pub record AltFrom (c s e : ℕ) (packets : List Packet) : Type 0 where
  pub starts : (p : ℕ) (packet : Packet) → slice_get packets p ≡ Some packet → has packet.starts c ≡ true
      → s + count Start c (take p packets) ≡ e + count End c (take p packets)
  pub ends : (p : ℕ) (packet : Packet) → slice_get packets p ≡ Some packet → has packet.ends c ≡ true
      → e + count End c (take p packets) < s + count Start c (take (suc p) packets)

flow : (fly sb eb : Bool) (s e : ℕ) → May fly sb eb → s ≡ e + one_if fly → s + one_if sb ≡ (e + one_if eb) + one_if (then_flies fly sb eb)
flow true true true s e m h = absurd (let z = m.start refl in cc)
flow true true false s e m h = absurd (let z = m.start refl in cc)
flow true false true s e m h = omega (arith, h)
flow true false false s e m h = omega (arith, h)
flow false true true s e m h = omega (arith, h)
flow false true false s e m h = omega (arith, h)
flow false false true s e m h = absurd (let z = m.end refl in cc)
flow false false false s e m h = omega (arith, h)

-- the first packet
idle : (fly : Bool) (s e : ℕ) → s ≡ e + one_if fly → s + 0 ≡ e + 0 → fly ≡ false
idle true s e h k = absurd (omega (arith, h, k))
idle false s e h k = refl

busy : (fly sb : Bool) (s e : ℕ) → s ≡ e + one_if fly → e + 0 < s + (one_if sb + 0) → (fly || sb) ≡ true
busy true sb s e h k = refl
busy false true s e h k = refl
busy false false s e h k = absurd (omega (arith, h, k))

first-count : (c : ℕ) (P : Packet) (rest : List Packet) → count Start c (take 1 (P ∷ rest)) ≡ one_if (has P.starts c) + 0
first-count c P rest = count-cons (does Start c) P []

may-first : (c s e : ℕ) (fly : Bool) (P : Packet) (rest : List Packet) → s ≡ e + one_if fly → AltFrom c s e (P ∷ rest)
    → May fly (has P.starts c) (has P.ends c)
may-first c s e fly P rest h alt = record {
  start = λ b. idle fly s e h (alt.starts 0 P refl b);
  end = λ b. busy fly (has P.starts c) s e h (subst (λ n. e + 0 < s + n) (first-count c P rest) (alt.ends 0 P refl b));
}

-- the others
rest-of : (c s e : ℕ) (P : Packet) (rest : List Packet) → AltFrom c s e (P ∷ rest)
    → AltFrom c (s + one_if (has P.starts c)) (e + one_if (has P.ends c)) rest
rest-of c s e P rest alt = record {
  starts = λ p packet at b.
      let z = alt.starts (suc p) packet at b in
      let a = count-cons (does Start c) P (take p rest) in
      let k = count-cons (does End c) P (take p rest) in omega (arith, z, a, k);
  ends = λ p packet at b.
      let z = alt.ends (suc p) packet at b in
      let a = count-cons (does Start c) P (take (suc p) rest) in
      let k = count-cons (does End c) P (take p rest) in omega (arith, z, a, k);
}

-- the first packet, and then the others
not-idle : (fly : Bool) (s e : ℕ) → s ≡ e + one_if fly → fly ≡ false → s + 0 ≡ e + 0
not-idle true s e h k = absurd cc
not-idle false s e h k = omega (arith, h)

is-busy : (fly sb : Bool) (s e : ℕ) → s ≡ e + one_if fly → (fly || sb) ≡ true → e + 0 < s + (one_if sb + 0)
is-busy true true s e h k = omega (arith, h)
is-busy true false s e h k = omega (arith, h)
is-busy false true s e h k = omega (arith, h)
is-busy false false s e h k = absurd cc

starts-of : (c s e : ℕ) (fly : Bool) (P : Packet) (rest : List Packet) → s ≡ e + one_if fly → May fly (has P.starts c) (has P.ends c)
    → AltFrom c (s + one_if (has P.starts c)) (e + one_if (has P.ends c)) rest
    → (p : ℕ) (packet : Packet) → slice_get (P ∷ rest) p ≡ Some packet → has packet.starts c ≡ true
    → s + count Start c (take p (P ∷ rest)) ≡ e + count End c (take p (P ∷ rest))
starts-of c s e fly P rest h may more zero packet at b =
    not-idle fly s e h (may.start (ap (λ (x : Packet). has x.starts c) (same_Some P packet at) ∙ b))
starts-of c s e fly P rest h may more (suc p) packet at b =
    let z = more.starts p packet at b in
    let a = count-cons (does Start c) P (take p rest) in
    let k = count-cons (does End c) P (take p rest) in omega (arith, z, a, k)

ends-of : (c s e : ℕ) (fly : Bool) (P : Packet) (rest : List Packet) → s ≡ e + one_if fly → May fly (has P.starts c) (has P.ends c)
    → AltFrom c (s + one_if (has P.starts c)) (e + one_if (has P.ends c)) rest
    → (p : ℕ) (packet : Packet) → slice_get (P ∷ rest) p ≡ Some packet → has packet.ends c ≡ true
    → e + count End c (take p (P ∷ rest)) < s + count Start c (take (suc p) (P ∷ rest))
ends-of c s e fly P rest h may more zero packet at b =
    subst (λ n. e + 0 < s + n) (sym (first-count c P rest))
    (is-busy fly (has P.starts c) s e h (may.end (ap (λ (x : Packet). has x.ends c) (same_Some P packet at) ∙ b)))
ends-of c s e fly P rest h may more (suc p) packet at b =
    let z = more.ends p packet at b in
    let a = count-cons (does Start c) P (take (suc p) rest) in
    let k = count-cons (does End c) P (take p rest) in omega (arith, z, a, k)

with-first : (c s e : ℕ) (fly : Bool) (P : Packet) (rest : List Packet) → s ≡ e + one_if fly → May fly (has P.starts c) (has P.ends c)
    → AltFrom c (s + one_if (has P.starts c)) (e + one_if (has P.ends c)) rest → AltFrom c s e (P ∷ rest)
with-first c s e fly P rest h may more = record {
  starts = starts-of c s e fly P rest h may more;
  ends = ends-of c s e fly P rest h may more;
}

nothing : (c s e : ℕ) → AltFrom c s e []
nothing c s e = record { starts = λ p packet at b. absurd cc; ends = λ p packet at b. absurd cc }

-- ---- epochs: the first from so many on, the others from none
pub record Each (c s e : ℕ) (packets : List Packet) : Type 0 where
  pub here : AltFrom c s e (epoch 0 packets)
  pub later : (k : ℕ) → AltFrom c 0 0 (epoch (suc k) packets)

each-of : (c : ℕ) (packets : List Packet) → Each c 0 0 packets → (k : ℕ) → AltFrom c 0 0 (epoch k packets)
each-of c packets each zero = each.here
each-of c packets each (suc k) = each.later k

past-reset : (c s e : ℕ) (P : Packet) (rest : List Packet) → P.reset ≡ true → Each c s e (P ∷ rest) → Each c 0 0 rest
past-reset c s e P rest y each = record {
  here = subst (AltFrom c 0 0) (cond-true P.reset (epoch 0 rest) (epoch 1 rest) y) (each.later 0);
  later = λ k. subst (AltFrom c 0 0) (cond-true P.reset (epoch (suc k) rest) (epoch (suc (suc k)) rest) y) (each.later (suc k));
}

first-of : (c s e : ℕ) (P : Packet) (rest : List Packet) → P.reset ≡ false → Each c s e (P ∷ rest) → AltFrom c s e (P ∷ epoch 0 rest)
first-of c s e P rest n each = subst (AltFrom c s e) (cond-false P.reset [] (P ∷ epoch 0 rest) n) each.here

past-packet : (c s e : ℕ) (P : Packet) (rest : List Packet) → P.reset ≡ false → Each c s e (P ∷ rest)
    → Each c (s + one_if (has P.starts c)) (e + one_if (has P.ends c)) rest
past-packet c s e P rest n each = record {
  here = rest-of c s e P (epoch 0 rest) (first-of c s e P rest n each);
  later = λ k. subst (AltFrom c 0 0) (cond-false P.reset (epoch k rest) (epoch (suc k) rest) n) (each.later k);
}

told-reset : (c : ℕ) (P : Packet) (rest : List Packet) → P.reset ≡ true → story c (P ∷ rest) ≡ Reset ∷ story c rest
told-reset c P rest y = ap (λ ks. ks ++ story c rest) (cond-true P.reset (Reset ∷ []) (told (has P.starts c) (has P.ends c)) y)

told-packet : (c : ℕ) (P : Packet) (rest : List Packet) → P.reset ≡ false → story c (P ∷ rest) ≡ told (has P.starts c) (has P.ends c) ++ story c rest
told-packet c P rest n = ap (λ ks. ks ++ story c rest) (cond-false P.reset (Reset ∷ []) (told (has P.starts c) (has P.ends c)) n)

to-story : (packets : List Packet) (c s e : ℕ) (fly : Bool) → s ≡ e + one_if fly → Each c s e packets → alternating fly (story c packets) ≡ true
to-story [] c s e fly h each = refl
to-story (P ∷ rest) c s e fly h each = ⊎_elim
    (λ (y : P.reset ≡ true). ap (alternating fly) (told-reset c P rest y) ∙ behind_reset fly (story c rest)
    ∙ to-story rest c 0 0 false refl (past-reset c s e P rest y each))
    (λ (n : P.reset ≡ false).
    let may = may-first c s e fly P (epoch 0 rest) h (first-of c s e P rest n each) in
    ap (alternating fly) (told-packet c P rest n)
    ∙ on fly (has P.starts c) (has P.ends c) (story c rest) may
    (to-story rest c (s + one_if (has P.starts c)) (e + one_if (has P.ends c)) (then_flies fly (has P.starts c) (has P.ends c))
    (flow fly (has P.starts c) (has P.ends c) s e may h) (past-packet c s e P rest n each)))
    (cases_Bool P.reset)

from-story : (packets : List Packet) (c s e : ℕ) (fly : Bool) → s ≡ e + one_if fly → alternating fly (story c packets) ≡ true → Each c s e packets
from-story [] c s e fly h alt = record { here = nothing c s e; later = λ k. nothing c 0 0 }
from-story (P ∷ rest) c s e fly h alt = ⊎_elim
    (λ (y : P.reset ≡ true).
    let more = from-story rest c 0 0 false refl (sym (ap (alternating fly) (told-reset c P rest y) ∙ behind_reset fly (story c rest)) ∙ alt) in
    reset-first y more)
    (λ (n : P.reset ≡ false).
    let sb = has P.starts c in
    let eb = has P.ends c in
    let parts = back fly sb eb (story c rest) (sym (ap (alternating fly) (told-packet c P rest n)) ∙ alt) in
    let more = from-story rest c (s + one_if sb) (e + one_if eb) (then_flies fly sb eb) (flow fly sb eb s e parts.0 h) parts.1 in
    packet-first n parts.0 more)
    (cases_Bool P.reset)
  where
    reset-first : P.reset ≡ true → Each c 0 0 rest → Each c s e (P ∷ rest)
    reset-first y more = record {
      here = subst (AltFrom c s e) (sym (cond-true P.reset [] (P ∷ epoch 0 rest) y)) (nothing c s e);
      later = λ k. subst (AltFrom c 0 0) (sym (cond-true P.reset (epoch k rest) (epoch (suc k) rest) y)) (each-of c rest more k);
    }

    packet-first : P.reset ≡ false → May fly (has P.starts c) (has P.ends c)
        → Each c (s + one_if (has P.starts c)) (e + one_if (has P.ends c)) rest → Each c s e (P ∷ rest)
    packet-first n may more = record {
      here = subst (AltFrom c s e) (sym (cond-false P.reset [] (P ∷ epoch 0 rest) n)) (with-first c s e fly P (epoch 0 rest) h may more.here);
      later = λ k. subst (AltFrom c 0 0) (sym (cond-false P.reset (epoch k rest) (epoch (suc k) rest) n)) (more.later k);
    }

from-none : (packets : List Packet) → Alternates packets → (c : ℕ) → AltFrom c 0 0 packets
from-none packets alt c = record {
  starts = λ p packet at b. let z = alt.starts p c packet at b in omega (arith, z);
  ends = λ p packet at b. let z = alt.ends p c packet at b in omega (arith, z);
}

to-all : (packets : List Packet) → ((c : ℕ) → AltFrom c 0 0 packets) → Alternates packets
to-all packets all = record {
  starts = λ p c packet at b. let z = (all c).starts p packet at b in omega (arith, z);
  ends = λ p c packet at b. let z = (all c).ends p packet at b in omega (arith, z);
}

pub stories-alternate : StoriesAlternate
stories-alternate packets = (
  (λ each c. to-story packets c 0 0 false refl (record {
    here = from-none (epoch 0 packets) (each 0) c;
    later = λ k. from-none (epoch (suc k) packets) (each (suc k)) c;
  })),
  (λ h e. to-all (epoch e packets) (λ c. each-of c packets (from-story packets c 0 0 false refl (h c)) e)),
)
