-- Clocks that are carried along, and the first packets that cover.
use Rattle.std.proofs.Common.{◌≡◌, ℕ, ◌+◌, ◌-◌, ◌^◌, ◌<◌, ◌≤◌, Bool, false, List, [], ◌∷◌, ◌++◌, length, get_or}
use Rattle.std.proofs.Common.{⊎_elim, refl, sym, ap, subst}
use Rattle.std.proofs.Common.{◌∙◌, arith}
use Rattle.std.specs.Prelude.{◌↔◌, IsTrue}
use Rattle.std.specs.Int.{bit_at}
use Rattle.std.proofs.lemmas.Bool.{cases_lt, false≢true}
use Rattle.std.proofs.lemmas.List.{get_or_at, get_or_append_left, length-append}
use Rattle.std.proofs.lemmas.Option.{slice_get_read}
use Rattle.vec_clock.specs.trace_model.declared.event.Kind.TheVariants.{End}
use Rattle.vec_clock.specs.trace_model.declared.packet.Packet.{Packet}
use Rattle.vec_clock.specs.trace_model.Packet.{does}
use Rattle.vec_clock.specs.trace_model.Clock.{clock, Covers}
use Rattle.vec_clock.proofs.trace_model_lemmas.CountingLemmas.{count-mono}
use Rattle.vec_clock.specs.Counts.{clock_counts}
use Rattle.vec_clock.proofs.Counting.{counts-at, counts-long, counts-on, counts-small}
use Rattle.trace_compare.specs.Walking.{IsCovering, AreCovering}

-- ---- a clock goes on
pub clock-small : (n : ℕ) (packets : List Packet) (at : ℕ) (mine : List ℕ) → mine ≡ clock_counts n packets at → at < length packets
    → length packets < 2 ^ 32 → (c : ℕ) → c < length mine → get_or mine c 0 < 2 ^ 32 - 1
clock-small n packets at mine is within few c l =
    let here : get_or mine c 0 ≡ get_or (clock_counts n packets at) c 0 = ap (λ (xs : List ℕ). get_or xs c 0) is in
    omega (arith, here, counts-small n packets at c (omega (arith, within)) (omega (arith, l, counts-long n packets at mine is)))

pub clock-on : (n : ℕ) (packets : List Packet) (at : ℕ) (packet : Packet) (mine new : List ℕ) → mine ≡ clock_counts n packets at
    → at < length packets → packet ≡ get_or packets at packet → length new ≡ length mine
    → ((c : ℕ) → c < length mine → get_or new c 0 ≡ get_or mine c 0 + bit_at packet.ends c) → new ≡ clock_counts n packets (at + 1)
clock-on n packets at packet mine new is within there same each =
    let long : length mine ≡ n = counts-long n packets at mine is in
    counts-on n packets at packet new (slice_get_read packets (length packets) at packet refl within there) (same ∙ long) (λ c l.
    each c (omega (arith, l, long)) ∙ ap (λ (xs : List ℕ). get_or xs c 0 + bit_at packet.ends c) is)

-- ---- what `covers` says of it
pub covers-clock : (n : ℕ) (packets : List Packet) (q : ℕ) (mine theirs : List ℕ) (r : Bool) → mine ≡ clock_counts n packets q
    → (IsTrue r ↔ Covers (length mine) (λ d. get_or mine d 0) (λ d. get_or theirs d 0))
    → IsTrue r ↔ Covers n (clock packets q) (λ d. get_or theirs d 0)
covers-clock n packets q mine theirs r is says =
    let long : length mine ≡ n = counts-long n packets q mine is in
    let at : (d : ℕ) → d < n → get_or mine d 0 ≡ clock packets q d = λ d l. ap (λ (xs : List ℕ). get_or xs d 0) is
    ∙ counts-at n packets q d l in (
      (λ t d l. omega (arith, says.0 t d (omega (arith, l, long)), at d l)),
      (λ covers. says.1 (λ d l.
          let below : d < n = omega (arith, l, long) in
          omega (arith, covers d below, at d below))),
    )

-- none of these packets covers the other clock
abbrev pub NoneCovers : ℕ → List Packet → (ℕ → ℕ) → ℕ → ℕ → Type 0
NoneCovers n packets other from upto = (q : ℕ) → from ≤ q → q < upto → ¬ Covers n (clock packets q) other

pub none-on : (n : ℕ) (packets : List Packet) (other : ℕ → ℕ) (from at : ℕ) (r : Bool) → r ≡ false
    → (IsTrue r ↔ Covers n (clock packets at) other) → NoneCovers n packets other from at → NoneCovers n packets other from (at + 1)
none-on n packets other from at r short says none q l below = ⊎_elim
    (λ (less : q < at). none q l less)
    (λ (more : at ≤ q).
    let here : q ≡ at = omega arith in
    λ (covers : Covers n (clock packets q) other). false≢true (sym short
    ∙ says.1 (subst (λ k. Covers n (clock packets k) other) here covers)))
    (cases_lt q at)

-- ---- the walk
pub record Covered (n : ℕ) (a b : List Packet) (p place : ℕ) (places : List ℕ) : Type 0 where
  pub long : length places ≡ p
  pub each : (i : ℕ) → i < p → IsCovering n a b i (get_or places i 0)
  pub behind : (q : ℕ) → q < place → ¬ Covers n (clock b q) (clock a p)

clock-grows : (packets : List Packet) (p q d : ℕ) → p ≤ q → clock packets p d ≤ clock packets q d
clock-grows packets p q d l = count-mono (does End d) packets p q l

pub covered-none : (n : ℕ) (a b : List Packet) (places : List ℕ) → length places ≡ 0 → Covered n a b 0 0 places
covered-none n a b places none = record {
  long = none;
  each = λ i l. absurd (omega (arith, l));
  behind = λ q l. absurd (omega (arith, l));
}

pub covered-on : (n : ℕ) (a b : List Packet) (p from place : ℕ) (mine places new : List ℕ) → Covered n a b p from places
    → mine ≡ clock_counts n a p → NoneCovers (length mine) b (λ d. get_or mine d 0) from place
    → (place < length b → Covers (length mine) (clock b place) (λ d. get_or mine d 0)) → new ≡ places ++ place ∷ []
    → Covered n a b (p + 1) place new
covered-on n a b p from place mine places new so_far is none covers push =
    let long : length mine ≡ n = counts-long n a p mine is in
    let at : (d : ℕ) → d < n → get_or mine d 0 ≡ clock a p d = λ d l. ap (λ (xs : List ℕ). get_or xs d 0) is ∙ counts-at n a p d l in
    let before : (q : ℕ) → q < place → ¬ Covers n (clock b q) (clock a p) = λ q l. ⊎_elim
    (λ (less : q < from). so_far.behind q less)
    (λ (more : from ≤ q). λ (c : Covers n (clock b q) (clock a p)). none q more l (λ d m.
    let below : d < n = omega (arith, m, long) in
    omega (arith, c d below, at d below)))
    (cases_lt q from) in
    let last : IsCovering n a b p place = record {
      before = before;
      from = λ q l within d m. omega (
        arith,
        covers (omega (arith, l, within)) d (omega (arith, m, long)),
        at d m,
        clock-grows b place q d l,
      );
    } in
    record {
      long = omega (arith, ap length push, length-append places (place ∷ []), so_far.long);
      each = λ i l. subst (λ (xs : List ℕ). IsCovering n a b i (get_or xs i 0)) (sym push) (⊎_elim
          (λ (less : i < p). subst (λ k. IsCovering n a b i k) (sym (get_or_append_left places (place ∷ []) 0 i
          (omega (arith, less, so_far.long)))) (so_far.each i less))
          (λ (more : p ≤ i).
          let here : p ≡ i = omega arith in
          subst (λ k. IsCovering n a b i k) (sym (get_or_at places place [] 0 i (omega (arith, so_far.long, here))))
          (subst (λ k. IsCovering n a b k place) here last))
          (cases_lt i p));
      behind = λ q l c. before q l (λ d m. omega (arith, c d m, clock-grows a p (p + 1) d (omega arith)));
    }

pub covered-all : (n : ℕ) (a b : List Packet) (p place : ℕ) (places : List ℕ) → Covered n a b p place places → p ≡ length a
    → AreCovering n a b places
covered-all n a b p place places c e = record {
  long = c.long ∙ e;
  each = λ i l. c.each i (omega (arith, l, e));
}
