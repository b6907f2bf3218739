-- Masks of spans, and names of bits that are counted.
use Rattle.std.proofs.Common.{◌≡◌, ℕ, ◌+◌, ◌-◌, ◌^◌, ◌<◌, ◌≤◌, min, ◌==◌, ◌&&◌, nat_le, nat_lt, cond, Bool, true, false}
use Rattle.std.proofs.Common.{List, [], ◌∷◌, ⊎_elim, refl, ap, sym, ◌∙◌, arith}
use Rattle.std.specs.Borrow.{Bor}
use Rattle.std.specs.List.{count_by}
use Rattle.std.proofs.lemmas.Bool.{cases_lt, leb-true, le-leb, ltb-true, lt-ltb, false_from_ne_true}
use Rattle.std.proofs.lemmas.List.Sums.{sum_by-cons}
use Rattle.std.proofs.lemmas.Nat.Bits.{bit_at-zero, bit_at_ones}
use Rattle.net_code.proofs.vidi_bits_lemmas.Bools.{same_test}
use Rattle.net_code.proofs.vidi_bits_lemmas.BitLemmas.{bit_at-put_below, bit_at-put_inside, bit_at-put_above}
use Rattle.net_code.specs.vidi_bits.Number.{has, put_of}
use Rattle.net_design.specs.declared.act.Place.{Place}
use Rattle.net_design.specs.Bits.{place_writes}
use Rattle.net_code.proofs.MaskLaws.{has_zero}
use Rattle.net_code.specs.Targets.{plain_places, bit_count}

-- ---- masks of spans

pub no_width : (low w k : ℕ) → w ≡ 0 → has 0 k ≡ (nat_le low k && nat_lt k (low + w))
no_width low w k e =
    has_zero k ∙ sym (false_from_ne_true (nat_le low k && nat_lt k (low + w)) (λ t. ends (nat_le low k) (nat_lt k (low + w)) t refl refl))
  where
    ends : (a b : Bool) → (a && b) ≡ true → a ≡ nat_le low k → b ≡ nat_lt k (low + w) → ⊥
    ends true true h p q =
        let from : low ≤ k = leb-true low k (sym p) in
        let to : k < low + w = ltb-true k (low + w) (sym q) in
        absurd (omega (arith, e, from, to))
    ends true false h p q = absurd (cc)
    ends false b h p q = absurd (cc)

pub wide_span : (low w k : ℕ) → k < 128 → has (put_of 0 low w (2 ^ w - 1)) k ≡ (nat_le low k && nat_lt k (low + w))
wide_span low w k l = ⊎_elim
    (λ (below : k < low).
    let out : nat_le low k ≡ false = false_from_ne_true _ (λ t. let h : low ≤ k = leb-true _ _ t in omega arith) in
    ap (λ n. n == 1) (bit_at-put_below 0 low w (2 ^ w - 1) k l below ∙ bit_at-zero k)
    ∙ sym (ap (λ b. b && nat_lt k (low + w)) out))
    (λ (from : low ≤ k). ⊎_elim
    (λ (inside : k < low + w).
    ap (λ n. n == 1) (bit_at-put_inside 0 low w (2 ^ w - 1) k l from inside ∙ bit_at_ones w (k - low) (omega arith))
    ∙ sym (ap (λ b. b && nat_lt k (low + w)) (le-leb low k from) ∙ lt-ltb k (low + w) inside))
    (λ (above : low + w ≤ k).
    let out : nat_lt k (low + w) ≡ false = false_from_ne_true _ (λ t. let h : k < low + w = ltb-true _ _ t in omega arith) in
    ap (λ n. n == 1) (bit_at-put_above 0 low w (2 ^ w - 1) k l above ∙ bit_at-zero k)
    ∙ sym (ap (λ b. b && nat_lt k (low + w)) (le-leb low k from) ∙ out))
    (cases_lt k (low + w)))
    (cases_lt k low)

pub capped_span : (low w n k : ℕ) → k < 128 → n ≡ min w 128
    → (nat_le low k && nat_lt k (low + n)) ≡ (nat_le low k && nat_lt k (low + w))
capped_span low w n k l e = ap (λ b. nat_le low k && b) (same_test (nat_lt k (low + n)) (nat_lt k (low + w))
    (λ t. lt-ltb k (low + w) (let h : k < low + n = ltb-true k (low + n) t in omega (arith, h, e)))
    (λ t. lt-ltb k (low + n) (let h : k < low + w = ltb-true k (low + w) t in omega (arith, h, e, l))))

-- places with and without pointers
abbrev pub lent_count : List (Bor Place) → ℕ → ℕ → ℕ
lent_count places m k = count_by (λ (p : Bor Place). place_writes p.now m k) places

pub lent_counted : (places : List (Bor Place)) (m k : ℕ) → lent_count places m k ≡ bit_count (plain_places places) m k
lent_counted [] m k = refl
lent_counted (p ∷ places) m k =
    sum_by-cons (λ (x : Bor Place). cond (place_writes x.now m k) 1 0) p places
    ∙ ap (λ n. cond (place_writes p.now m k) 1 0 + n) (lent_counted places m k)
    ∙ sym (sum_by-cons (λ (x : Place). cond (place_writes x m k) 1 0) p.now (plain_places places))
