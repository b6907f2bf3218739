-- Registers, told by tests.
use Rattle.std.proofs.Common.{◌≡◌, ◌≢◌, ℕ, zero, suc, ◌+◌, ◌<◌, ◌≤◌, ◌==◌, ◌||◌, ◌↔◌, Bool, true, false, IsTrue, List, []}
use Rattle.std.proofs.Common.{length, get_or, take, ⊎_elim, refl, ap, sym, ◌∙◌, arith}
use Rattle.std.specs.Int.{bit_at}
use Rattle.std.specs.List.{list_any}
use Rattle.std.proofs.lemmas.Bool.{cases_lt, eqb-true, eq-eqb}
use Rattle.std.proofs.lemmas.List.{get_or-take, get_or_default, length-take-le}
use Rattle.std.proofs.lemmas.List.Folds.{Any-from_list_any, list_any_at, list_any_more}
use Rattle.std.proofs.lemmas.Nat.Bits.{bit_at-lt, bit_at_above}
use Rattle.net_code.proofs.vidi_bits_lemmas.Bools.{not_both}
use Rattle.net_design.proofs.LawfulCode.{width_at}
use Rattle.net_design.specs.declared.design.Register.{Register}
use Rattle.net_design.specs.declared.design.Design.{Design}
use Rattle.net_code.specs.vidi_bits.Number.{has}
use Rattle.net_design.specs.Settled.{net_width}
use Rattle.net_code.specs.declared.bit_map.BitMap.{BitMap}
use Rattle.net_code.specs.BitMap.{in_map}
use Rattle.net_lawful.specs.Frame.{IsFramed}
use Rattle.net_lawful.specs.State.{NetsDiffer}

-- ---- widths and bits

pub framed_width : (d : Design) → IsFramed d → (m : ℕ) → net_width d m ≤ 128
framed_width d framed m = width_at d.nets (λ k n l. (framed.nets k n l).0.1) m

pub no_stray : (held number : ℕ) → ((k : ℕ) → has number k ≡ true → has held k ≡ true)
    ↔ ((k : ℕ) → has held k ≡ false → bit_at number k ≡ 0)
no_stray held number = (
  (λ h k out.
      let low = bit_at-lt number k in
      ⊎_elim
      (λ (z : bit_at number k < 1). omega arith)
      (λ (o : 1 ≤ bit_at number k). let one : bit_at number k ≡ 1 = omega arith in
      absurd (not_both (has held k) (h k (eq-eqb _ _ one)) out))
      (cases_lt (bit_at number k) 1)),
  (λ h k t. outside (has held k) (λ out. let one : bit_at number k ≡ 1 = eqb-true _ _ t in let z = h k out in omega arith)),
)
  where
    outside : (b : Bool) → (b ≡ false → ⊥) → b ≡ true
    outside true h = refl
    outside false h = absurd (h refl)

-- ---- nets that differ

pub not_new : (b x : Bool) → (IsTrue b ↔ (x ≡ false)) → b ≡ false → x ≡ true
not_new b true e h = refl
not_new b false e h = absurd (not_both b (e.1 refl) h)

-- bit 0 alone
pub first_alone : (mask k : ℕ) → has mask 0 ≡ false → has 1 k ≡ true → has mask k ≡ false
first_alone mask zero h t = h
first_alone mask (suc k) h t =
    let none : bit_at 1 (suc k) ≡ 0 = bit_at_above 1 1 (suc k) (omega arith) (omega arith) in
    absurd (not_both (has 1 (suc k)) t (ap (λ n. n == 1) none))

module _ (rs : List Register) (i : ℕ) (r : Register) (here : i < length rs) (is : r ≡ get_or rs i r) (seen : BitMap)
    (so_far : (m : ℕ) → in_map seen m 0 ≡ list_any (λ (x : Register). x.net == m) (take i rs)) where
  -- the net wasn't there before
  pub differ_more : in_map seen r.net 0 ≡ false
      → ((j k : ℕ) (d : Register) → j < k → k < i → (get_or rs j d).net ≢ (get_or rs k d).net)
      → (j k : ℕ) (d : Register) → j < k → k < i + 1 → (get_or rs j d).net ≢ (get_or rs k d).net
  differ_more new each j k d before within = ⊎_elim
      (λ (l : k < i). each j k d before l)
      (λ (g : i ≤ k). λ (e : (get_or rs j d).net ≡ (get_or rs k d).net).
      let last : k ≡ i = omega (arith, g, within) in
      let front : j < i = omega (arith, before, last) in
      let at : get_or (take i rs) j d ≡ get_or rs j d = get_or-take i rs j d front in
      let here_k : get_or rs k d ≡ r = ap (λ n. get_or rs n d) last ∙ get_or_default rs i d r here ∙ sym is in
      let same : (get_or (take i rs) j d).net ≡ r.net = ap (λ (y : Register). y.net) at ∙ e ∙ ap (λ (y : Register). y.net) here_k in
      let long : length (take i rs) ≡ i = length-take-le i rs (omega (arith, here)) in
      let there : list_any (λ (x : Register). x.net == r.net) (take i rs) ≡ true =
      list_any_at (λ (x : Register). x.net == r.net) (take i rs) j d (omega (arith, front, long)) (eq-eqb _ _ same) in
      not_both (in_map seen r.net 0) (so_far r.net ∙ there) new)
      (cases_lt k i)

  -- the net was there before
  pub seen_before : in_map seen r.net 0 ≡ true → NetsDiffer rs → ⊥
  seen_before t differ =
      let found = Any-from_list_any (λ (x : Register). x.net == r.net) (take i rs) (sym (so_far r.net) ∙ t) in
      let j : ℕ = found.0 in
      let x : Register = found.1 in
      let within : j < length (take i rs) = found.2 in
      let long : length (take i rs) ≡ i = length-take-le i rs (omega arith) in
      let before : j < i = omega (arith, within, long) in
      let at : get_or rs j x ≡ x = sym (get_or-take i rs j x before) ∙ found.3 in
      let at_r : get_or rs j r ≡ x = get_or_default rs j r x (omega (arith, before, here)) ∙ at in
      let same : x.net ≡ r.net = eqb-true _ _ found.4 in
      differ j i r before here (ap (λ (y : Register). y.net) at_r ∙ same ∙ ap (λ (y : Register). y.net) is)

  pub seen_more : (new : BitMap) → ((m : ℕ) → in_map new m 0 ≡ (in_map seen m 0 || (r.net == m)))
      → (m : ℕ) → in_map new m 0 ≡ list_any (λ (x : Register). x.net == m) (take (i + 1) rs)
  seen_more new grew m =
      grew m ∙ ap (λ b. b || (r.net == m)) (so_far m)
      ∙ ap (λ (x : Register). list_any (λ (y : Register). y.net == m) (take i rs) || (x.net == m)) is
      ∙ sym (list_any_more (λ (x : Register). x.net == m) rs i r here)
