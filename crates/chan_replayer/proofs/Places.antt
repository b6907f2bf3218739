-- The places of channels: which are free, and a channel that is given another.
use Rattle.std.proofs.Common.{◌≡◌, ◌≢◌, ◌⊎◌, ℕ, zero, suc, ◌*◌, ◌%◌, ◌^◌, ◌<◌, ◌≤◌, true, false, List, length, get_or, set, inl, inr, refl, ap, sym, ◌∙◌, arith, ⊎_elim}
use Rattle.std.specs.Int.{bit_at}
use Rattle.std.proofs.lemmas.Bool.{cases_Bool, cases_eq, cases_lt, false≢true}
use Rattle.std.proofs.lemmas.List.{length-set, get_or-set_same, get_or-set_other}
use Rattle.std.proofs.lemmas.Nat.Bits.{bit_at-pow_same, bit_at-pow_other}
use Rattle.vec_clock.specs.vidi_bits.Number.{has}
use Rattle.vec_clock.proofs.vidi_bits_lemmas.BitLemmas.{bit_at-mod, bit_at-mod_above, fits_by_bits, hasn't-from-bit}
use Rattle.vec_clock.proofs.trace_model_lemmas.MaskLemmas.{has-from-bit, no-bit-from-has, some-bit}
use Rattle.chan_monitor.proofs.run_model_lemmas.Contents.{same-masks}
use Rattle.chan_replayer.specs.Needs.{AreUsers}
use Rattle.chan_replayer.proofs.Pigeons.{not-all}

-- ---- the mask of one channel
pub one-bit : (c d : ℕ) → c < 128 → d ≡ c → has (1 * 2 ^ c % 2 ^ 128) d ≡ true
one-bit c d l e =
    let one : 1 * 2 ^ c ≡ 2 ^ c = omega arith in
    has-from-bit (1 * 2 ^ c % 2 ^ 128) d (ap (bit_at (1 * 2 ^ c % 2 ^ 128)) e ∙ bit_at-mod (1 * 2 ^ c) 128 c l ∙ ap (λ m. bit_at m c) one
    ∙ bit_at-pow_same c)

pub one-bit_other : (c d : ℕ) → d ≢ c → has (1 * 2 ^ c % 2 ^ 128) d ≡ false
one-bit_other c d ne =
    let one : 1 * 2 ^ c ≡ 2 ^ c = omega arith in
    hasn't-from-bit (1 * 2 ^ c % 2 ^ 128) d (⊎_elim
    (λ (l : d < 128). bit_at-mod (1 * 2 ^ c) 128 d l ∙ ap (λ m. bit_at m d) one ∙ bit_at-pow_other c d ne)
    (λ (l : 128 ≤ d). bit_at-mod_above (1 * 2 ^ c) 128 d l)
    (cases_lt d 128))

-- ---- a free place
module _ (places users : List ℕ) (are : AreUsers places users) where
  -- a place names channels that are there
  pub users-small : (p : ℕ) → p < length places → get_or users p 0 < 2 ^ 128
  users-small p l = fits_by_bits (get_or users p 0) 128 (λ k above. ⊎_elim
      (λ (up : has (get_or users p 0) k ≡ true).
      absurd (let b = (are.each p k l).0 up in let few = are.few in let here = b.0 in omega (arith, here, few, above)))
      (λ (down : has (get_or users p 0) k ≡ false). no-bit-from-has (get_or users p 0) k down)
      (cases_Bool (has (get_or users p 0) k)))

  free-or-none : (n : ℕ) → ((p : ℕ) × (p < n) × (get_or users p 0 ≡ 0)) ⊎ ((p : ℕ) → p < n → get_or users p 0 ≢ 0)
  free-or-none zero = inr (λ p l. absurd (omega (arith, l)))
  free-or-none (suc n) = ⊎_elim {C = ((p : ℕ) × (p < suc n) × (get_or users p 0 ≡ 0)) ⊎ ((p : ℕ) → p < suc n → get_or users p 0 ≢ 0)}
      (λ (free : get_or users n 0 ≡ 0). inl (n, omega arith, free))
      (λ (full : get_or users n 0 ≡ 0 → ⊥). ⊎_elim {C = ((p : ℕ) × (p < suc n) × (get_or users p 0 ≡ 0)) ⊎ ((p : ℕ) → p < suc n → get_or users p 0 ≢ 0)}
      (λ (f : (p : ℕ) × (p < n) × (get_or users p 0 ≡ 0)). inl (f.0, let l = f.1 in omega (arith, l), f.2))
      (λ (none : (p : ℕ) → p < n → get_or users p 0 ≢ 0). inr (λ p l e. ⊎_elim
      (λ (at : p ≡ n). full (ap (λ i. get_or users i 0) (sym at) ∙ e))
      (λ (off : p ≡ n → ⊥). none p (omega (arith, off, l)) e)
      (cases_eq p n)))
      (free-or-none n))
      (cases_eq (get_or users n 0) 0)

  another-or-none : (c place n : ℕ) → ((d : ℕ) × (d < n) × (d ≢ c) × (get_or places d 0 ≡ place)) ⊎ ((d : ℕ) → d < n → d ≢ c → get_or places d 0 ≢ place)
  another-or-none c place zero = inr (λ d l. absurd (omega (arith, l)))
  another-or-none c place (suc n) = ⊎_elim {C = ((d : ℕ) × (d < suc n) × (d ≢ c) × (get_or places d 0 ≡ place)) ⊎ ((d : ℕ) → d < suc n → d ≢ c → get_or places d 0 ≢ place)}
      (λ (f : (d : ℕ) × (d < n) × (d ≢ c) × (get_or places d 0 ≡ place)). inl (f.0, let l = f.1 in omega (arith, l), f.2, f.3))
      (λ (none : (d : ℕ) → d < n → d ≢ c → get_or places d 0 ≢ place). last none (cases_eq n c) (cases_eq (get_or places n 0) place))
      (another-or-none c place n)
    where
      last : ((d : ℕ) → d < n → d ≢ c → get_or places d 0 ≢ place) → (n ≡ c) ⊎ (n ≢ c) → (get_or places n 0 ≡ place) ⊎ (get_or places n 0 ≢ place)
          → ((d : ℕ) × (d < suc n) × (d ≢ c) × (get_or places d 0 ≡ place)) ⊎ ((d : ℕ) → d < suc n → d ≢ c → get_or places d 0 ≢ place)
      last none (inr off) (inl here) = inl (n, omega arith, off, here)
      last none (inl own) at = inr (λ d l ne e. none d (omega (arith, l, ne, own)) ne e)
      last none (inr off) (inr away) = inr (λ d l ne e. ⊎_elim
          (λ (is : d ≡ n). away (ap (λ i. get_or places i 0) (sym is) ∙ e))
          (λ (isn't : d ≡ n → ⊥). none d (omega (arith, l, isn't)) ne e)
          (cases_eq d n))

  -- no place is free: then none is two channels'
  alone-then : (c : ℕ) → c < length places → ((p : ℕ) → p < length places → get_or users p 0 ≢ 0) → (d : ℕ) → d < length places → d ≢ c
      → get_or places d 0 ≢ get_or places c 0
  alone-then c lc full d ld ne e = not-all (length places) c d (λ k. get_or places k 0) lc ld ne e (λ p l.
      (let some = some-bit (get_or users p 0) (users-small p l) (full p l) in
      let is = (are.each p some.0 l).0 (has-from-bit (get_or users p 0) some.0 some.1) in
      (some.0, is.0, is.1)))

  mask-then : (c : ℕ) → c < length places → ((d : ℕ) → d < length places → d ≢ c → get_or places d 0 ≢ get_or places c 0)
      → get_or users (get_or places c 0) 0 ≡ 1 * 2 ^ c % 2 ^ 128
  mask-then c lc alone = same-masks (get_or users (get_or places c 0) 0) (1 * 2 ^ c % 2 ^ 128) (λ d. ⊎_elim
      (λ (e : d ≡ c). ap (has (get_or users (get_or places c 0) 0)) e ∙ (are.each (get_or places c 0) c (are.within c lc)).1 (lc, refl)
      ∙ sym (one-bit c d (let few = are.few in omega (arith, lc, few)) e))
      (λ (ne : d ≡ c → ⊥). ⊎_elim
      (λ (up : has (get_or users (get_or places c 0) 0) d ≡ true).
      absurd (let is = (are.each (get_or places c 0) d (are.within c lc)).0 up in alone d is.0 ne is.1))
      (λ (down : has (get_or users (get_or places c 0) 0) d ≡ false). down ∙ sym (one-bit_other c d ne))
      (cases_Bool (has (get_or users (get_or places c 0) 0) d)))
      (cases_eq d c))

  -- where a channel isn't alone at its place, there is a free one
  pub free-there : (c : ℕ) → c < length places → get_or users (get_or places c 0) 0 ≢ 1 * 2 ^ c % 2 ^ 128
      → (p : ℕ) × (p < length users) × (get_or users p 0 ≡ 0)
  free-there c lc more = ⊎_elim {C = (p : ℕ) × (p < length users) × (get_or users p 0 ≡ 0)}
      (λ (f : (p : ℕ) × (p < length places) × (get_or users p 0 ≡ 0)). (f.0, let l = f.1 in let m = are.many in omega (arith, l, m), f.2))
      (λ (none : (p : ℕ) → p < length places → get_or users p 0 ≢ 0). absurd (more (mask-then c lc (alone-then c lc none))))
      (free-or-none (length places))

  -- a place that is another's alone, or nobody's, is no other's
  pub alone-by_mask : (c place d : ℕ) → place < length places → get_or users place 0 ≡ 1 * 2 ^ c % 2 ^ 128 → d < length places → d ≢ c
      → get_or places d 0 ≢ place
  alone-by_mask c place d lp mask ld ne e =
      false≢true (sym (one-bit_other c d ne) ∙ ap (λ m. has m d) (sym mask) ∙ (are.each place d lp).1 (ld, e))

  pub alone-when_free : (place d : ℕ) → place < length places → get_or users place 0 ≡ 0 → d < length places → get_or places d 0 ≢ place
  alone-when_free place d lp free ld e =
      let up = (are.each place d lp).1 (ld, e) in
      false≢true (sym (hasn't-from-bit 0 d (omega arith)) ∙ ap (λ m. has m d) (sym free) ∙ up)

-- each channel at a place of its own
pub users-own : (n : ℕ) (places users : List ℕ) → n ≤ 128 → length places ≡ n → length users ≡ n
    → ((p : ℕ) → p < n → get_or places p 0 ≡ p) → ((p : ℕ) → p < n → get_or users p 0 ≡ 1 * 2 ^ p % 2 ^ 128) → AreUsers places users
users-own n places users few long many own mask = record {
  few = omega (arith, few, long);
  within = λ c l. (let o = own c (omega (arith, l, long)) in omega (arith, o, l));
  many = omega (arith, long, many);
  each = λ p c l. ⊎_elim
      (λ (e : c ≡ p). (
        λ up. (omega (arith, e, l), own c (omega (arith, e, l, long)) ∙ e),
        λ is. ap (λ m. has m c) (mask p (omega (arith, l, long))) ∙ one-bit p c (omega (arith, l, long, few)) e,
      ))
      (λ (ne : c ≡ p → ⊥). (
        λ up. absurd (false≢true (sym (one-bit_other p c ne) ∙ ap (λ m. has m c) (sym (mask p (omega (arith, l, long)))) ∙ up)),
        λ is. absurd (ne (sym (own c (let m = is.0 in omega (arith, m, long))) ∙ is.1)),
      ))
      (cases_eq c p);
}

-- ---- another place
-- `left` is the mask of the place that channel c leaves, and `joined` that of the place to which it comes
module _ (places users : List ℕ) (c place left joined : ℕ) (are : AreUsers places users) (channel : c < length places) (there : place < length places)
    (left-own : has left c ≡ false) (left-others : (d : ℕ) → d ≢ c → has left d ≡ has (get_or users (get_or places c 0) 0) d)
    (joined-own : has joined c ≡ true)
    (joined-others : (d : ℕ) → d ≢ c → has joined d ≡ has (get_or (set users (get_or places c 0) left) place 0) d) where
  from : ℕ
  from = get_or places c 0

  mid : List ℕ
  mid = set users from left

  from-there : from < length users
  unfolding from
  from-there = let w = are.within c channel in let m = are.many in omega (arith, w, m)

  mid-long : length mid ≡ length users
  unfolding mid
  mid-long = length-set users from left

  -- the other channels' bits stay
  mid-others : (p d : ℕ) → d ≢ c → has (get_or mid p 0) d ≡ has (get_or users p 0) d
  unfolding mid from
  mid-others p d ne = ⊎_elim
      (λ (e : p ≡ from). ap (λ i. has (get_or (set users from left) i 0) d) e
      ∙ ap (λ m. has m d) (get_or-set_same users from left 0 from-there) ∙ left-others d ne ∙ ap (λ i. has (get_or users i 0) d) (sym e))
      (λ (off : p ≡ from → ⊥). ap (λ m. has m d) (get_or-set_other users from p left 0 off))
      (cases_eq p from)

  new-others : (p d : ℕ) → p < length places → d ≢ c → has (get_or (set mid place joined) p 0) d ≡ has (get_or users p 0) d
  unfolding mid from
  new-others p d l ne = ⊎_elim
      (λ (e : p ≡ place). ap (λ i. has (get_or (set mid place joined) i 0) d) e
      ∙ ap (λ m. has m d) (get_or-set_same mid place joined 0 (let m = are.many in omega (arith, there, m, mid-long)))
      ∙ joined-others d ne ∙ mid-others place d ne ∙ ap (λ i. has (get_or users i 0) d) (sym e))
      (λ (off : p ≡ place → ⊥). ap (λ m. has m d) (get_or-set_other mid place p joined 0 off) ∙ mid-others p d ne)
      (cases_eq p place)

  -- its own bit is up at its place alone
  new-here : has (get_or (set mid place joined) place 0) c ≡ true
  new-here = ap (λ m. has m c) (get_or-set_same mid place joined 0 (let m = are.many in omega (arith, there, m, mid-long))) ∙ joined-own

  new-away : (p : ℕ) → p < length places → p ≢ place → has (get_or (set mid place joined) p 0) c ≡ true → ⊥
  unfolding mid from
  new-away p l ne up = ⊎_elim
      (λ (e : p ≡ from). false≢true (sym left-own ∙ ap (λ m. has m c) (sym (get_or-set_same users from left 0 from-there))
      ∙ ap (λ i. has (get_or mid i 0) c) (sym e) ∙ ap (λ m. has m c) (sym (get_or-set_other mid place p joined 0 ne)) ∙ up))
      (λ (off : p ≡ from → ⊥). off (sym ((are.each p c l).0 (ap (λ m. has m c) (sym (get_or-set_other users from p left 0 off))
      ∙ ap (λ m. has m c) (sym (get_or-set_other mid place p joined 0 ne)) ∙ up)).1))
      (cases_eq p from)

  pub moved-users : AreUsers (set places c place) (set (set users (get_or places c 0) left) place joined)
  unfolding mid from
  moved-users =
      let long = length-set places c place in
      record {
        few = (let f = are.few in omega (arith, f, long));
        within = λ d l. ⊎_elim
            (λ (e : d ≡ c). (let h = ap (λ i. get_or (set places c place) i 0) e ∙ get_or-set_same places c place 0 channel in omega (arith, h, there, long)))
            (λ (ne : d ≡ c → ⊥). (let h = get_or-set_other places c d place 0 ne in let w = are.within d (omega (arith, l, long)) in omega (arith, h, w, long)))
            (cases_eq d c);
        many = length-set mid place joined ∙ mid-long ∙ are.many ∙ sym long;
        each = λ p d l. ⊎_elim
            (λ (e : d ≡ c).
            let at : get_or (set places c place) d 0 ≡ place = ap (λ i. get_or (set places c place) i 0) e ∙ get_or-set_same places c place 0 channel in (
              λ up. ⊎_elim
                  (λ (h : p ≡ place). (omega (arith, e, channel, long), at ∙ sym h))
                  (λ (ne : p ≡ place → ⊥). absurd (new-away p (omega (arith, l, long)) ne (ap (has (get_or (set mid place joined) p 0)) (sym e) ∙ up)))
                  (cases_eq p place),
              λ is. ap (λ i. has (get_or (set mid place joined) i 0) d) (sym is.1 ∙ at) ∙ ap (has (get_or (set mid place joined) place 0)) e ∙ new-here,
            ))
            (λ (ne : d ≡ c → ⊥).
            let same = new-others p d (omega (arith, l, long)) ne in
            let at = get_or-set_other places c d place 0 ne in
            let old = are.each p d (omega (arith, l, long)) in (
              λ up. (let o = old.0 (sym same ∙ up) in (omega (arith, o.0, long), at ∙ o.1)),
              λ is. same ∙ old.1 (let l = is.0 in omega (arith, l, long), sym at ∙ is.1),
            ))
            (cases_eq d c);
      }
