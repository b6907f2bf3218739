-- Bits that drivers write, counted.
use Rattle.std.proofs.Common.{◌≡◌, ℕ, zero, suc, ◌+◌, ◌-◌, ◌^◌, ◌<◌, ◌≤◌, ◌==◌, ◌&&◌, ◌||◌, inl, inr, ◌↔◌}
use Rattle.std.proofs.Common.{not, nat_lt, Bool, true, false, IsTrue, bit_and}
use Rattle.std.proofs.Common.{List, [], ◌∷◌, All, length, get_or, take, map, slice_index, ⊎_elim, ap, sym, subst, ◌∙◌, arith}
use Rattle.std.proofs.lemmas.Bool.{not-true, not_from_false, cases_lt, eqb-true, eq-eqb, ltb-true, lt-ltb, false_from_ne_true, and_parts, and_from}
use Rattle.std.proofs.lemmas.List.Folds.{Any-from_list_any}
use Rattle.std.proofs.lemmas.Nat.Bits.{bit_at_ones, bit_at_ones_above}
use Rattle.std.proofs.lemmas.Option.{slice_get_past}
use Rattle.net_code.specs.Tally.{IsTally}
use Rattle.net_design.proofs.LawfulCode.{width_past}
use Rattle.net_code.proofs.vidi_bits_lemmas.Bools.{not_both}
use Rattle.net_design.specs.declared.design.Driver.{Driver}
use Rattle.net_design.specs.declared.design.Net.{Net}
use Rattle.net_design.specs.declared.design.Register.{Register}
use Rattle.net_design.specs.declared.design.Design.{Design}
use Rattle.net_code.specs.vidi_bits.Number.{has}
use Rattle.net_design.specs.Bits.{named}
use Rattle.net_design.specs.Settled.{held, net_width}
use Rattle.net_design.specs.Lawful.{is_input, is_input_port}
use Rattle.net_code.specs.BitMap.{in_map}
use Rattle.net_code.proofs.MaskLaws.{has_less, has_zero}
use Rattle.net_code.specs.declared.tally.Tally.{Tally}
use Rattle.net_code.proofs.TallyLaws.{next_once, next_more}
use Rattle.net_lawful.specs.Frame.{IsFramed}
use Rattle.net_lawful.specs.State.{HasState}
use Rattle.net_lawful.specs.Driven.{writers, RestDriven, AreDriven, IsNetDriven, IsDriven}
use Rattle.net_lawful.proofs.MaskTests.{by_has}

-- ---- one more driver

pub one_more_driver : (drivers : List Driver) (i : ℕ) (x : Driver) (old new : Tally) → i < length drivers → x ≡ get_or drivers i x
    → IsTally old (writers (take i drivers))
    → ((m k : ℕ) → in_map new.once m k ≡ (in_map old.once m k || named x.code.writes m k))
    → ((m k : ℕ) → in_map new.more m k ≡ (in_map old.more m k || (in_map old.once m k && named x.code.writes m k)))
    → IsTally new (writers (take (i + 1) drivers))
one_more_driver drivers i x old new within is so_far once more = record {
  once = λ m k.
      next_once (λ (y : Driver). named y.code.writes m k) drivers i x (in_map old.once m k) (in_map new.once m k) within is
      (so_far.once m k) (once m k);
  more = λ m k.
      next_more (λ (y : Driver). named y.code.writes m k) drivers i x (in_map old.once m k) (in_map old.more m k) (in_map new.more m k)
      within is (so_far.once m k) (so_far.more m k) (more m k);
}

-- ---- the bits of one net

no_bit : (n k : ℕ) → n ≡ 0 → has n k ≡ false
no_bit n k e = ap (λ x. has x k) e ∙ has_zero k

pub input_driven : (input : Bool) (width held once more : ℕ) → input ≡ true → IsTrue (once == 0) ↔ AreDriven input width held once more
input_driven input width held once more is = (
  (λ h. record {
    driven = λ k l no out. absurd (not_both input is no);
    others = λ k w. no_bit once k (eqb-true once 0 h);
  }),
  (λ a. eq-eqb once 0 (by_has once 0 (λ k. a.others k (inl is) ∙ sym (has_zero k)))),
)

-- bit k is one of the first, and isn't held
abbrev pub IsRest : ℕ → ℕ → ℕ → Type 0
IsRest width held rest = (k : ℕ) → (has rest k ≡ true) ↔ ((k < width) × (has held k ≡ false))

first_bits : (width k : ℕ) → (has (2 ^ width - 1) k ≡ true) ↔ (k < width)
first_bits width k = (
  (λ t. ⊎_elim
      (λ (l : k < width). l)
      (λ (g : width ≤ k). absurd (not_both (has (2 ^ width - 1) k) t (ap (λ n. n == 1) (bit_at_ones_above width k g))))
      (cases_lt k width)),
  (λ l. ap (λ n. n == 1) (bit_at_ones width k l)),
)

pub rest_bits : (width held : ℕ) → 2 ^ width - 1 < 2 ^ 128 → held < 2 ^ 128
    → IsRest width held (bit_and (2 ^ width - 1) (2 ^ 128 - 1 - held))
rest_bits width held l h k =
    let is = has_less (2 ^ width - 1) held k l h in (
      (λ t. let u = and_parts (has (2 ^ width - 1) k) (not (has held k)) (sym is ∙ t) in
          ((first_bits width k).0 u.0, not-true (has held k) u.1)),
      (λ w. is ∙ and_from (has (2 ^ width - 1) k) (not (has held k)) ((first_bits width k).1 w.0) (not_from_false (has held k) w.1)),
    )

pub other_driven : (input : Bool) (width held once more rest : ℕ) → input ≡ false → IsRest width held rest
    → RestDriven rest held once more ↔ AreDriven input width held once more
other_driven input width held once more rest is bits = (
  (λ h. record {
    driven = λ k l no out. (h.1 k ((bits k).1 (l, out)), h.2 k ((bits k).1 (l, out)));
    others = λ k w. ⊎_elim (λ (t : input ≡ true). absurd (not_both input t is)) (λ (t : has held k ≡ true). h.0 k t) w;
  }),
  (λ a. (
    (λ k t. a.others k (inr t)),
    (λ k t. let u = (bits k).0 t in (a.driven k u.0 is u.1).0),
    (λ k t. let u = (bits k).0 t in (a.driven k u.0 is u.1).1),
  )),
)

exactly_one : (n : ℕ) → nat_lt 0 n ≡ true → nat_lt 1 n ≡ false → n ≡ 1
exactly_one n some few = ⊎_elim
    (λ (l : 1 < n). absurd (not_both (nat_lt 1 n) (lt-ltb 1 n l) few))
    (λ (g : n ≤ 1). let h : 0 < n = ltb-true 0 n some in omega (arith, h, g))
    (cases_lt 1 n)

none_at_all : (n : ℕ) → nat_lt 0 n ≡ false → n ≡ 0
none_at_all n none = ⊎_elim
    (λ (l : 0 < n). absurd (not_both (nat_lt 0 n) (lt-ltb 0 n l) none))
    (λ (g : n ≤ 0). omega (arith, g))
    (cases_lt 0 n)

pub net_driven_is : (d : Design) (m : ℕ) (input : Bool) (width h once more : ℕ) → input ≡ is_input d m → width ≡ net_width d m
    → ((k : ℕ) → has h k ≡ held d m k) → ((k : ℕ) → has once k ≡ nat_lt 0 (writers d.drivers m k))
    → ((k : ℕ) → has more k ≡ nat_lt 1 (writers d.drivers m k)) → AreDriven input width h once more ↔ IsNetDriven d m
net_driven_is d m input width h once more input_is width_is held_is once_is more_is = (
  (λ a. record {
    driven = λ k l no out.
        let e = a.driven k (subst (λ w. k < w) (sym width_is) l) (input_is ∙ no) (held_is k ∙ out) in
        exactly_one (writers d.drivers m k) (sym (once_is k) ∙ e.0) (sym (more_is k) ∙ e.1);
    others = λ k w. none_at_all (writers d.drivers m k) (sym (once_is k) ∙ a.others k (⊎_elim
        (λ (t : is_input d m ≡ true). inl (input_is ∙ t)) (λ (t : held d m k ≡ true). inr (held_is k ∙ t)) w));
  }),
  (λ n. record {
    driven = λ k l no out.
        let one = n.driven k (subst (λ w. k < w) width_is l) (sym input_is ∙ no) (sym (held_is k) ∙ out) in (
          once_is k ∙ ap (nat_lt 0) one,
          more_is k ∙ ap (nat_lt 1) one,
        );
    others = λ k w. once_is k ∙ ap (nat_lt 0) (n.others k (⊎_elim
        (λ (t : input ≡ true). inl (sym input_is ∙ t)) (λ (t : has h k ≡ true). inr (sym (held_is k) ∙ t)) w));
  }),
)

-- ---- all nets

pub next_below : (P : ℕ → Type 0) (i : ℕ) → ((j : ℕ) → j < i → P j) → P i → (j : ℕ) → j < i + 1 → P j
next_below P i before here j l = ⊎_elim
    (λ (w : j < i). before j w)
    (λ (g : i ≤ j). let same : i ≡ j = omega (arith, l, g) in subst P same here)
    (cases_lt j i)

some_width : (ns : List Net) → All (λ (n : Net). 1 ≤ n.width) ns → (m : ℕ) → m < length ns
    → 1 ≤ slice_index (map (λ (n : Net). n.width) ns) m
some_width [] h m l = absurd (omega arith)
some_width (n ∷ ns) h zero l = h zero n (omega arith)
some_width (n ∷ ns) h (suc m) l = some_width ns (λ k d w. h (suc k) d (omega arith)) m (omega arith)

pub framed_some : (d : Design) → IsFramed d → (m : ℕ) → m < length d.nets → 1 ≤ net_width d m
framed_some d framed m l = some_width d.nets (λ k n w. (framed.nets k n w).0.0) m l

no_input : (d : Design) → IsFramed d → (m : ℕ) → length d.nets ≤ m → is_input d m ≡ false
no_input d framed m l =
    let ports : length d.ports ≤ length d.nets = framed.ports in
    ap is_input_port (slice_get_past d.ports m (omega (arith, ports, l)))

no_held : (d : Design) → HasState d → (m k : ℕ) → length d.nets ≤ m → held d m k ≡ false
no_held d state m k l = false_from_ne_true (held d m k) (λ t.
    let found = Any-from_list_any (λ (r : Register). (r.net == m) && has r.held k) d.registers t in
    let r : Register = found.1 in
    let u = and_parts _ _ found.4 in
    let here : r.net ≡ m = eqb-true _ _ u.0 in
    let there : (get_or d.registers found.0 r).net < length d.nets = (state.registers found.0 r found.2).net in
    let same : (get_or d.registers found.0 r).net ≡ r.net = ap (λ (x : Register). x.net) found.3 in
    absurd (omega (arith, here, there, same, l)))

pub all_nets : (d : Design) → IsFramed d → HasState d → ((m : ℕ) → m < length d.nets → IsNetDriven d m) ↔ IsDriven d
all_nets d framed state = (
  (λ h. record {
    driven = λ m k l no out. ⊎_elim
        (λ (w : m < length d.nets). (h m w).driven k l no out)
        (λ (w : length d.nets ≤ m). let none : net_width d m ≡ 0 = width_past d.nets m w in absurd (omega (arith, l, none)))
        (cases_lt m (length d.nets));
    others = λ m k given. ⊎_elim
        (λ (w : m < length d.nets). (h m w).others k given)
        (λ (w : length d.nets ≤ m). ⊎_elim
        (λ (t : is_input d m ≡ true). absurd (not_both (is_input d m) t (no_input d framed m w)))
        (λ (t : held d m k ≡ true). absurd (not_both (held d m k) t (no_held d state m k w))) given)
        (cases_lt m (length d.nets));
  }),
  (λ all m w. record { driven = λ k l no out. all.driven m k l no out; others = λ k given. all.others m k given }),
)
