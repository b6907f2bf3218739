-- Packets behind the one at the front that have its head.
use Rattle.std.proofs.Common.{◌≡◌, ℕ, ◌+◌, ◌-◌, ◌*◌, ◌<◌, Bool, List, length, take, drop, inl, inr, sym, ap, subst, ◌∙◌, arith}
use Rattle.std.proofs.Math.Seq.{drop-drop}
use Rattle.std.proofs.lemmas.Bool.{cases_lt}
use Rattle.std.proofs.lemmas.List.{length-drop, take_all}
use Rattle.trace_code.specs.Heads.{IsHead}

-- one packet further
pub ahead-on : (s len : ℕ) (rest here next : List ℕ) → here ≡ drop (s * len) rest → next ≡ take (length here - len) (drop len here)
    → next ≡ drop ((s + 1) * len) rest
ahead-on s len rest here next at n =
    let whole = take_all (length here - len) (drop len here) (omega (arith, length-drop len here)) in
    let e : s * len + len ≡ (s + 1) * len = omega arith in
    n ∙ whole ∙ ap (drop len) at ∙ drop-drop len (s * len) rest ∙ ap (λ k. drop k rest) e

pub alike-on : (n : ℕ) (reset : Bool) (starts ends len s : ℕ) (rest : List ℕ) → ((i : ℕ) → i < s → IsHead n reset starts ends (drop ((i + 1) * len) rest))
    → IsHead n reset starts ends (drop ((s + 1) * len) rest) → (i : ℕ) → i < s + 1 → IsHead n reset starts ends (drop ((i + 1) * len) rest)
alike-on n reset starts ends len s rest before last i l =
    elim (cases_lt i s) [
      | inl lt ↦ before i lt
      | inr le ↦ subst (λ k. IsHead n reset starts ends (drop ((k + 1) * len) rest)) (let e : s ≡ i = omega (arith, l, le) in e) last
    ]

-- behind the first of them there is one fewer
pub alike-later : (n : ℕ) (reset : Bool) (starts ends len same : ℕ) (rest after : List ℕ) → after ≡ drop len rest
    → ((i : ℕ) → i < same → IsHead n reset starts ends (drop ((i + 1) * len) rest))
    → (i : ℕ) → i < same - 1 → IsHead n reset starts ends (drop ((i + 1) * len) after)
alike-later n reset starts ends len same rest after a alike i l =
    let e : (i + 1 + 1) * len ≡ len + (i + 1) * len = omega arith in
    subst (IsHead n reset starts ends) (ap (λ k. drop k rest) e ∙ sym (drop-drop ((i + 1) * len) len rest) ∙ ap (drop ((i + 1) * len)) (sym a))
    (alike (i + 1) (omega (arith, l)))

pub alike-next : (n : ℕ) (reset : Bool) (starts ends len same : ℕ) (rest after : List ℕ) → after ≡ drop len rest
    → ((i : ℕ) → i < same → IsHead n reset starts ends (drop ((i + 1) * len) rest)) → 0 < same → IsHead n reset starts ends after
alike-next n reset starts ends len same rest after a alike l =
    let e : (0 + 1) * len ≡ len = omega arith in
    subst (IsHead n reset starts ends) (ap (λ k. drop k rest) e ∙ sym a) (alike 0 l)
