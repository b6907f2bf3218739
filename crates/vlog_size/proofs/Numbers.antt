-- Digits only make a number larger.
use Rattle.std.proofs.Common.{◌≡◌, ℕ, ◌+◌, ◌*◌, ◌≤◌, ◌<◌, ◌^◌, Bool, true, false, ◌==◌, List, [], ◌∷◌, if◌then◌else◌, arith, None, Some}
use Rattle.std.proofs.Common.{refl, drop, length, get_or, sym, ap, ◌∙◌, suc, ◌≢◌, drop-cons}
use Rattle.std.proofs.lemmas.List.{drop_all}
use Rattle.vlog_tree.proofs.vidi_bits_lemmas.ArithmeticLemmas.{shifted_grows}
use Rattle.vlog_tree.specs.vidi_bits.Limits.{below_top}
use Rattle.vlog_size.specs.Literal.{digit, digits_from}

pub step_grows : (base n d : ℕ) (t : Bool) → 1 ≤ base → n ≤ (if t then n else n * base + d)
step_grows base n d true h = omega arith
step_grows base n d false h = shifted_grows base n d h

pub digits_grow : (base n : ℕ) (text : List ℕ) → 1 ≤ base → n ≤ digits_from base n text
digits_grow base n [] h = omega arith
digits_grow base n (b ∷ text) h =
    omega (arith, step_grows base n (digit b) (b == 95) h, digits_grow base (if b == 95 then n else n * base + digit b) text h)

pub stays_past : (base n : ℕ) (text : List ℕ) → 1 ≤ base → below_top n ≡ None → None ≡ below_top (digits_from base n text)
stays_past base n text h past = let grows : n ≤ digits_from base n text = digits_grow base n text h in grind arith

not_mark : (b : ℕ) → b ≢ 95 → (b == 95) ≡ false
not_mark b h = grind arith

pub past_at : (base n m i : ℕ) (text : List ℕ) → 1 ≤ base → i < length text → get_or text i 0 ≢ 95
    → below_top (n * base + digit (get_or text i 0)) ≡ None → digits_from base n (drop i text) ≡ m → None ≡ below_top m
past_at base n m i text one within mark past whole =
    let no_mark : (get_or text i 0 == 95) ≡ false = not_mark (get_or text i 0) mark in
    let split : digits_from base n (drop i text) ≡ digits_from base (n * base + digit (get_or text i 0)) (drop (suc i) text) =
    rw (drop-cons text i 0)
    (ap (λ (t : Bool). digits_from base (if t then n else n * base + digit (get_or text i 0)) (drop (suc i) text)) no_mark) in
    stays_past base (n * base + digit (get_or text i 0)) (drop (suc i) text) one past ∙ ap below_top (sym split ∙ whole)

fits : (n : ℕ) → n < 2 ^ 128 → Some n ≡ below_top n
fits n h = grind arith

pub ended : (base n m i : ℕ) (text : List ℕ) → length text ≤ i → n < 2 ^ 128 → digits_from base n (drop i text) ≡ m → Some n ≡ below_top m
ended base n m i text over small whole =
    let gone : drop i text ≡ [] = drop_all i text over in
    let split : digits_from base n (drop i text) ≡ n = rw gone refl in
    fits n small ∙ ap below_top (sym split ∙ whole)
