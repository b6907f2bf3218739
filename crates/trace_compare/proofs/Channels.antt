-- One channel, or one epoch, more.
use Rattle.std.proofs.Common.{◌≡◌, ℕ, suc, ◌+◌, ◌-◌, ◌<◌, ◌≤◌, List, ◌++◌, sym, ap, ◌∙◌, append_assoc, arith}
use Rattle.std.proofs.lemmas.List.{append-nil}
use Rattle.std.specs.List.{flat_map, range_with_len}

pub channel-on : {X : Type 0} (F : ℕ → List X) (n c : ℕ) (front new all : List X) → c < n
    → front ++ flat_map F (range_with_len c (n - c)) ≡ all → new ≡ front ++ F c
    → new ++ flat_map F (range_with_len (c + 1) (n - (c + 1))) ≡ all
channel-on F n c front new all l so_far push =
    let one : n - c ≡ suc (n - (c + 1)) = omega arith in
    ap (λ xs. xs ++ flat_map F (range_with_len (c + 1) (n - (c + 1)))) push
    ∙ append_assoc front (F c) (flat_map F (range_with_len (c + 1) (n - (c + 1))))
    ∙ ap (λ k. front ++ flat_map F (range_with_len c k)) (sym one) ∙ so_far

pub channels-done : {X : Type 0} (F : ℕ → List X) (n c : ℕ) (front all : List X) → n ≤ c
    → front ++ flat_map F (range_with_len c (n - c)) ≡ all → front ≡ all
channels-done F n c front all l so_far =
    let none : n - c ≡ 0 = omega arith in
    sym (append-nil front) ∙ ap (λ k. front ++ flat_map F (range_with_len c k)) (sym none) ∙ so_far

-- five pieces, one behind the other
pub five-pushed : {X : Type 0} (r0 r1 r2 r3 r4 a b c d e : List X) → r1 ≡ r0 ++ a → r2 ≡ r1 ++ b → r3 ≡ r2 ++ c → r4 ≡ r3 ++ d
    → r4 ++ e ≡ r0 ++ (a ++ (b ++ (c ++ (d ++ e))))
five-pushed r0 r1 r2 r3 r4 a b c d e e1 e2 e3 e4 =
    ap (λ xs. xs ++ e) e4 ∙ append_assoc r3 d e
    ∙ ap (λ xs. xs ++ (d ++ e)) e3 ∙ append_assoc r2 c (d ++ e)
    ∙ ap (λ xs. xs ++ (c ++ (d ++ e))) e2 ∙ append_assoc r1 b (c ++ (d ++ e))
    ∙ ap (λ xs. xs ++ (b ++ (c ++ (d ++ e)))) e1 ∙ append_assoc r0 a (b ++ (c ++ (d ++ e)))
