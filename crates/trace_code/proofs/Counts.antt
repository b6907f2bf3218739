-- Running counts of completions since the last reset, and of resets.
use Rattle.std.proofs.Common.{◌≡◌, ℕ, ◌+◌, ◌<◌, ◌≤◌, true, false, cond, List, [], ◌∷◌, ◌++◌, length, get_or, replicate, sym, ap}
use Rattle.std.proofs.Common.{◌∙◌, arith}
use Rattle.std.specs.Int.{bit_at}
use Rattle.std.proofs.lemmas.List.{get_or-replicate, length-replicate}
use Rattle.std.proofs.lemmas.List.FromFn.{fill_by_all, get_or-map-range_with_len, length-map-range_with_len}
use Rattle.std.proofs.lemmas.List.Sums.{count_by-le-length}
use Rattle.vec_clock.specs.trace_model.declared.event.Kind.TheVariants.{End}
use Rattle.vec_clock.specs.trace_model.declared.packet.Packet.{Packet}
use Rattle.vec_clock.specs.trace_model.Epoch.{resets, since_reset}
use Rattle.vec_clock.specs.trace_model.Packet.{count, does}
use Rattle.vec_clock.proofs.trace_model_lemmas.CountingLemmas.{count-push}
use Rattle.vec_clock.proofs.trace_model_lemmas.EpochLemmas.{since-nil, since-reset, since-row, since-short}
use Rattle.vec_clock.proofs.trace_model_lemmas.MaskLemmas.{cond-has}
use Rattle.trace_code.specs.Counted.{Counted, counts_of}

pub clock-length : (n : ℕ) (ps : List Packet) → length ((counts_of n ps).clock) ≡ n
clock-length n ps = length-map-range_with_len (λ c. count End c (since_reset ps)) 0 n

pub clock-at : (n : ℕ) (ps : List Packet) (c : ℕ) → c < n → get_or ((counts_of n ps).clock) c 0 ≡ count End c (since_reset ps)
clock-at n ps c l = get_or-map-range_with_len (λ c. count End c (since_reset ps)) 0 n c c 0 l (omega arith)

-- no count is above the number of packets
pub clock-small : (n : ℕ) (ps : List Packet) (c : ℕ) → c < n → get_or ((counts_of n ps).clock) c 0 ≤ length ps
clock-small n ps c l = omega (arith, clock-at n ps c l, count_by-le-length (does End c) (since_reset ps), since-short ps)

pub epoch-small : (ps : List Packet) → resets ps ≤ length ps
epoch-small ps = count_by-le-length (λ (p : Packet). p.reset) ps

same : (a b : Counted) → a.clock ≡ b.clock → a.epoch ≡ b.epoch → a ≡ b
same a b c e = λ i. record { clock = c i; epoch = e i }

-- nothing was counted where nothing is since a reset
zeros : (n : ℕ) (ps : List Packet) → since_reset ps ≡ [] → replicate n 0 ≡ (counts_of n ps).clock
zeros n ps none =
    fill_by_all (λ c. count End c (since_reset ps)) (replicate n 0) n 0 (length-replicate n 0)
    (λ k l. get_or-replicate n k 0 0 l ∙ sym (ap (count End k) none))

pub before-all : (n : ℕ) (new : Counted) → new.clock ≡ replicate n 0 → new.epoch ≡ 0 → new ≡ counts_of n []
before-all n new c e = same new (counts_of n []) (c ∙ zeros n [] since-nil) e

pub after-reset : (n : ℕ) (ps : List Packet) (x : Packet) (new : Counted) → x.reset ≡ true → new.clock ≡ replicate n 0
    → new.epoch ≡ resets ps + 1 → new ≡ counts_of n (ps ++ x ∷ [])
after-reset n ps x new h c e =
    same new (counts_of n (ps ++ x ∷ [])) (c ∙ zeros n (ps ++ x ∷ []) (since-reset ps x h))
    (e ∙ ap (λ b. resets ps + cond b 1 0) (sym h) ∙ sym (count-push (λ (p : Packet). p.reset) ps x))

pub after-row : (n : ℕ) (ps : List Packet) (x : Packet) (new : Counted) → x.reset ≡ false → length new.clock ≡ n
    → ((c : ℕ) → c < n → get_or new.clock c 0 ≡ get_or ((counts_of n ps).clock) c 0 + bit_at x.ends c)
    → new.epoch ≡ resets ps → new ≡ counts_of n (ps ++ x ∷ [])
after-row n ps x new h long each e =
    let none : resets ps ≡ resets ps + 0 = omega arith in
    same new (counts_of n (ps ++ x ∷ []))
    (fill_by_all (λ c. count End c (since_reset (ps ++ x ∷ []))) new.clock n 0 long
    (λ k l. each k l ∙ ap (λ m. m + bit_at x.ends k) (clock-at n ps k l)
    ∙ ap (λ m. count End k (since_reset ps) + m) (sym (cond-has x.ends k))
    ∙ sym (count-push (does End k) (since_reset ps) x) ∙ ap (count End k) (sym (since-row ps x h))))
    (e ∙ none ∙ ap (λ b. resets ps + cond b 1 0) (sym h) ∙ sym (count-push (λ (p : Packet). p.reset) ps x))
