-- The numbers of a channel, port by port.
use Rattle.std.proofs.Common.{◌≡◌, ℕ, zero, suc, ◌+◌, true, false, List, [], ◌∷◌, Some, length, map, get_or, replicate}
use Rattle.std.proofs.Common.{slice_get}
use Rattle.std.proofs.Common.{⊎_elim, refl, ap, sym, ◌∙◌, arith}
use Rattle.std.specs.List.{range_with_len}
use Rattle.std.proofs.lemmas.Bool.{cases_Bool, cond-true, cond-false}
use Rattle.run_model.specs.trace_model.declared.channel.Channel.{Channel}
use Rattle.run_model.specs.trace_model.Packet.{widths_of}
use Rattle.run_model.proofs.trace_model_lemmas.ContentsLemmas.{fit-length}
use Rattle.run_model.specs.Offers.{no_content}
use Rattle.env_script.specs.Offer.{Offer}
use Rattle.env_script.specs.Offered.{numbers_on, port_numbers, AllFit}

numbers-from : (xs : List ℕ) (k n : ℕ) (at : ℕ → ℕ) → ((i : ℕ) → at (k + i) ≡ get_or xs i 0) → n ≡ length xs
    → map at (range_with_len k n) ≡ xs
numbers-from [] k zero at h e = refl
numbers-from [] k (suc n) at h e = absurd (omega (arith, e))
numbers-from (x ∷ xs) k zero at h e = absurd (omega (arith, e))
numbers-from (x ∷ xs) k (suc n) at h e =
    let head : at k ≡ x = ap at (let z : k ≡ k + 0 = omega arith in z) ∙ h 0 in
    ap (λ y. y ∷ map at (range_with_len (k + 1) n)) head
    ∙ ap (λ ys. x ∷ ys) (numbers-from xs (k + 1) n at
    (λ i. ap at (let z : k + 1 + i ≡ k + suc i = omega arith in z) ∙ h (suc i)) (omega (arith, e)))

all-numbers : (content : List ℕ) (n : ℕ) → n ≡ length content → port_numbers n content ≡ content
all-numbers content n e = numbers-from content 0 n (λ port. get_or content port 0)
    (λ i. ap (λ k. get_or content k 0) (let z : 0 + i ≡ i = omega arith in z)) e

abbrev none-at : ℕ → ℕ
none-at port = get_or [] port 0

abbrev pub zeros : ℕ → List ℕ
zeros n = replicate n 0

zeros-from : (k n : ℕ) → map none-at (range_with_len k n) ≡ zeros n
zeros-from k zero = refl
zeros-from k (suc n) = ap (λ ys. 0 ∷ ys) (zeros-from (k + 1) n)

no-numbers : (content : List ℕ) (n : ℕ) → content ≡ [] → port_numbers n content ≡ replicate n 0
no-numbers content n e = ap (port_numbers n) e ∙ zeros-from 0 n

pub numbers-are : (channels : List Channel) (offer : ℕ → Offer) → AllFit channels offer → (c : ℕ) (x : Channel)
    → slice_get channels c ≡ Some x → port_numbers (length x.widths) (offer c).content ≡ numbers_on channels offer c
numbers-are channels offer fits c x at = ⊎_elim
    (λ (up : (offer c).valid ≡ true).
    all-numbers (offer c).content (length x.widths) (fit-length x.widths (offer c).content ((fits c x at).inward up).1)
    ∙ sym (cond-true (offer c).valid (offer c).content (no_content channels c) up))
    (λ (down : (offer c).valid ≡ false).
    no-numbers (offer c).content (length x.widths) ((fits c x at).empty down)
    ∙ ap (λ ws. replicate (length ws) 0) (sym (ap widths_of at))
    ∙ sym (cond-false (offer c).valid (offer c).content (no_content channels c) down))
    (cases_Bool (offer c).valid)
