-- The clocks on both sides of a move.
use Rattle.std.proofs.Common.{◌≡◌, ℕ, ◌+◌, ◌++◌, true, false, cond, List, [], ◌∷◌}
use Rattle.std.proofs.Common.{refl, ap, sym, subst, ◌∙◌, ⊎_elim, arith, append_assoc}
use Rattle.std.specs.List.{fold, AllByRecursion}
use Rattle.std.proofs.lemmas.Bool.{cases_Bool, cond-true, cond-false}
use Rattle.std.proofs.lemmas.List.Sums.{fold-append}
use Rattle.trace_model.specs.vidi_bits.Number.{has}
use Rattle.trace_model.specs.declared.event.Kind.TheVariants.{End}
use Rattle.trace_model.specs.declared.packet.Packet.{Packet}
use Rattle.trace_model.specs.Epoch.{since_reset}
use Rattle.trace_model.specs.Packet.{count, does}
use Rattle.trace_model.proofs.CountingLemmas.{count-cons, count-push}
use Rattle.trace_edit.specs.Moved.{alone, without}
use Rattle.trace_edit.specs.Parts.{clock_behind, own}
use Rattle.trace_edit.proofs.Single.{ends-without, ends-alone, without-parts}

abbrev step : List Packet → Packet → List Packet
step here p = cond p.reset [] (here ++ p ∷ [])

-- none of these packets is a reset
abbrev pub NoReset : List Packet → Type 0
NoReset packets = AllByRecursion (λ (x : Packet). x.reset ≡ false) packets

pub no-reset-append : (xs ys : List Packet) → NoReset xs → NoReset ys → NoReset (xs ++ ys)
no-reset-append [] ys h g = g
no-reset-append (x ∷ xs) ys h g = (h.0, no-reset-append xs ys h.1 g)

pub no-reset-front : (xs ys : List Packet) → NoReset (xs ++ ys) → NoReset xs
no-reset-front [] ys h = tt
no-reset-front (x ∷ xs) ys h = (h.0, no-reset-front xs ys h.1)

pub no-reset-without : (c : ℕ) (P : Packet) → P.reset ≡ false → NoReset (without c P)
no-reset-without c P plain = ⊎_elim
    (λ e. subst NoReset (sym e.0) tt)
    (λ e. subst NoReset (sym e.0) (plain, tt))
    (without-parts c P)

module _ (d : ℕ) where
  pub count-both : (xs ys : List Packet) → count End d (xs ++ ys) ≡ count End d xs + count End d ys
  count-both [] ys = let z : count End d ys ≡ 0 + count End d ys = omega arith in z
  count-both (x ∷ xs) ys =
      let a = count-cons (does End d) x (xs ++ ys) in let b = count-cons (does End d) x xs in let ih = count-both xs ys in
      let z : count End d ((x ∷ xs) ++ ys) ≡ count End d (x ∷ xs) + count End d ys = omega (arith, a, b, ih) in z

  -- behind packets without a reset
  flat-from : (here F : List Packet) → NoReset F → count End d (fold step here F) ≡ count End d here + count End d F
  flat-from here [] h = let z : count End d here ≡ count End d here + 0 = omega arith in z
  flat-from here (x ∷ F) h =
      let ih = flat-from (here ++ x ∷ []) F h.1 in
      let a = count-push (does End d) here x in
      let b = count-cons (does End d) x F in
      ap (λ xs. count End d (fold step xs F)) (cond-false x.reset [] (here ++ x ∷ []) h.0)
      ∙ (let z : count End d (fold step (here ++ x ∷ []) F) ≡ count End d here + count End d (x ∷ F) = omega (arith, ih, a, b) in z)

  pub flat-clock : (A F : List Packet) → NoReset F → clock_behind (A ++ F) d ≡ clock_behind A d + count End d F
  unfolding since_reset
  flat-clock A F h = ap (count End d) (fold-append step [] A F) ∙ flat-from (since_reset A) F h

  -- behind the same packets
  same-from : (xs ys Z : List Packet) → count End d xs ≡ count End d ys → count End d (fold step xs Z) ≡ count End d (fold step ys Z)
  same-from xs ys [] h = h
  same-from xs ys (z ∷ Z) h = ⊎_elim
      (λ (y : z.reset ≡ true).
      ap (λ ws. count End d (fold step ws Z)) (cond-true z.reset [] (xs ++ z ∷ []) y)
      ∙ sym (ap (λ ws. count End d (fold step ws Z)) (cond-true z.reset [] (ys ++ z ∷ []) y)))
      (λ (n : z.reset ≡ false).
      let a = count-push (does End d) xs z in
      let b = count-push (does End d) ys z in
      let one : count End d (xs ++ z ∷ []) ≡ count End d (ys ++ z ∷ []) = omega (arith, a, b, h) in
      ap (λ ws. count End d (fold step ws Z)) (cond-false z.reset [] (xs ++ z ∷ []) n)
      ∙ same-from (xs ++ z ∷ []) (ys ++ z ∷ []) Z one
      ∙ sym (ap (λ ws. count End d (fold step ws Z)) (cond-false z.reset [] (ys ++ z ∷ []) n)))
      (cases_Bool z.reset)

  pub same-clock : (X Y Z : List Packet) → clock_behind X d ≡ clock_behind Y d → clock_behind (X ++ Z) d ≡ clock_behind (Y ++ Z) d
  unfolding since_reset
  same-clock X Y Z h = ap (count End d) (fold-append step [] X Z) ∙ same-from (since_reset X) (since_reset Y) Z h
      ∙ sym (ap (count End d) (fold-append step [] Y Z))

  module _ (c : ℕ) (P : Packet) (there : has P.ends c ≡ true) (plain : P.reset ≡ false) where
    -- ---- by `after`
    pub after-less : (A xs : List Packet) → NoReset xs → clock_behind (A ++ P ∷ xs) d ≡ clock_behind (A ++ (without c P ++ xs)) d + own c d
    after-less A xs h =
        let a = flat-clock A (P ∷ xs) (plain, h) in
        let b = flat-clock A (without c P ++ xs) (no-reset-append (without c P) xs (no-reset-without c P plain) h) in
        let one = ends-without c d P there in
        let p = count-both (P ∷ []) xs in
        let q = count-both (without c P) xs in
        let z : clock_behind (A ++ P ∷ xs) d ≡ clock_behind (A ++ (without c P ++ xs)) d + own c d = omega (arith, a, b, one, p, q) in z

    pub after-same : (A B xs : List Packet) → NoReset B
        → clock_behind (A ++ (without c P ++ (B ++ alone c ∷ xs))) d ≡ clock_behind (A ++ P ∷ (B ++ xs)) d
    after-same A B xs h =
        let M = alone c ∷ [] in
        let new = without c P ++ (B ++ M) in
        let old = P ∷ B in
        let a = flat-clock A new (no-reset-append (without c P) (B ++ M) (no-reset-without c P plain) (no-reset-append B M h (refl, tt))) in
        let b = flat-clock A old (plain, h) in
        let one = ends-without c d P there in
        let m = ends-alone c d in
        let p = count-both (P ∷ []) B in
        let q = count-both (without c P) (B ++ M) in
        let r = count-both B M in
        let same : clock_behind (A ++ new) d ≡ clock_behind (A ++ old) d = omega (arith, a, b, one, m, p, q, r) in
        ap (λ ys. clock_behind ys d) (sym (append_assoc A new xs ∙ ap (λ ys. A ++ ys) (append_assoc (without c P) (B ++ M) xs
        ∙ ap (λ ys. without c P ++ ys) (append_assoc B M xs))))
        ∙ same-clock (A ++ new) (A ++ old) xs same
        ∙ ap (λ ys. clock_behind ys d) (append_assoc A old xs)

    -- ---- by `before`
    pub before-more : (A xs : List Packet) → NoReset xs → clock_behind (A ++ alone c ∷ xs) d ≡ clock_behind (A ++ xs) d + own c d
    before-more A xs h =
        let a = flat-clock A (alone c ∷ xs) (refl, h) in
        let b = flat-clock A xs h in
        let m = ends-alone c d in
        let p = count-both (alone c ∷ []) xs in
        let z : clock_behind (A ++ alone c ∷ xs) d ≡ clock_behind (A ++ xs) d + own c d = omega (arith, a, b, m, p) in z

    pub before-same : (A B xs : List Packet) → NoReset B
        → clock_behind (A ++ alone c ∷ (B ++ (without c P ++ xs))) d ≡ clock_behind (A ++ (B ++ P ∷ xs)) d
    before-same A B xs h =
        let new = alone c ∷ (B ++ without c P) in
        let old = B ++ P ∷ [] in
        let a = flat-clock A new (refl, no-reset-append B (without c P) h (no-reset-without c P plain)) in
        let b = flat-clock A old (no-reset-append B (P ∷ []) h (plain, tt)) in
        let one = ends-without c d P there in
        let m = ends-alone c d in
        let p = count-both (alone c ∷ []) (B ++ without c P) in
        let q = count-both B (without c P) in
        let r = count-both B (P ∷ []) in
        let same : clock_behind (A ++ new) d ≡ clock_behind (A ++ old) d = omega (arith, a, b, one, m, p, q, r) in
        ap (λ ys. clock_behind ys d) (sym (append_assoc A new xs ∙ ap (λ ys. A ++ alone c ∷ ys) (append_assoc B (without c P) xs)))
        ∙ same-clock (A ++ new) (A ++ old) xs same
        ∙ ap (λ ys. clock_behind ys d) (append_assoc A old xs ∙ ap (λ ys. A ++ ys) (append_assoc B (P ∷ []) xs))
