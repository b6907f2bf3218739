-- The moved trace in its parts.
use Rattle.std.proofs.Common.{◌≡◌, ◌≢◌, ℕ, zero, suc, ◌+◌, ◌-◌, ◌<◌, ◌≤◌, ◌++◌, ◌&&◌, not, eqb, Bool, true, false, cond, List, [], ◌∷◌, Some, length, take, drop, slice_get}
use Rattle.std.proofs.Common.{refl, ap, sym, ◌∙◌, arith, append_assoc, append-nil, take-append-drop, length-drop, length-take-le, drop-drop}
use Rattle.std.specs.List.{flat_map, enumerate_from}
use Rattle.std.proofs.lemmas.Bool.{eq-eqb, ne_eqb}
use Rattle.std.proofs.lemmas.List.Concat.{flat_map-append}
use Rattle.std.proofs.lemmas.Option.{same_Some, slice_get_within}
use Rattle.trace_model.specs.declared.packet.Packet.{Packet}
use Rattle.trace_model.proofs.ContentsLemmas.{enumerate-append}
use Rattle.trace_edit.specs.declared.place.Move.{Move}
use Rattle.trace_edit.specs.Moved.{alone, placed, without}

-- ---- what stands in place of one packet
module _ (m : Move) (x : Packet) where
  abbrev last_part : Bool → List Packet
  last_part b = cond b (alone m.channel ∷ []) []

  -- with the tests of its place named
  abbrev placed_by : Bool → Bool → Bool → List Packet
  placed_by from to after = last_part (to && not after) ++ (cond from (without m.channel x) (x ∷ []) ++ last_part (to && after))

  placed-is : (s : ℕ) (from to after : Bool) → eqb s m.from ≡ from → eqb s m.to ≡ to → m.after ≡ after → placed m (s, x) ≡ placed_by from to after
  placed-is s from to after f t a =
      ap (λ b. placed_by b (eqb s m.to) m.after) f ∙ ap (λ b. placed_by from b m.after) t ∙ ap (λ b. placed_by from to b) a

  pub placed-other : (s : ℕ) → s ≢ m.from → s ≢ m.to → placed m (s, x) ≡ x ∷ []
  placed-other s f t = placed-is s false false m.after (ne_eqb s m.from f) (ne_eqb s m.to t) refl

  pub placed-from : (s : ℕ) → s ≡ m.from → s ≢ m.to → placed m (s, x) ≡ without m.channel x
  placed-from s f t = placed-is s true false m.after (eq-eqb s m.from f) (ne_eqb s m.to t) refl ∙ append-nil (without m.channel x)

  pub placed-to_after : (s : ℕ) → m.after ≡ true → s ≢ m.from → s ≡ m.to → placed m (s, x) ≡ x ∷ alone m.channel ∷ []
  placed-to_after s a f t = placed-is s false true true (ne_eqb s m.from f) (eq-eqb s m.to t) a

  pub placed-both_after : (s : ℕ) → m.after ≡ true → s ≡ m.from → s ≡ m.to → placed m (s, x) ≡ without m.channel x ++ alone m.channel ∷ []
  placed-both_after s a f t = placed-is s true true true (eq-eqb s m.from f) (eq-eqb s m.to t) a

  pub placed-to_before : (s : ℕ) → m.after ≡ false → s ≢ m.from → s ≡ m.to → placed m (s, x) ≡ alone m.channel ∷ x ∷ []
  placed-to_before s a f t = placed-is s false true false (ne_eqb s m.from f) (eq-eqb s m.to t) a

  pub placed-both_before : (s : ℕ) → m.after ≡ false → s ≡ m.from → s ≡ m.to → placed m (s, x) ≡ alone m.channel ∷ without m.channel x
  placed-both_before s a f t = placed-is s true true false (eq-eqb s m.from f) (eq-eqb s m.to t) a
      ∙ ap (λ ys. alone m.channel ∷ ys) (append-nil (without m.channel x))

-- ---- lists of packets, the first of which has number n
module _ (m : Move) where
  abbrev pub spread : ℕ → List Packet → List Packet
  spread n xs = flat_map (placed m) (enumerate_from n xs)

  spread-append : (n k : ℕ) (xs ys : List Packet) → n + length xs ≡ k → spread n (xs ++ ys) ≡ spread n xs ++ spread k ys
  spread-append n k xs ys e = ap (flat_map (placed m)) (enumerate-append n xs ys)
      ∙ flat_map-append (placed m) (enumerate_from n xs) (enumerate_from (n + length xs) ys)
      ∙ ap (λ j. spread n xs ++ spread j ys) e

  untouched : (xs : List Packet) (n : ℕ) → ((i : ℕ) → n ≤ i → i < n + length xs → (i ≢ m.from) × (i ≢ m.to)) → spread n xs ≡ xs
  untouched [] n apart = refl
  untouched (x ∷ xs) n apart =
      let here = apart n (omega arith) (omega arith) in
      ap (λ ys. ys ++ spread (n + 1) xs) (placed-other m x n here.0 here.1)
      ∙ ap (λ ys. x ∷ ys) (untouched xs (n + 1) (λ i a b. apart i (omega (arith, a)) (omega (arith, b))))

  -- ---- `after`
  -- the packets up to the other completion's, and those behind it
  run-after : (x : Packet) (B C : List Packet) (n : ℕ) → m.after ≡ true → m.from < n → n + length B ≡ m.to
      → spread n ((x ∷ B) ++ C) ≡ (x ∷ B) ++ alone m.channel ∷ C
  run-after x [] C n side l e =
      ap (λ ys. ys ++ spread (n + 1) C) (placed-to_after m x n side (λ h. omega (arith, l, h)) (let z : n ≡ m.to = omega (arith, e) in z))
      ∙ ap (λ ys. x ∷ alone m.channel ∷ ys) (untouched C (n + 1) (λ i a b. (λ h. omega (arith, l, a, h), λ h. omega (arith, e, a, h))))
  run-after x (y ∷ B) C n side l e =
      ap (λ ys. ys ++ spread (n + 1) ((y ∷ B) ++ C)) (placed-other m x n (λ h. omega (arith, l, h)) (λ h. omega (arith, e, h)))
      ∙ ap (λ ys. x ∷ ys) (run-after y B C (n + 1) side (omega (arith, l)) (let z : n + 1 + length B ≡ m.to = omega (arith, e) in z))

  from-after : (P : Packet) (B C : List Packet) → m.after ≡ true → m.from + length B ≡ m.to
      → spread m.from (P ∷ (B ++ C)) ≡ without m.channel P ++ (B ++ alone m.channel ∷ C)
  from-after P [] C side e =
      let same : m.from ≡ m.to = omega (arith, e) in
      ap (λ ys. ys ++ spread (m.from + 1) C) (placed-both_after m P m.from side refl same)
      ∙ ap (λ ys. (without m.channel P ++ alone m.channel ∷ []) ++ ys) (untouched C (m.from + 1)
      (λ i a b. (λ h. omega (arith, a, h), λ h. omega (arith, e, a, h))))
      ∙ append_assoc (without m.channel P) (alone m.channel ∷ []) C
  from-after P (x ∷ B) C side e =
      ap (λ ys. ys ++ spread (m.from + 1) ((x ∷ B) ++ C)) (placed-from m P m.from refl (λ h. omega (arith, e, h)))
      ∙ ap (λ ys. without m.channel P ++ ys) (run-after x B C (m.from + 1) side (omega arith)
      (let z : m.from + 1 + length B ≡ m.to = omega (arith, e) in z))

  pub split-after : (A B C : List Packet) (P : Packet) → m.after ≡ true → length A ≡ m.from → m.from + length B ≡ m.to
      → spread 0 (A ++ P ∷ (B ++ C)) ≡ A ++ (without m.channel P ++ (B ++ alone m.channel ∷ C))
  split-after A B C P side a e =
      spread-append 0 m.from A (P ∷ (B ++ C)) (let z : 0 + length A ≡ m.from = omega (arith, a) in z)
      ∙ ap (λ ys. ys ++ spread m.from (P ∷ (B ++ C))) (untouched A 0 (λ i l k. (λ h. omega (arith, a, k, h), λ h. omega (arith, a, e, k, h))))
      ∙ ap (λ ys. A ++ ys) (from-after P B C side e)

  -- ---- `before`
  to-before : (P : Packet) (B C : List Packet) → m.after ≡ false → m.to + length B ≡ m.from
      → spread m.to (B ++ P ∷ C) ≡ alone m.channel ∷ (B ++ (without m.channel P ++ C))
  to-before P [] C side e =
      let same : m.to ≡ m.from = omega (arith, e) in
      ap (λ ys. ys ++ spread (m.to + 1) C) (placed-both_before m P m.to side same refl)
      ∙ ap (λ ys. (alone m.channel ∷ without m.channel P) ++ ys) (untouched C (m.to + 1)
      (λ i a b. (λ h. omega (arith, e, a, h), λ h. omega (arith, a, h))))
  to-before P (x ∷ B) C side e =
      ap (λ ys. ys ++ spread (m.to + 1) (B ++ P ∷ C)) (placed-to_before m x m.to side (λ h. omega (arith, e, h)) refl)
      ∙ ap (λ ys. alone m.channel ∷ x ∷ ys) (
      spread-append (m.to + 1) m.from B (P ∷ C) (let z : m.to + 1 + length B ≡ m.from = omega (arith, e) in z)
      ∙ ap (λ ys. ys ++ spread m.from (P ∷ C)) (untouched B (m.to + 1) (λ i l k. (λ h. omega (arith, e, k, h), λ h. omega (arith, l, h))))
      ∙ ap (λ ys. B ++ (ys ++ spread (m.from + 1) C)) (placed-from m P m.from refl (λ h. omega (arith, e, h)))
      ∙ ap (λ ys. B ++ (without m.channel P ++ ys)) (untouched C (m.from + 1) (λ i l k. (λ h. omega (arith, l, h), λ h. omega (arith, e, l, h)))))

  pub split-before : (A B C : List Packet) (P : Packet) → m.after ≡ false → length A ≡ m.to → m.to + length B ≡ m.from
      → spread 0 (A ++ (B ++ P ∷ C)) ≡ A ++ alone m.channel ∷ (B ++ (without m.channel P ++ C))
  split-before A B C P side a e =
      spread-append 0 m.to A (B ++ P ∷ C) (let z : 0 + length A ≡ m.to = omega (arith, a) in z)
      ∙ ap (λ ys. ys ++ spread m.to (B ++ P ∷ C)) (untouched A 0 (λ i l k. (λ h. omega (arith, a, e, k, h), λ h. omega (arith, a, k, h))))
      ∙ ap (λ ys. A ++ ys) (to-before P B C side e)

-- ---- the trace as it was, in parts
drop-at : (xs : List Packet) (p : ℕ) (x : Packet) → slice_get xs p ≡ Some x → drop p xs ≡ x ∷ drop (suc p) xs
drop-at [] p x h = absurd cc
drop-at (y ∷ xs) zero x h = ap (λ z. z ∷ xs) (same_Some y x h)
drop-at (y ∷ xs) (suc p) x h = drop-at xs p x h

pub record AfterParts (packets : List Packet) (P : Packet) (p q : ℕ) : Type 0 where
  pub A : List Packet
  pub B : List Packet
  pub C : List Packet
  pub whole : packets ≡ A ++ P ∷ (B ++ C)
  pub long_A : length A ≡ p
  pub long_B : p + length B ≡ q

pub after-parts : (packets : List Packet) (P : Packet) (p q : ℕ) → slice_get packets p ≡ Some P → p ≤ q → q < length packets → AfterParts packets P p q
after-parts packets P p q at l k =
    record {
      A = take p packets;
      B = take (q - p) (drop (p + 1) packets);
      C = drop (q - p) (drop (p + 1) packets);
      whole = sym (ap (λ xs. take p packets ++ P ∷ xs) (take-append-drop (q - p) (drop (p + 1) packets))
          ∙ ap (λ n. take p packets ++ P ∷ drop n packets) (let z : p + 1 ≡ suc p = omega arith in z)
          ∙ ap (λ xs. take p packets ++ xs) (sym (drop-at packets p P at)) ∙ take-append-drop p packets);
      long_A = length-take-le p packets (omega (arith, l, k));
      long_B = (let a = length-take-le (q - p) (drop (p + 1) packets) (let z = length-drop (p + 1) packets in omega (arith, z, l, k)) in omega (arith, a, l));
    }

pub record BeforeParts (packets : List Packet) (P : Packet) (p q : ℕ) : Type 0 where
  pub A : List Packet
  pub B : List Packet
  pub C : List Packet
  pub whole : packets ≡ A ++ (B ++ P ∷ C)
  pub long_A : length A ≡ q
  pub long_B : q + length B ≡ p

pub before-parts : (packets : List Packet) (P : Packet) (p q : ℕ) → slice_get packets p ≡ Some P → q ≤ p → BeforeParts packets P p q
before-parts packets P p q at l =
    let k = slice_get_within packets p P at in
    record {
      A = take q packets;
      B = take (p - q) (drop q packets);
      C = drop (suc p) packets;
      whole = sym (ap (λ xs. take q packets ++ (take (p - q) (drop q packets) ++ xs)) (sym (drop-at packets p P at)
          ∙ ap (λ n. drop n packets) (let z : p ≡ q + (p - q) = omega (arith, l) in z) ∙ sym (drop-drop (p - q) q packets))
          ∙ ap (λ xs. take q packets ++ xs) (take-append-drop (p - q) (drop q packets)) ∙ take-append-drop q packets);
      long_A = length-take-le q packets (omega (arith, l, k));
      long_B = (let a = length-take-le (p - q) (drop q packets) (let z = length-drop q packets in omega (arith, z, l, k)) in omega (arith, a, l));
    }
