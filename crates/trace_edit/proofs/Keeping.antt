-- A move over packets in which its channel does nothing changes no channel's story.
use Rattle.std.proofs.Common.{◌≡◌, ◌≢◌, ℕ, ◌++◌, true, false, List, [], ◌∷◌, ap, sym, subst, ◌∙◌, ⊎_elim, append_assoc, append-nil}
use Rattle.std.proofs.lemmas.Bool.{cases_eq}
use Rattle.std.proofs.lemmas.List.Concat.{flat_map-append}
use Rattle.trace_model.specs.vidi_bits.Number.{has}
use Rattle.trace_model.specs.declared.event.Kind.TheVariants.{End}
use Rattle.trace_model.specs.declared.packet.Packet.{Packet}
use Rattle.trace_edit.specs.Moved.{alone, without}
use Rattle.trace_edit.specs.Stories.{told_in, story}
use Rattle.trace_edit.proofs.Single.{start_of, end_of, told-is, told-own, told-other, story-without, cleared, kept-bit}

pub both : (d : ℕ) (xs ys : List Packet) → story d (xs ++ ys) ≡ story d xs ++ story d ys
both d xs ys = flat_map-append (told_in d) xs ys

module _ (c : ℕ) (P : Packet) (there : has P.ends c ≡ true) (plain : P.reset ≡ false) where
  -- of the channel itself
  own-told : told_in c P ≡ start_of (has P.starts c) ++ End ∷ []
  own-told = told-is c P plain ∙ ap (λ b. start_of (has P.starts c) ++ end_of b) there

  own-left : story c (without c P) ≡ start_of (has P.starts c)
  own-left = story-without c c P plain ∙ ap (λ b. start_of (has P.starts c) ++ end_of b) (cleared P.ends c there)
      ∙ append-nil (start_of (has P.starts c))

  own-after : (B C : List Packet) → story c B ≡ [] → story c (without c P ++ (B ++ alone c ∷ C)) ≡ story c (P ∷ (B ++ C))
  own-after B C none =
      both c (without c P) (B ++ alone c ∷ C)
      ∙ ap (λ ks. ks ++ story c (B ++ alone c ∷ C)) own-left
      ∙ ap (λ ks. start_of (has P.starts c) ++ ks) (both c B (alone c ∷ C)
      ∙ ap (λ ks. ks ++ (told_in c (alone c) ++ story c C)) none ∙ ap (λ ks. ks ++ story c C) (told-own c))
      ∙ sym (append_assoc (start_of (has P.starts c)) (End ∷ []) (story c C))
      ∙ ap (λ ks. ks ++ story c C) (sym own-told)
      ∙ ap (λ ks. told_in c P ++ ks) (sym (both c B C ∙ ap (λ ks. ks ++ story c C) none))

  own-before : (B C : List Packet) → story c B ≡ [] → has P.starts c ≡ false
      → story c (alone c ∷ (B ++ (without c P ++ C))) ≡ story c (B ++ P ∷ C)
  own-before B C none idle =
      let no : start_of (has P.starts c) ≡ [] = ap start_of idle in
      ap (λ ks. told_in c (alone c) ++ ks) (both c B (without c P ++ C) ∙ ap (λ ks. ks ++ story c (without c P ++ C)) none
      ∙ both c (without c P) C ∙ ap (λ ks. ks ++ story c C) (own-left ∙ no))
      ∙ ap (λ ks. ks ++ story c C) (told-own c)
      ∙ sym (both c B (P ∷ C) ∙ ap (λ ks. ks ++ (told_in c P ++ story c C)) none
      ∙ ap (λ ks. ks ++ story c C) (own-told ∙ ap (λ ks. ks ++ End ∷ []) no))

  -- of another one
  other-left : (d : ℕ) → d ≢ c → story d (without c P) ≡ told_in d P
  other-left d n = story-without c d P plain ∙ ap (λ b. start_of (has P.starts d) ++ end_of b) (kept-bit P.ends c d n) ∙ sym (told-is d P plain)

  other-after : (d : ℕ) (B C : List Packet) → d ≢ c → story d (without c P ++ (B ++ alone c ∷ C)) ≡ story d (P ∷ (B ++ C))
  other-after d B C n =
      both d (without c P) (B ++ alone c ∷ C)
      ∙ ap (λ ks. ks ++ story d (B ++ alone c ∷ C)) (other-left d n)
      ∙ ap (λ ks. told_in d P ++ ks) (both d B (alone c ∷ C) ∙ ap (λ ks. story d B ++ (ks ++ story d C)) (told-other c d n) ∙ sym (both d B C))

  other-before : (d : ℕ) (B C : List Packet) → d ≢ c → story d (alone c ∷ (B ++ (without c P ++ C))) ≡ story d (B ++ P ∷ C)
  other-before d B C n =
      ap (λ ks. ks ++ story d (B ++ (without c P ++ C))) (told-other c d n)
      ∙ both d B (without c P ++ C)
      ∙ ap (λ ks. story d B ++ ks) (both d (without c P) C ∙ ap (λ ks. ks ++ story d C) (other-left d n))
      ∙ sym (both d B (P ∷ C))

  behind : (d : ℕ) (A xs ys : List Packet) → story d xs ≡ story d ys → story d (A ++ xs) ≡ story d (A ++ ys)
  behind d A xs ys e = both d A xs ∙ ap (λ ks. story d A ++ ks) e ∙ sym (both d A ys)

  pub after-keeps : (A B C : List Packet) → story c B ≡ [] → (d : ℕ)
      → story d (A ++ (without c P ++ (B ++ alone c ∷ C))) ≡ story d (A ++ P ∷ (B ++ C))
  after-keeps A B C none d = behind d A (without c P ++ (B ++ alone c ∷ C)) (P ∷ (B ++ C)) (⊎_elim
      (λ (e : d ≡ c). subst (λ k. story k (without c P ++ (B ++ alone c ∷ C)) ≡ story k (P ∷ (B ++ C))) (sym e) (own-after B C none))
      (λ (n : d ≢ c). other-after d B C n)
      (cases_eq d c))

  pub before-keeps : (A B C : List Packet) → story c B ≡ [] → has P.starts c ≡ false → (d : ℕ)
      → story d (A ++ alone c ∷ (B ++ (without c P ++ C))) ≡ story d (A ++ (B ++ P ∷ C))
  before-keeps A B C none idle d = behind d A (alone c ∷ (B ++ (without c P ++ C))) (B ++ P ∷ C) (⊎_elim
      (λ (e : d ≡ c). subst (λ k. story k (alone c ∷ (B ++ (without c P ++ C))) ≡ story k (B ++ P ∷ C)) (sym e) (own-before B C none idle))
      (λ (n : d ≢ c). other-before d B C n)
      (cases_eq d c))
