-- Where nothing blocks a move, its channel does nothing on the way.
use Rattle.std.proofs.Common.{◌≡◌, ℕ, suc, ◌+◌, ◌<◌, ◌≤◌, ◌++◌, Bool, true, false, List, [], ◌∷◌, Some, length, slice_get}
use Rattle.std.proofs.Common.{refl, ap, sym, subst, ◌∙◌, ⊎_elim, arith, append_assoc}
use Rattle.std.specs.List.{AllByRecursion}
use Rattle.std.proofs.lemmas.Bool.{cases_Bool}
use Rattle.trace_model.specs.vidi_bits.Number.{has}
use Rattle.trace_model.specs.declared.event.Kind.{Kind}
use Rattle.trace_model.specs.declared.event.Kind.TheVariants.{Start, End, Reset}
use Rattle.trace_model.specs.declared.packet.Packet.{Packet}
use Rattle.trace_edit.specs.Moved.{does_at, shows}
use Rattle.trace_edit.specs.Stories.{told_in, story, alternating}
use Rattle.trace_edit.proofs.Keeping.{both}
use Rattle.trace_edit.proofs.Single.{start_of, end_of, told-is}

-- channel c starts in none of these packets, and none is a reset
abbrev pub Idle : ℕ → List Packet → Type 0
Idle c packets = AllByRecursion (λ (x : Packet). (has x.starts c ≡ false) × (x.reset ≡ false)) packets

pub idle-from : (c : ℕ) (packets B : List Packet) (n : ℕ) → ((i : ℕ) (x : Packet) → slice_get B i ≡ Some x → slice_get packets (n + i) ≡ Some x)
    → ((r : ℕ) → n ≤ r → r < n + length B → does_at Start c packets r ≡ false)
    → ((r : ℕ) → n ≤ r → r < n + length B → does_at Reset 0 packets r ≡ false) → Idle c B
idle-from c packets [] n at starts resets = tt
idle-from c packets (x ∷ B) n at starts resets = (
  (
    sym (ap (shows Start c) (at 0 x refl)) ∙ starts (n + 0) (omega arith) (omega arith),
    sym (ap (shows Reset 0) (at 0 x refl)) ∙ resets (n + 0) (omega arith) (omega arith),
  ),
  idle-from c packets B (n + 1)
      (λ i y h. subst (λ k. slice_get packets k ≡ Some y) (let z : n + suc i ≡ n + 1 + i = omega arith in z) (at (suc i) y h))
      (λ r a b. starts r (omega (arith, a)) (omega (arith, b)))
      (λ r a b. resets r (omega (arith, a)) (omega (arith, b))),
)

told-idle : (c : ℕ) (x : Packet) → (has x.starts c ≡ false) × (x.reset ≡ false) → told_in c x ≡ end_of (has x.ends c)
told-idle c x h = told-is c x h.1 ∙ ap (λ b. start_of b ++ end_of (has x.ends c)) h.0

after-end : (fly : Bool) (xs ys : List Kind) → alternating fly (xs ++ End ∷ ys) ≡ true → alternating false ys ≡ true
after-end true [] ys h = h
after-end false [] ys h = absurd cc
after-end true (Start ∷ xs) ys h = absurd cc
after-end false (Start ∷ xs) ys h = after-end true xs ys h
after-end true (End ∷ xs) ys h = after-end false xs ys h
after-end false (End ∷ xs) ys h = absurd cc
after-end true (Reset ∷ xs) ys h = after-end false xs ys h
after-end false (Reset ∷ xs) ys h = after-end false xs ys h

-- ---- behind a completion
only-ends : (c : ℕ) (B : List Packet) (zs : List Kind) → Idle c B → alternating false (story c B ++ zs) ≡ true → story c B ≡ []
only-ends c [] zs idle h = refl
only-ends c (x ∷ B) zs idle h = ⊎_elim
    (λ (t : has x.ends c ≡ true).
    let bad = subst (λ ks. alternating false ((ks ++ story c B) ++ zs) ≡ true) (told-idle c x idle.0 ∙ ap end_of t) h in absurd cc)
    (λ (t : has x.ends c ≡ false).
    let none : told_in c x ≡ [] = told-idle c x idle.0 ∙ ap end_of t in
    ap (λ ks. ks ++ story c B) none
    ∙ only-ends c B zs idle.1 (subst (λ ks. alternating false ((ks ++ story c B) ++ zs) ≡ true) none h))
    (cases_Bool (has x.ends c))

told-end : (c : ℕ) (P : Packet) → has P.ends c ≡ true → P.reset ≡ false → told_in c P ≡ start_of (has P.starts c) ++ End ∷ []
told-end c P there plain = told-is c P plain ∙ ap (λ b. start_of (has P.starts c) ++ end_of b) there

pub quiet-after : (c : ℕ) (A B C : List Packet) (P : Packet) → has P.ends c ≡ true → P.reset ≡ false
    → alternating false (story c (A ++ P ∷ (B ++ C))) ≡ true → Idle c B → story c B ≡ []
quiet-after c A B C P there plain alt idle =
    let S = start_of (has P.starts c) in
    let parts : story c (A ++ P ∷ (B ++ C)) ≡ (story c A ++ S) ++ End ∷ (story c B ++ story c C) =
    both c A (P ∷ (B ++ C))
    ∙ ap (λ ks. story c A ++ (ks ++ story c (B ++ C))) (told-end c P there plain)
    ∙ ap (λ ks. story c A ++ ((S ++ End ∷ []) ++ ks)) (both c B C)
    ∙ ap (λ ks. story c A ++ ks) (append_assoc S (End ∷ []) (story c B ++ story c C))
    ∙ sym (append_assoc (story c A) S (End ∷ (story c B ++ story c C))) in
    only-ends c B (story c C) idle (after-end false (story c A ++ S) (story c B ++ story c C) (sym (ap (alternating false) parts) ∙ alt))

-- ---- before one
no-second : (c : ℕ) (B : List Packet) (zs : List Kind) → Idle c B → alternating false (story c B ++ End ∷ zs) ≡ true → ⊥
no-second c [] zs idle h = absurd cc
no-second c (x ∷ B) zs idle h = ⊎_elim
    (λ (t : has x.ends c ≡ true).
    let z = subst (λ ks. alternating false ((ks ++ story c B) ++ End ∷ zs) ≡ true) (told-idle c x idle.0 ∙ ap end_of t) h in absurd cc)
    (λ (t : has x.ends c ≡ false).
    no-second c B zs idle.1 (subst (λ ks. alternating false ((ks ++ story c B) ++ End ∷ zs) ≡ true) (told-idle c x idle.0 ∙ ap end_of t) h))
    (cases_Bool (has x.ends c))

quiet-story : (c : ℕ) (before : List Kind) (B : List Packet) (zs : List Kind) → Idle c B
    → alternating false (before ++ (story c B ++ End ∷ zs)) ≡ true → story c B ≡ []
quiet-story c before [] zs idle h = refl
quiet-story c before (x ∷ B) zs idle h = ⊎_elim
    (λ (t : has x.ends c ≡ true).
    let z = subst (λ ks. alternating false (before ++ ((ks ++ story c B) ++ End ∷ zs)) ≡ true) (told-idle c x idle.0 ∙ ap end_of t) h in
    absurd (no-second c B zs idle.1 (after-end false before (story c B ++ End ∷ zs) z)))
    (λ (t : has x.ends c ≡ false).
    let none = told-idle c x idle.0 ∙ ap end_of t in
    ap (λ ks. ks ++ story c B) none
    ∙ quiet-story c before B zs idle.1 (subst (λ ks. alternating false (before ++ ((ks ++ story c B) ++ End ∷ zs)) ≡ true) none h))
    (cases_Bool (has x.ends c))

pub quiet-before : (c : ℕ) (A B C : List Packet) (P : Packet) → has P.ends c ≡ true → P.reset ≡ false
    → alternating false (story c (A ++ (B ++ P ∷ C))) ≡ true → Idle c B → has P.starts c ≡ false → story c B ≡ []
quiet-before c A B C P there plain alt idle none =
    let told : told_in c P ≡ End ∷ [] = told-end c P there plain ∙ ap (λ b. start_of b ++ End ∷ []) none in
    let parts : story c (A ++ (B ++ P ∷ C)) ≡ story c A ++ (story c B ++ End ∷ story c C) =
    both c A (B ++ P ∷ C)
    ∙ ap (λ ks. story c A ++ ks) (both c B (P ∷ C) ∙ ap (λ ks. story c B ++ (ks ++ story c C)) told) in
    quiet-story c (story c A) B (story c C) idle (sym (ap (alternating false) parts) ∙ alt)
