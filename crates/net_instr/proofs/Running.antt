-- Code that is run before any code that follows it. Code is listed from its last instruction to its first.
use Rattle.std.proofs.Common.{◌≡◌, ℕ, zero, suc, ◌+◌, ◌==◌, Bool, true, false, if◌then◌else◌, List, [], ◌∷◌, ◌++◌, length, reverse}
use Rattle.std.proofs.Common.{slice_index, slice_set, refl, ap, sym, ◌∙◌, append_assoc, arith}
use Rattle.std.proofs.lemmas.List.{reverse-append, length-reverse}
use Rattle.net_instr.specs.declared.instr.Step.{Step}
use Rattle.net_instr.specs.declared.instr.Instr.{Instr}
use Rattle.net_instr.specs.declared.instr.Instr.TheVariants.{Do, SkipIfZero, Skip}
use Rattle.net_instr.specs.Statements.{choice}
use Rattle.net_instr.specs.Machine.{exec, changed, skips, number_of, AreBelow}

abbrev pub RunsTo : List Instr → List ℕ → List ℕ → Type 0
RunsTo code s u = (ys : List Instr) → exec (reverse code ++ ys) 0 s ≡ exec ys 0 u

pub runs_nothing : (s : List ℕ) → RunsTo [] s s
runs_nothing s = λ ys. refl

pub runs_one : (i : Instr) (s : List ℕ) → skips i s ≡ 0 → RunsTo (i ∷ []) s (changed i s)
runs_one i s h = λ ys. ap (λ k. exec ys k (changed i s)) h

pub runs_then : (a b : List Instr) (s u w : List ℕ) → RunsTo a s u → RunsTo b u w → RunsTo (b ++ a) s w
runs_then a b s u w f g = λ ys.
    ap (λ c. exec (c ++ ys) 0 s) (reverse-append b a)
    ∙ ap (λ c. exec c 0 s) (append_assoc (reverse a) (reverse b) ys)
    ∙ f (reverse b ++ ys) ∙ g ys

-- code that is run first, then one instruction
pub runs_do : (a : List Instr) (to : ℕ) (step : Step) (s u : List ℕ) → RunsTo a s u
    → RunsTo (Do to step ∷ a) s (slice_set u to (number_of step u))
runs_do a to step s u f =
    runs_then a (Do to step ∷ []) s u (slice_set u to (number_of step u)) f (runs_one (Do to step) u refl)

skip_over : (xs ys : List Instr) (k j : ℕ) (s : List ℕ) → j ≡ length xs + k → exec (xs ++ ys) j s ≡ exec ys k s
skip_over [] ys k j s h = let e : j ≡ k = omega (arith, h) in ap (λ n. exec ys n s) e
skip_over (x ∷ xs) ys k zero s h = absurd (omega (arith, h))
skip_over (x ∷ xs) ys k (suc j) s h = skip_over xs ys k j s (omega (arith, h))

choice_order : (c : ℕ) (xs ys zs : List Instr) → reverse (choice c xs ys) ++ zs
    ≡ SkipIfZero c (length xs + 1) ∷ (reverse xs ++ (Skip (length ys) ∷ (reverse ys ++ zs)))
choice_order c xs ys zs =
    let a : List Instr = SkipIfZero c (length xs + 1) ∷ [] in
    let b : List Instr = Skip (length ys) ∷ [] in
    let e : reverse (choice c xs ys) ≡ ((a ++ reverse xs) ++ b) ++ reverse ys =
    reverse-append ys (b ++ (xs ++ a)) ∙ ap (λ l. l ++ reverse ys)
    (reverse-append b (xs ++ a) ∙ ap (λ l. l ++ b) (reverse-append xs a)) in
    ap (λ l. l ++ zs) e
    ∙ ap (λ l. SkipIfZero c (length xs + 1) ∷ l) (append_assoc (reverse xs ++ b) (reverse ys) zs
    ∙ append_assoc (reverse xs) b (reverse ys ++ zs))

first_at : (b : Bool) (m : ℕ) → b ≡ true → (if b then m else 0) ≡ m
first_at b m h = ap (λ t. if t then m else 0) h

other_at : (b : Bool) (m : ℕ) → b ≡ false → (if b then m else 0) ≡ 0
other_at b m h = ap (λ t. if t then m else 0) h

runs_other : (c : ℕ) (xs ys : List Instr) (s u : List ℕ) → (slice_index s c == 0) ≡ true → RunsTo ys s u → RunsTo (choice c xs ys) s u
runs_other c xs ys s u h f = λ zs.
    let rest : List Instr = Skip (length ys) ∷ (reverse ys ++ zs) in
    ap (λ l. exec l 0 s) (choice_order c xs ys zs)
    ∙ ap (λ k. exec (reverse xs ++ rest) k s) (first_at (slice_index s c == 0) (length xs + 1) h)
    ∙ skip_over (reverse xs) rest 1 (length xs + 1) s (ap (λ n. n + 1) (sym (length-reverse xs)))
    ∙ f zs

runs_chosen : (c : ℕ) (xs ys : List Instr) (s u : List ℕ) → (slice_index s c == 0) ≡ false → RunsTo xs s u → RunsTo (choice c xs ys) s u
runs_chosen c xs ys s u h f = λ zs.
    let rest : List Instr = Skip (length ys) ∷ (reverse ys ++ zs) in
    ap (λ l. exec l 0 s) (choice_order c xs ys zs)
    ∙ ap (λ k. exec (reverse xs ++ rest) k s) (other_at (slice_index s c == 0) (length xs + 1) h)
    ∙ f rest
    ∙ skip_over (reverse ys) zs 0 (length ys) u (omega (arith, length-reverse ys))

by_test : (b : Bool) (P : Type 0) → (b ≡ true → P) → (b ≡ false → P) → P
by_test true P f g = f refl
by_test false P f g = g refl

pub runs_choice : (c : ℕ) (xs ys : List Instr) (s u : List ℕ) → ((slice_index s c == 0) ≡ true → RunsTo ys s u)
    → ((slice_index s c == 0) ≡ false → RunsTo xs s u) → RunsTo (choice c xs ys) s u
runs_choice c xs ys s u f g =
    by_test (slice_index s c == 0) (RunsTo (choice c xs ys) s u) (λ h. runs_other c xs ys s u h (f h))
    (λ h. runs_chosen c xs ys s u h (g h))

-- parts of code that lies below a slot
pub first_below : (limit : ℕ) (xs ys : List Instr) → AreBelow limit (xs ++ ys) → AreBelow limit xs
first_below limit [] ys h = tt
first_below limit (x ∷ xs) ys h = (h.0, first_below limit xs ys h.1)

pub last_below : (limit : ℕ) (xs ys : List Instr) → AreBelow limit (xs ++ ys) → AreBelow limit ys
last_below limit [] ys h = h
last_below limit (x ∷ xs) ys h = last_below limit xs ys h.1
