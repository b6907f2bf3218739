-- An instruction fetched, and code of which the first instructions are left out.
use Rattle.std.proofs.Common.{◌≡◌, ℕ, zero, suc, ◌+◌, ◌<◌, ◌≤◌, List, [], ◌∷◌, length, get_or, drop, refl, ap, sym, ◌∙◌, arith}
use Rattle.net_instr.specs.declared.instr.Instr.{Instr}
use Rattle.net_instr.specs.Machine.{exec, changed, skips}

pub skipped : (xs : List Instr) (k : ℕ) (s : List ℕ) → exec xs k s ≡ exec (drop k xs) 0 s
skipped [] zero s = refl
skipped [] (suc k) s = refl
skipped (i ∷ xs) zero s = refl
skipped (i ∷ xs) (suc k) s = skipped xs k s

pub past : (xs : List Instr) (k : ℕ) (s : List ℕ) → length xs ≤ k → exec (drop k xs) 0 s ≡ s
past [] zero s l = refl
past [] (suc k) s l = refl
past (i ∷ xs) zero s l = absurd (omega arith)
past (i ∷ xs) (suc k) s l = past xs k s (omega arith)

pub stepped : (code : List Instr) (at : ℕ) (s t : List ℕ) (r : ℕ) (d : Instr) → at < length code → t ≡ changed (get_or code at d) s
    → r ≡ skips (get_or code at d) s → exec (drop (at + (1 + r)) code) 0 t ≡ exec (drop at code) 0 s
stepped [] at s t r d l e f = absurd (omega arith)
stepped (i ∷ code) zero s t r d l e f =
    let n : 0 + (1 + r) ≡ suc r = omega arith in
    ap (λ k. exec (drop k (i ∷ code)) 0 t) n
    ∙ sym (skipped code r t) ∙ ap (λ u. exec code r u) e ∙ ap (λ k. exec code k (changed i s)) f
stepped (i ∷ code) (suc at) s t r d l e f =
    let n : suc at + (1 + r) ≡ suc (at + (1 + r)) = omega arith in
    ap (λ k. exec (drop k (i ∷ code)) 0 t) n ∙ stepped code at s t r d (omega arith) e f
