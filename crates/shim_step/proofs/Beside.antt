-- Elements of a list by the full names that stand beside them, and words in pieces.
use Rattle.std.proofs.Common.{◌≡◌, ◌≢◌, ℕ, suc, ◌+◌, ◌<◌, Bool, true, false, if◌then◌else◌, List, [], ◌∷◌, map}
use Rattle.std.proofs.Common.{length, get_or, take, drop, refl, sym, ap, ◌∙◌, arith}
use Rattle.std.specs.List.{AllByRecursion}
use Rattle.shim_step.proofs.Elements.{Distinct}
use Rattle.flat_parts.specs.vlog_driver.Names.{Full, words_from, same_path}
use Rattle.flat_parts.proofs.vlog_driver_lemmas.Paths.{path_same, path_itself}

is_false : (b : Bool) → (b ≡ true → ⊥) → b ≡ false
is_false true never = absurd (never refl)
is_false false never = refl

other_path : (a b : Full) → a ≢ b → same_path a b ≡ false
other_path a b other = is_false (same_path a b) (λ e. other (path_same a b e))

module _ {X : Type 0} (none : X) where
  -- the element beside the first name that is this
  abbrev pub beside : List Full → List X → Full → X
  beside [] xs full = none
  beside (n ∷ ns) [] full = none
  beside (n ∷ ns) (x ∷ xs) full = if same_path n full then x else beside ns xs full

  past : (n : Full) (x : X) (ns all : List Full) (xs : List X) → AllByRecursion (λ (y : Full). n ≢ y) ns
      → map (beside (n ∷ all) (x ∷ xs)) ns ≡ map (beside all xs) ns
  past n x [] all xs h = refl
  past n x (y ∷ ns) all xs h =
      let e : same_path n y ≡ false = other_path n y h.0 in
      rw e (ap (λ zs. beside all xs y ∷ zs) (past n x ns all xs h.1))

  pub all_beside : (ns : List Full) (xs : List X) → Distinct ns → length xs ≡ length ns → map (beside ns xs) ns ≡ xs
  all_beside [] [] h l = refl
  all_beside [] (x ∷ xs) h l = absurd (omega (arith, l))
  all_beside (n ∷ ns) [] h l = absurd (omega (arith, l))
  all_beside (n ∷ ns) (x ∷ xs) h l =
      let e : same_path n n ≡ true = path_itself n in
      rw e (ap (λ zs. x ∷ zs) (past n x ns ns xs h.0 ∙ all_beside ns xs h.1 (omega (arith, l))))

-- ---- words in pieces
abbrev pub pieces : List ℕ → List ℕ → List (List ℕ)
pieces [] ws = []
pieces (n ∷ ns) ws = take n ws ∷ pieces ns (drop n ws)

pub pieces_long : (ns ws : List ℕ) → length (pieces ns ws) ≡ length ns
pieces_long [] ws = refl
pieces_long (n ∷ ns) ws = ap suc (pieces_long ns (drop n ws))

-- the words of a list from place k on
pub words_are : (xs : List ℕ) (f : ℕ → ℕ) (k : ℕ) → ((i : ℕ) → i < length xs → f (k + i) ≡ get_or xs i 0) → words_from f k (length xs) ≡ xs
words_are [] f k h = refl
words_are (x ∷ xs) f k h =
    let first : f k ≡ x = (let at : k + 0 ≡ k = omega arith in ap f (sym at) ∙ h 0 (omega arith)) in
    ap (λ z. z ∷ words_from f (suc k) (length xs)) first
    ∙ ap (λ zs. x ∷ zs) (words_are xs f (suc k)
    (λ i l. let at : suc k + i ≡ k + suc i = omega arith in ap f at ∙ h (suc i) (omega (arith, l))))
