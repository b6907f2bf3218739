-- Passes that stop at the first fault.
use Rattle.std.proofs.Common.{◌≡◌, ℕ, ◌+◌, ◌<◌, Bool, true, false, not, List, [], ◌∷◌, ◌++◌, length, get_or, drop, Some, refl, ap, sym, ◌∙◌}
use Rattle.std.specs.List.{zip}
use Rattle.std.proofs.lemmas.List.{drop_more}
use Rattle.trace_model.specs.vidi_bits.Findings.{first, told_if}
use Rattle.axi_burst.specs.declared.axi.Broken.{Broken}
use Rattle.axi_burst.specs.declared.transfers.Beat.{Beat}
use Rattle.axi_burst.specs.Bursts.{broken, broken_from, shows_last}

module _ {X : Type 0} (rule channel : ℕ) (passes : ℕ → X → Bool) (xs : List X) (i : ℕ) (d : X) (all : List Broken) (l : i < length xs)
    (so_far : broken_from rule channel passes i (drop i xs) ≡ all) where
  abbrev behind : List Broken
  behind = broken_from rule channel passes (i + 1) (drop (i + 1) xs)

  parts : all ≡ told_if (not (passes i (get_or xs i d))) (broken rule channel i) ++ behind
  parts = sym so_far ∙ ap (broken_from rule channel passes i) (drop_more xs i d l)

  pub passed : passes i (get_or xs i d) ≡ true → behind ≡ all
  passed h = sym (parts ∙ ap (λ b. told_if (not b) (broken rule channel i) ++ behind) h)

  pub stopped : passes i (get_or xs i d) ≡ false → first all ≡ Some (broken rule channel i)
  stopped h = ap first (parts ∙ ap (λ b. told_if (not b) (broken rule channel i) ++ behind) h)

-- no beat is judged without a LAST that its address asks for
zip-none : {X Y : Type 0} (xs : List X) → zip {K = X} {X = Y} xs [] ≡ []
zip-none [] = refl
zip-none (x ∷ xs) = refl

pub none-asked : (channel i : ℕ) (xs : List Beat) (lasts : List Bool) (all : List Broken) → broken_from 2 channel shows_last i (zip xs lasts) ≡ all
    → lasts ≡ [] → all ≡ []
none-asked channel i xs lasts all so_far e =
    sym so_far ∙ ap (λ ys. broken_from 2 channel shows_last i (zip xs ys)) e
    ∙ ap (broken_from 2 channel shows_last i) (zip-none {X = Beat} {Y = Bool} xs)
