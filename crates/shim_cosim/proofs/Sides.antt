-- The flat ports of one direction among generated ports.
use Rattle.std.proofs.Common.{◌≡◌, ℕ, zero, suc, ◌+◌, List, [], ◌∷◌, refl, ap}
use Rattle.net_design.specs.declared.design.Direction.TheVariants.{Input, Output}
use Rattle.net_design.specs.declared.design.Port.{Port}
use Rattle.shim_gen.specs.shim_trees.Pieces.{Name, each, upto, input, output}
use Rattle.shim_cosim.proofs.Ports.{flat, side}

abbrev pub in_port : Name → ℕ → Port
in_port x w = flat (input x w)

abbrev pub out_port : Name → ℕ → Port
out_port x w = flat (output x w)

module _ {X : Type 0} (name : ℕ → X → Name) (width : X → ℕ) where
  pub ins_inputs : (k : ℕ) (xs : List X) → side Input (each (λ i x. input (name i x) (width x)) k xs) ≡ each (λ i x. in_port (name i x) (width x)) k xs
  ins_inputs k [] = refl
  ins_inputs k (x ∷ xs) = ap (λ ps. in_port (name k x) (width x) ∷ ps) (ins_inputs (k + 1) xs)

  pub outs_inputs : (k : ℕ) (xs : List X) → side Output (each (λ i x. input (name i x) (width x)) k xs) ≡ []
  outs_inputs k [] = refl
  outs_inputs k (x ∷ xs) = outs_inputs (k + 1) xs

  pub ins_outputs : (k : ℕ) (xs : List X) → side Input (each (λ i x. output (name i x) (width x)) k xs) ≡ []
  ins_outputs k [] = refl
  ins_outputs k (x ∷ xs) = ins_outputs (k + 1) xs

  pub outs_outputs : (k : ℕ) (xs : List X)
      → side Output (each (λ i x. output (name i x) (width x)) k xs) ≡ each (λ i x. out_port (name i x) (width x)) k xs
  outs_outputs k [] = refl
  outs_outputs k (x ∷ xs) = ap (λ ps. out_port (name k x) (width x) ∷ ps) (outs_outputs (k + 1) xs)

module _ (name : ℕ → Name) (width : ℕ) where
  pub ins_upto : (k count : ℕ) → side Input (upto (λ j. input (name j) width) k count) ≡ upto (λ j. in_port (name j) width) k count
  ins_upto k zero = refl
  ins_upto k (suc count) = ap (λ ps. in_port (name k) width ∷ ps) (ins_upto (k + 1) count)

  pub outs_upto : (k count : ℕ) → side Output (upto (λ j. input (name j) width) k count) ≡ []
  outs_upto k zero = refl
  outs_upto k (suc count) = outs_upto (k + 1) count
