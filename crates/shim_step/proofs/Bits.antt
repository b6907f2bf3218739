-- The equations of shims in bits.
use Rattle.std.proofs.Common.{◌≡◌, ℕ, ◌-◌, ◌%◌, ◌<◌, ◌^◌, ◌==◌, Bool, true, false, ◌&&◌, not, if◌then◌else◌, ◌++◌}
use Rattle.std.proofs.Common.{refl, ap, ◌∙◌}
use Rattle.std.specs.Prelude.{max, bit_and, codes}
use Rattle.std.specs.Fmt.{decimal}
use Rattle.std.proofs.Math.Nat.{mod-eq_of_lt, zero-mod}
use Rattle.net_order.specs.vidi_bits.Number.{truth}
use Rattle.vlog_tree.specs.Tree.{ChoiceExpr}
use Rattle.vlog_tree.specs.declared.expr.NumberKind.TheVariants.{Based}
use Rattle.vlog_tree.specs.Tree.{ExprOf}
use Rattle.shim_trees.specs.vlog_size.Names.{Readable}
use Rattle.shim_trees.specs.vlog_size.Size.{or_zero}
use Rattle.shim_trees.specs.vlog_size.Literal.{literal_number}
use Rattle.net_design.specs.declared.values.Values.{Values}
use Rattle.flat_parts.specs.vlog_block.Value.{value, width_of}
use Rattle.flat_parts.specs.vlog_driver.Items.{AssignHolds}
use Rattle.shim_trees.specs.Pieces.{Name, ident, net, target, both, not_net, zero_of}
use Rattle.shim_step.specs.Nets.{IsNet}
use Rattle.shim_step.proofs.Whole.{read_width, read_number, assigned}

-- the name is a net of one bit
abbrev pub IsBit : Readable → Values → Name → Bool → Type 0
IsBit r v x b = IsNet r v x 1 (truth b)

module _ (r : Readable) (v : Values) where
  pub width_here : (x : Name) (b : Bool) → IsBit r v x b → width_of r (net x) ≡ 1
  width_here x b n = read_width r v (ident x) 1 (truth b) n

  pub number_here : (x : Name) (b : Bool) → IsBit r v x b → (m : ℕ) → value r v (net x) m ≡ truth b
  number_here x b n m = read_number r v (ident x) 1 (truth b) n m

  pub and_table : (a b : Bool) → bit_and (truth a) (truth b) % 2 ^ 1 ≡ truth (a && b)
  and_table true true = refl
  and_table true false = refl
  and_table false true = refl
  and_table false false = refl

  not_table : (a b : Bool) → bit_and (truth a) (2 ^ 1 - 1 - truth b % 2 ^ 1) % 2 ^ 1 ≡ truth (a && not b)
  not_table true true = refl
  not_table true false = refl
  not_table false true = refl
  not_table false false = refl

  -- `assign x = a & b`
  pub and_of : (x a b : Name) (n : ℕ) (p q : Bool) → IsNet r v x 1 n → IsBit r v a p → IsBit r v b q
      → AssignHolds r v (record { target = target x; value = both (net a) (net b) }) → n ≡ truth (p && q)
  and_of x a b n p q is_x is_a is_b h =
      let e : n ≡ value r v (both (net a) (net b)) (max 1 (width_of r (both (net a) (net b)))) % 2 ^ 1 =
      assigned r v (ident x) 1 n is_x r v (both (net a) (net b)) h in
      let m : ℕ = max 1 (width_of r (both (net a) (net b))) in
      e
      ∙ ap (λ y. bit_and y (value r v (net b) m) % 2 ^ 1) (number_here a p is_a m)
      ∙ ap (λ y. bit_and (truth p) y % 2 ^ 1) (number_here b q is_b m)
      ∙ and_table p q

  -- `assign x = a & ~ b`
  pub and_not : (x a b : Name) (n : ℕ) (p q : Bool) → IsNet r v x 1 n → IsBit r v a p → IsBit r v b q
      → AssignHolds r v (record { target = target x; value = both (net a) (not_net b) }) → n ≡ truth (p && not q)
  and_not x a b n p q is_x is_a is_b h =
      let e : n ≡ value r v (both (net a) (not_net b)) (max 1 (width_of r (both (net a) (not_net b)))) % 2 ^ 1 =
      assigned r v (ident x) 1 n is_x r v (both (net a) (not_net b)) h in
      let w : max 1 (width_of r (both (net a) (not_net b))) ≡ 1 =
      ap (λ z. max 1 (max z (width_of r (not_net b)))) (width_here a p is_a) ∙ ap (λ z. max 1 (max 1 z)) (width_here b q is_b) in
      e
      ∙ ap (λ m. value r v (both (net a) (not_net b)) m % 2 ^ 1) w
      ∙ ap (λ y. bit_and y (2 ^ 1 - 1 - value r v (net b) 1 % 2 ^ 1) % 2 ^ 1) (number_here a p is_a 1)
      ∙ ap (λ y. bit_and (truth p) (2 ^ 1 - 1 - y % 2 ^ 1) % 2 ^ 1) (number_here b q is_b 1)
      ∙ not_table p q

  small : (x w : ℕ) → x < 2 ^ w → x % 2 ^ w ≡ x
  small x w h = mod-eq_of_lt h

  pick : (p : Bool) (x y w : ℕ) → x < 2 ^ w → y ≡ 0 → (if truth p == 0 then y else x) % 2 ^ w ≡ (if p then x else 0)
  pick true x y w fits none = small x w fits
  pick false x y w fits none = ap (λ z. z % 2 ^ w) none ∙ zero-mod (2 ^ w)

  -- `assign k = b ? s : W'd0`
  pub choice_of : (k b s : Name) (w l n x : ℕ) (p : Bool) → IsNet r v k w n → IsBit r v b p → IsNet r v s w x
      → or_zero (literal_number Based (decimal l ++ codes "'d0")) ≡ 0
      → AssignHolds r v (record { target = target k; value = ChoiceExpr (net b) (net s) (zero_of l) }) → n ≡ (if p then x else 0)
  choice_of k b s w l n x p is_k is_b is_s none h =
      let e : ExprOf ℕ = ChoiceExpr (net b) (net s) (zero_of l) in
      let m : ℕ = max w (width_of r e) in
      assigned r v (ident k) w n is_k r v e h
      ∙ ap (λ y. (if y == 0 then value r v (zero_of l) m else value r v (net s) m) % 2 ^ w) (number_here b p is_b (width_of r (net b)))
      ∙ ap (λ y. (if truth p == 0 then value r v (zero_of l) m else y) % 2 ^ w) (read_number r v (ident s) w x is_s m)
      ∙ pick p x (value r v (zero_of l) m) w is_s.fits none
