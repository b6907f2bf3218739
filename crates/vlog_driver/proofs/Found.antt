-- The findings of a block, and the first net at which E9 holds.
use Rattle.std.proofs.Common.{◌≡◌, ℕ, zero, suc, ◌+◌, ◌<◌, ◌≤◌, Bool, true, false, List, [], ◌∷◌, ◌++◌, map, length, slice_get, Some, None}
use Rattle.std.proofs.Common.{refl, ap, sym, ◌∙◌, arith}
use Rattle.net_drive.specs.vidi_bits.Findings.{first, told_if}
use Rattle.vlog_block.specs.vlog_size.declared.scope.ScopeNet.{ScopeNet}
use Rattle.vlog_block.specs.vlog_size.Table.{Named}
use Rattle.vlog_driver.specs.declared.latches.error.BlockError.TheVariants as error
use Rattle.vlog_driver.specs.Latch.{latches_from}
use Rattle.vlog_driver.specs.Masks.{IsLeast}

module _ (p : ℕ → Bool) (line : ℕ) where
  -- no net is found
  pub none_from : (nets : List (Named ScopeNet)) (f : ℕ) → ((m : ℕ) → m < f + length nets → p m ≡ false) → latches_from p line f nets ≡ []
  none_from [] f h = refl
  none_from (n ∷ nets) f h =
      let l : f < f + suc (length nets) = omega arith in
      ap (λ b. told_if b (error.Latch n.name line) ++ latches_from p line (suc f) nets) (h f l)
      ∙ none_from nets (suc f) (λ m b. h m (omega (arith, b)))

  -- the net at place i after net f is the first one found
  pub first_from : (nets : List (Named ScopeNet)) (f i : ℕ) (name : List ℕ) → ((m : ℕ) → m < f + i → p m ≡ false) → p (f + i) ≡ true
      → slice_get (map (λ (x : Named ScopeNet). x.name) nets) i ≡ Some name
      → first (latches_from p line f nets) ≡ Some (error.Latch name line)
  first_from [] f zero name h t is = absurd (cc)
  first_from [] f (suc i) name h t is = absurd (cc)
  first_from (n ∷ nets) f zero name h t is =
      let e : f + zero ≡ f = omega arith in
      let here : p f ≡ true = ap p (sym e) ∙ t in
      let same : n.name ≡ name = (cc) in
      ap (λ b. first (told_if b (error.Latch n.name line) ++ latches_from p line (suc f) nets)) here
      ∙ ap (λ x. Some (error.Latch x line)) same
  first_from (n ∷ nets) f (suc i) name h t is =
      let l : f < f + suc i = omega arith in
      let e : f + suc i ≡ suc f + i = omega arith in
      ap (λ b. first (told_if b (error.Latch n.name line) ++ latches_from p line (suc f) nets)) (h f l)
      ∙ first_from nets (suc f) i name (λ m b. h m (omega (arith, b, e))) (ap p (sym e) ∙ t) is

-- ---- the place that is answered

pub past_all : (nets : List (Named ScopeNet)) (n : ℕ) → slice_get (map (λ (x : Named ScopeNet). x.name) nets) n ≡ None → length nets ≤ n
past_all [] n h = omega arith
past_all (x ∷ nets) zero h = absurd (cc)
past_all (x ∷ nets) (suc n) h = let l : length nets ≤ n = past_all nets n h in omega (arith, l)

pub among_all : (nets : List (Named ScopeNet)) (n : ℕ) (name : List ℕ) → slice_get (map (λ (x : Named ScopeNet). x.name) nets) n ≡ Some name
    → n < length nets
among_all [] zero name h = absurd (cc)
among_all [] (suc n) name h = absurd (cc)
among_all (x ∷ nets) zero name h = omega arith
among_all (x ∷ nets) (suc n) name h = let l : n < length nets = among_all nets n name h in omega (arith, l)

module _ (p : ℕ → Bool) (line : ℕ) (nets : List (Named ScopeNet)) (n : ℕ) (h : IsLeast p (length nets) n) where
  pub none_found : slice_get (map (λ (x : Named ScopeNet). x.name) nets) n ≡ None → latches_from p line 0 nets ≡ []
  none_found is = let l : length nets ≤ n = past_all nets n is in none_from p line nets 0 (λ m b. h.before m (omega (arith, l, b)))

  pub one_found : (name : List ℕ) → slice_get (map (λ (x : Named ScopeNet). x.name) nets) n ≡ Some name
      → first (latches_from p line 0 nets) ≡ Some (error.Latch name line)
  one_found name is =
      let e : 0 + n ≡ n = omega arith in
      first_from p line nets 0 n name (λ m b. h.before m (omega (arith, b, e)))
      (ap p e ∙ h.here (among_all nets n name is)) is
