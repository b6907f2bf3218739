-- Levels of operators, taken from the highest one down behind an operand.
use Rattle.std.proofs.Common.{◌≡◌, ◌≤◌, ℕ, zero, suc, pred, ◌+◌, Bool, if◌then◌else◌, Option, None, Some, refl, sym, ap, ◌∙◌, arith, ne_eqb}
use Rattle.vlog_tree.specs.declared.expr.BinaryOp.{BinaryOp}
use Rattle.vlog_tree.specs.Tree.{ExprOf, BinaryExpr}
use Rattle.vlog_expr.specs.declared.unread.Unread.{Unread}
use Rattle.vlog_expr.specs.declared.unread.Unread.TheVariants as unread
use Rattle.vlog_expr.specs.Given.{Fails}
use Rattle.vlog_expr.specs.Marks.{Toks}
use Rattle.vlog_expr.specs.Reader.{◌>>=◌, found_or, Read, binary_front, binary_at, chain_at, climb_at, unary_at}

kept : {X : Type 0} (o : Option X) → (o >>= λ x. Some x) ≡ o
kept None = refl
kept (Some x) = refl

module _ (A : Type 0) where
  abbrev At : Type 0
  At = Read A (ExprOf A)

  abbrev level_behind : ℕ → ℕ → ExprOf A × Toks A → At
  level_behind n l a = chain_at n l a.0 a.1

  behind_each : (o : At) (f g : ExprOf A × Toks A → At) (h : ExprOf A × Toks A → At) → ((y : ExprOf A × Toks A) → f y ≡ (g y >>= h))
      → (o >>= f) ≡ ((o >>= g) >>= h)
  behind_each None f g h e = refl
  behind_each (Some y) f g h e = e y

  climb_snoc : (k n top l : ℕ) (x : ExprOf A × Toks A) → top ≡ l + k → climb_at n top (suc k) x
      ≡ (climb_at n top k x >>= level_behind (n + suc k) l)
  climb_snoc zero n top l x e =
      let level : top ≡ l = omega (arith, e) in
      let fuel : suc n ≡ n + 1 = omega arith in
      kept (chain_at (suc n) top x.0 x.1) ∙ ap (λ (t : ℕ). chain_at (suc n) t x.0 x.1) level ∙ ap (λ (m : ℕ). chain_at m l x.0 x.1) fuel
  climb_snoc (suc k) n top l x e =
      let below : pred top ≡ l + k = omega (arith, e) in
      let fuel : suc n + suc k ≡ n + suc (suc k) = omega arith in
      behind_each (chain_at (suc n) top x.0 x.1) (climb_at (suc n) (pred top) (suc k)) (climb_at (suc n) (pred top) k)
      (level_behind (n + suc (suc k)) l)
      (λ y. climb_snoc k (suc n) (pred top) l y below ∙ ap (λ (m : ℕ). climb_at (suc n) (pred top) k y >>= level_behind m l) fuel)

  binary_step : (n l : ℕ) (ws : Toks A) → (l ≡ 11 → ⊥) → binary_at (suc n) l ws ≡ (binary_at n (l + 1) ws >>= level_behind n l)
  binary_step n l ws h = ap (λ (b : Bool). if b then unary_at n ws else (binary_at n (l + 1) ws >>= λ a. chain_at n l a.0 a.1))
      (ne_eqb l 11 h)

  -- an expression of level l is an operand and what climbs behind it
  pub binary_climb : (k n l m : ℕ) (ws : Toks A) → l + k ≡ 11 → m ≡ suc n + k → binary_at m l ws ≡ (unary_at n ws >>= climb_at n 10 k)
  binary_climb zero n l m ws e f =
      let level : l ≡ 11 = omega (arith, e) in
      let fuel : m ≡ suc n = omega (arith, f) in
      ap (λ (i : ℕ). binary_at i l ws) fuel ∙ ap (λ (i : ℕ). binary_at (suc n) i ws) level ∙ sym (kept (unary_at n ws))
  binary_climb (suc k) n l m ws e f =
      let fuel : m ≡ suc (suc n + k) = omega (arith, f) in
      let above : (l + 1) + k ≡ 11 = omega (arith, e) in
      let top : 10 ≡ l + k = omega (arith, e) in
      let same : suc n + k ≡ n + suc k = omega arith in
      ap (λ (i : ℕ). binary_at i l ws) fuel
      ∙ binary_step (suc n + k) l ws (λ is. absurd (omega (arith, is, e)))
      ∙ ap (λ (o : At). o >>= level_behind (suc n + k) l) (binary_climb k n (l + 1) (suc n + k) ws above refl)
      ∙ ap (λ (i : ℕ). (unary_at n ws >>= climb_at n 10 k) >>= level_behind i l) same
      ∙ sym (behind_each (unary_at n ws) (climb_at n 10 (suc k)) (climb_at n 10 k) (level_behind (n + suc k) l)
      (λ y. climb_snoc k n 10 l y top))

  -- too little fuel for the levels
  pub binary_short : (m k l : ℕ) (ws : Toks A) → l + k ≡ 11 → m ≤ k → binary_at m l ws ≡ None
  binary_short zero k l ws e h = refl
  binary_short (suc m) zero l ws e h = absurd (omega (arith, h))
  binary_short (suc m) (suc k) l ws e h =
      binary_step m l ws (λ is. absurd (omega (arith, is, e)))
      ∙ ap (λ (o : At). o >>= level_behind m l) (binary_short m k (l + 1) ws (omega (arith, e)) (omega (arith, h)))

  -- one level, at which an operator follows
  pub climb_some : (n top k m i j l : ℕ) (left : ExprOf A) (ws : Toks A) (o : BinaryOp × Toks A) (y : ExprOf A × Toks A)
      → k ≡ suc l → i ≡ suc n → j ≡ pred top → m ≡ n → binary_front top ws ≡ Some o
      → (binary_at m (top + 1) o.1 >>= λ b. chain_at m top (BinaryExpr left o.0 b.0) b.1) ≡ Some y → climb_at n top k (left, ws)
      ≡ climb_at i j l y
  climb_some n top k m i j l left ws o y e f g d h r =
      ap (λ (x : ℕ). climb_at n top x (left, ws)) e
      ∙ ap (λ (x : Read A BinaryOp). found_or x (Some (left, ws)) (λ o. binary_at n (top + 1) o.1
      >>= λ b. chain_at n top (BinaryExpr left o.0 b.0) b.1) >>= climb_at (suc n) (pred top) l) h
      ∙ ap (λ (x : ℕ). (binary_at x (top + 1) o.1 >>= λ b. chain_at x top (BinaryExpr left o.0 b.0) b.1) >>= climb_at (suc n) (pred top) l)
      (sym d)
      ∙ ap (λ (x : At). x >>= climb_at (suc n) (pred top) l) r
      ∙ ap (λ (x : ℕ). climb_at x (pred top) l y) (sym f)
      ∙ ap (λ (x : ℕ). climb_at i x l y) (sym g)

  -- one level, at which none follows
  pub climb_none : (n top k i j l : ℕ) (left : ExprOf A) (ws : Toks A) → k ≡ suc l → i ≡ suc n → j ≡ pred top → binary_front top ws ≡ None
      → climb_at n top k (left, ws) ≡ climb_at i j l (left, ws)
  climb_none n top k i j l left ws e f g h =
      ap (λ (x : ℕ). climb_at n top x (left, ws)) e
      ∙ ap (λ (x : Read A BinaryOp). found_or x (Some (left, ws)) (λ o. binary_at n (top + 1) o.1
      >>= λ b. chain_at n top (BinaryExpr left o.0 b.0) b.1) >>= climb_at (suc n) (pred top) l) h
      ∙ ap (λ (x : ℕ). climb_at x (pred top) l (left, ws)) (sym f)
      ∙ ap (λ (x : ℕ). climb_at i x l (left, ws)) (sym g)

  -- an operator of this level follows its right operand
  pub chain_more : (n m l : ℕ) (left left' right right' : ExprOf A) (op : BinaryOp) (ws rest : Toks A) (o : BinaryOp × Toks A)
      → n ≡ suc m → left' ≡ left → right' ≡ right → binary_at n (l + 1) ws ≡ Some (right, rest) → binary_front l rest ≡ Some o
      → (binary_at m (l + 1) o.1 >>= λ b. chain_at m l (BinaryExpr (BinaryExpr left' op right') o.0 b.0) b.1)
      ≡ (binary_at n (l + 1) ws >>= λ b. chain_at n l (BinaryExpr left op b.0) b.1)
  chain_more n m l left left' right right' op ws rest o e f g h k =
      let both = BinaryExpr left op right in
      sym (ap (λ (x : At). x >>= λ b. chain_at n l (BinaryExpr left op b.0) b.1) h
      ∙ ap (λ (i : ℕ). chain_at i l both rest) e
      ∙ ap (λ (x : Read A BinaryOp). found_or x (Some (both, rest)) (λ o. binary_at m (l + 1) o.1
      >>= λ b. chain_at m l (BinaryExpr both o.0 b.0) b.1)) k
      ∙ ap (λ (x : ExprOf A). binary_at m (l + 1) o.1 >>= λ b. chain_at m l (BinaryExpr (BinaryExpr x op right) o.0 b.0) b.1) (sym f)
      ∙ ap (λ (x : ExprOf A). binary_at m (l + 1) o.1 >>= λ b. chain_at m l (BinaryExpr (BinaryExpr left' op x) o.0 b.0) b.1) (sym g))

-- what is on the heap
pub same_boxed : {X : Type 0} (x y : X) → Some x ≡ Some y → y ≡ x
same_boxed x y h = cc

-- what fails, fails with what would follow
pub fails_on : {X Y : Type 0} (e : Unread) (o : Option X) (f : X → Option Y) → Fails e o → Fails e (o >>= f)
fails_on unread.Memory o f h = tt
fails_on {X} unread.Fault o f h = ap (λ (o : Option X). o >>= f) h
