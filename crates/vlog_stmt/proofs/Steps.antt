-- One step of a reader on lists: the checker finds the rest of the reader by itself.
use Rattle.std.proofs.Common.{◌≡◌, ℕ, Option, None, Some, ap, ◌∙◌}
use Rattle.vlog_tree.specs.declared.terminal.Terminal.{Terminal}
use Rattle.vlog_tree.specs.Lines.{no_mark}
use Rattle.vlog_expr.specs.Marks.{Toks, after}
use Rattle.vlog_expr.specs.Bare.{forget_all, bare_expr}
use Rattle.vlog_expr.specs.Reader.{◌>>=◌, found_or, Read, expr_at}
use Rattle.vlog_expr.specs.Laws.{seen}
use Rattle.vlog_expr.proofs.Natural.{U, over_bind, over_found, after_natural, expr_natural}

-- what is read next, behind what was read
pub step : {X Y : Type 0} {o : Option X} {x : X} (k : X → Option Y) {y : Option Y} → o ≡ Some x → k x ≡ y → (o >>= k) ≡ y
step {X = X} k e f = ap (λ (o : Option X). o >>= k) e ∙ f

-- one thing, or else another: the first is there, or it isn't
pub taken : {X Y : Type 0} {o : Option X} {x : X} (other : Option Y) (k : X → Option Y) {y : Option Y} → o ≡ Some x → k x ≡ y
    → found_or o other k ≡ y
taken {X = X} other k e f = ap (λ (o : Option X). found_or o other k) e ∙ f

pub skipped : {X Y : Type 0} {o : Option X} {other : Option Y} (k : X → Option Y) {y : Option Y} → o ≡ None → other ≡ y
    → found_or o other k ≡ y
skipped {X = X} {other = other} k e f = ap (λ (o : Option X). found_or o other k) e ∙ f

-- the same is read, but for what stands in the place of lines
pub record Same {A X Y : Type 0} (h : X → Y) (p : Read U Y) (o : Read A X) : Type 0 where
  pub is : p ≡ seen h o

pub same : {A X Y : Type 0} {h : X → Y} {p : Read U Y} {o : Read A X} → p ≡ seen h o → Same h p o
same e = record { is = e }

pub both_step : {A X Y P Q : Type 0} {g : X → P} {h : Y → Q} {o : Read A X} {p : Read U P} {k : X × Toks A → Read A Y}
    (l : P × Toks U → Read U Q)
    → Same g p o → ((x : X × Toks A) → Same h (l (g x.0, forget_all x.1)) (k x)) → Same h (p >>= l) (o >>= k)
both_step {A = A} {g = g} {h = h} {o = o} {p = p} {k = k} l e f = record { is = over_bind A g h o p k l e.is (λ x. (f x).is) }

pub both_or : {A X Y P Q : Type 0} {g : X → P} {h : Y → Q} {o : Read A X} {p : Read U P} {d : Read A Y} {d' : Read U Q}
    {k : X × Toks A → Read A Y} (l : P × Toks U → Read U Q)
    → Same g p o → Same h d' d → ((x : X × Toks A) → Same h (l (g x.0, forget_all x.1)) (k x)) → Same h (found_or p d' l) (found_or o d k)
both_or {A = A} {g = g} {h = h} {o = o} {p = p} {d = d} {d' = d'} {k = k} l e f c = record {
  is = over_found A g h o p d d' k l e.is f.is (λ x. (c x).is);
}

module _ (A : Type 0) where
  pub same_after : (x : Terminal) (ws : Toks A) → Same {A = A} no_mark (after x (forget_all ws)) (after x ws)
  same_after x ws = record { is = after_natural A x ws }

  pub same_expr : (n : ℕ) (ws : Toks A) → Same {A = A} bare_expr (expr_at n (forget_all ws)) (expr_at n ws)
  same_expr n ws = record { is = expr_natural A n ws }
