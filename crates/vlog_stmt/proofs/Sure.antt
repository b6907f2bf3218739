-- What is surely so of what is read, step by step.
use Rattle.std.proofs.Common.{◌≡◌, ℕ, true, false, Option, None, Some, List, [], ◌++◌, refl}
use Rattle.vlog_tree.specs.declared.terminal.Terminal.{Terminal}
use Rattle.vlog_tree.specs.Words.{WordOf}
use Rattle.vlog_expr.specs.Marks.{Toks, AreLawful, after}
use Rattle.vlog_expr.specs.Reader.{◌>>=◌, found_or, expr_at, target_at}
use Rattle.vlog_expr.specs.Laws.{Holds}
use Rattle.vlog_expr.proofs.Found.{bind, found, From, join, after_sound, after_at_sound, Behind, BehindAt, AtExpr, sound}
use Rattle.vlog_expr.proofs.TargetFound.{AtTarget, target_sound}

-- the same as Holds, in a form from which the checker finds what is read
pub record Sure {X : Type 0} (o : Option X) (P : X → Type 0) : Type 0 where
  pub holds : Holds o P

pub nothing : {X : Type 0} {P : X → Type 0} → Sure None P
nothing = record { holds = tt }

pub sure : {X : Type 0} {P : X → Type 0} (x : X) → P x → Sure (Some x) P
sure x p = record { holds = p }

-- what is read next, behind what was read
pub next : {X Y : Type 0} {P : X → Type 0} {Q : Y → Type 0} {o : Option X} {f : X → Option Y} → Sure o P → ((x : X) → P x → Sure (f x) Q)
    → Sure (o >>= f) Q
next {P = P} {Q = Q} {o = o} {f = f} h k = record { holds = bind P Q o f h.holds (λ x p. (k x p).holds) }

-- one thing, or else another
pub either : {X Y : Type 0} {P : X → Type 0} {Q : Y → Type 0} {o : Option X} {other : Option Y} {f : X → Option Y}
    → Sure o P → Sure other Q → ((x : X) → P x → Sure (f x) Q) → Sure (found_or o other f) Q
either {P = P} {Q = Q} {o = o} {other = other} {f = f} h e k = record { holds = found P Q o other f h.holds e.holds (λ x p. (k x p).holds) }

-- the same, where what was found counts as well
pub kept : {X Y : Type 0} {P : X → Type 0} {Q : Y → Type 0} {o : Option X} {other : Option Y} {f : X → Option Y}
    → Sure o P → (o ≡ None → Sure other Q) → ((x : X) → o ≡ Some x → P x → Sure (f x) Q) → Sure (found_or o other f) Q
kept {P = P} {o = None} h e k = e refl
kept {P = P} {o = Some x} h e k = k x refl h.holds

infixr 5 ◌▹◌
-- words, and then others
pub ◌▹◌ : {A : Type 0} {ws mid rest : Toks A} {a b : List (WordOf A)} → From A ws a mid → From A mid b rest → From A ws (a ++ b) rest
◌▹◌ {A = A} {ws = ws} {mid = mid} {rest = rest} {a = a} {b = b} f g = join A ws mid rest a b f g

pub some_none : {X : Type 0} (x : X) → Some x ≡ None → ⊥
some_none x h = cc

pub false_true : {X : Type 0} → false ≡ true → X
false_true h = absurd (differ h)
  where
    differ : false ≡ true → ⊥
    differ h = cc

module _ (A : Type 0) where
  pub start : (ws : Toks A) → AreLawful ws → From A ws [] ws
  start ws h = record { spells = refl; lawful = h }

  pub target_found : (n : ℕ) (ws : Toks A) → AreLawful ws → Sure (target_at n ws) (AtTarget A ws)
  target_found n ws h = record { holds = target_sound A n ws h }

  pub expr_found : (n : ℕ) (ws : Toks A) → AreLawful ws → Sure (expr_at n ws) (AtExpr A ws)
  expr_found n ws h = record { holds = (sound A n).expr ws h }

  pub after_found : (x : Terminal) (ws : Toks A) → AreLawful ws → Sure (after x ws) (Behind A x ws)
  after_found x ws h = record { holds = after_sound A x ws h }

  -- the same, where the tree keeps its line
  pub after_at_found : (x : Terminal) (ws : Toks A) → AreLawful ws → Sure (after x ws) (BehindAt A x ws)
  after_at_found x ws h = record { holds = after_at_sound A x ws h }
