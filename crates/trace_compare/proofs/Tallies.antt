-- One more mark.
use Rattle.std.proofs.Common.{◌≡◌, ℕ, ◌+◌, ◌<◌, ◌≤◌, Bool, true, false, cond, List, [], ◌∷◌, ◌++◌, length, refl, sym, ap, ◌∙◌, arith}
use Rattle.std.proofs.lemmas.List.Sums.{count_by-le-length, prefix_len-le-length}
use Rattle.std.specs.Prelude.{not, nat_lt}
use Rattle.vec_clock.proofs.trace_model_lemmas.CountingLemmas.{count-push, count-cons}
use Rattle.trace_compare.specs.declared.tally.Tally.{Tally}
use Rattle.trace_compare.specs.declared.report.Finding.{Finding}
use Rattle.trace_compare.specs.declared.report.What.{What}
use Rattle.trace_compare.specs.Findings.{finding_of, found, marked, first_marked}
use Rattle.trace_compare.specs.Tally.{IsTally}

marked-push : (marks : List Bool) (m : Bool) → marked (marks ++ m ∷ []) ≡ marked marks + cond m 1 0
marked-push marks m = count-push (λ (b : Bool). b) marks m

marked-cons : (m : Bool) (marks : List Bool) → marked (m ∷ marks) ≡ cond m 1 0 + marked marks
marked-cons m marks = count-cons (λ (b : Bool). b) m marks

-- a marked one is no first but the first
first-marked : (marks : List Bool) → first_marked (marks ++ true ∷ []) ≡ first_marked marks
first-marked [] = refl
first-marked (true ∷ marks) = refl
first-marked (false ∷ marks) = ap (λ n. 1 + n) (first-marked marks)

-- behind none that is marked
first-none : (marks : List Bool) → marked marks ≡ 0 → first_marked (marks ++ false ∷ []) ≡ first_marked marks + 1
first-none [] e = refl
first-none (true ∷ marks) e = absurd (omega (arith, e, marked-cons true marks))
first-none (false ∷ marks) e =
    let rest = first-none marks (omega (arith, e, marked-cons false marks)) in
    ap (λ n. 1 + n) rest ∙ (omega arith)

-- behind one that is marked
first-some : (marks : List Bool) → 0 < marked marks → first_marked (marks ++ false ∷ []) ≡ first_marked marks
first-some [] l = absurd (omega (arith, l))
first-some (true ∷ marks) l = refl
first-some (false ∷ marks) l = ap (λ n. 1 + n) (first-some marks (omega (arith, l, marked-cons false marks)))

pub tally-marked : (marks : List Bool) (t u : Tally) → IsTally marks t → u.before ≡ t.before → u.marked ≡ t.marked + 1
    → IsTally (marks ++ true ∷ []) u
tally-marked marks t u is before more = record {
  before = before ∙ is.before ∙ sym (first-marked marks);
  marked = omega (arith, more, is.marked, marked-push marks true);
}

pub tally-none : (marks : List Bool) (t u : Tally) → IsTally marks t → t.marked ≡ 0 → u.before ≡ t.before + 1 → u.marked ≡ t.marked
    → IsTally (marks ++ false ∷ []) u
tally-none marks t u is none before same = record {
  before = omega (arith, before, is.before, first-none marks (sym is.marked ∙ none));
  marked = omega (arith, same, is.marked, marked-push marks false);
}

pub tally-some : (marks : List Bool) (t u : Tally) → IsTally marks t → 0 < t.marked → u.before ≡ t.before → u.marked ≡ t.marked
    → IsTally (marks ++ false ∷ []) u
tally-some marks t u is some before same = record {
  before = before ∙ is.before ∙ sym (first-some marks (omega (arith, some, is.marked)));
  marked = omega (arith, same, is.marked, marked-push marks false);
}

-- no tally is above the number of marks
pub before-le : (marks : List Bool) (t : Tally) → IsTally marks t → t.before ≤ length marks
before-le marks t is = omega (arith, is.before, prefix_len-le-length (λ (b : Bool). not b) marks)

pub marked-le : (marks : List Bool) (t : Tally) → IsTally marks t → t.marked ≤ length marks
marked-le marks t is = omega (arith, is.marked, count_by-le-length (λ (b : Bool). b) marks)

-- the finding of a tally, as it is made
pub found-first : (marks : List Bool) (t : Tally) (e c : ℕ) (what : What) (f : Finding) → IsTally marks t → f ≡ finding_of e c what t.before 1
    → cond (nat_lt 0 t.marked) (f ∷ []) [] ≡ found (nat_lt 0 (marked marks)) e c what (first_marked marks) 1
found-first marks t e c what f is made =
    ap (λ (g : Finding). cond (nat_lt 0 t.marked) (g ∷ []) []) made
    ∙ ap (λ m. found (nat_lt 0 m) e c what t.before 1) is.marked ∙ ap (λ k. found (nat_lt 0 (marked marks)) e c what k 1) is.before

pub found-counted : (marks : List Bool) (t : Tally) (e c : ℕ) (what said : What) (f : Finding) → IsTally marks t → said ≡ what
    → f ≡ finding_of e c said t.before t.marked
    → cond (nat_lt 0 t.marked) (f ∷ []) [] ≡ found (nat_lt 0 (marked marks)) e c what (first_marked marks) (marked marks)
found-counted marks t e c what said f is same made =
    ap (λ (g : Finding). cond (nat_lt 0 t.marked) (g ∷ []) []) made
    ∙ ap (λ m. found (nat_lt 0 m) e c said t.before m) is.marked
    ∙ ap (λ k. found (nat_lt 0 (marked marks)) e c said k (marked marks)) is.before
    ∙ ap (λ (w : What). found (nat_lt 0 (marked marks)) e c w (first_marked marks) (marked marks)) same
