-- What counts behind the tokens that were read, against the limits of a design text.
use Rattle.std.proofs.Common.{◌≡◌, ◌≤◌, ◌<◌, ◌↔◌, ◌+◌, ◌++◌, ℕ, zero, suc, Bool, true, false, cond, get_or, take, drop, List, [], ◌∷◌, All}
use Rattle.std.proofs.Common.{length, count_by, codes, Option, None, Some, ◌⊎◌, inl, inr, refl, sym, ap, subst, ◌∙◌, arith}
use Rattle.std.specs.Prelude.{if◌then◌else◌}
use Rattle.std.proofs.lemmas.Bool.{cases_lt, cases_order, false≢true}
use Rattle.std.proofs.lemmas.List.{append-nil, append_assoc, length-append, map-append, take_more, drop_more, take-append-drop}
use Rattle.std.proofs.lemmas.List.Elements.{All-nil, All-push, All-pop}
use Rattle.std.proofs.lemmas.List.Sums.{sum_by_push}
use Rattle.vlog_item.specs.vlog_lex.declared.token.Token.{Token}
use Rattle.vlog_item.specs.vlog_expr.Marks.{TokenOf, Toks, marked, all_marked}
use Rattle.vlog_parse.specs.Depth.{is_word, open_at, open_behind, is_cut, HaveNoCut, is_else, IsNoAlways, Passes, IsDeep, IsFirstDeep}
use Rattle.vlog_parse.specs.Depth.{IsShallow}

-- k tokens without a cut stand at the end
abbrev pub EndsRun : {A : Type 0} → ℕ → Toks A → Type 0
EndsRun {A} k before = (front : Toks A) × (run : Toks A) × (before ≡ front ++ run) × (length run ≡ k) × HaveNoCut (open_behind 0 front) run

-- k `else` without an `always` between them stand at the end
abbrev pub EndsElses : {A : Type 0} → ℕ → Toks A → Type 0
EndsElses {A} k before = (front : Toks A) × (run : Toks A) × (before ≡ front ++ run) × All IsNoAlways run × (k ≤ count_by is_else run)

-- the counts are those behind these tokens, and no limit was passed
pub record Counts {A : Type 0} (depth run elses : ℕ) (before : Toks A) : Type 0 where
  pub opened : depth ≡ open_behind 0 before
  pub low : depth ≤ 32
  pub short : run ≤ 1024
  pub few : elses ≤ 1024
  pub runs : (k : ℕ) → (k ≤ run) ↔ EndsRun k before
  pub elses_run : (k : ℕ) → (k ≤ elses) ↔ EndsElses k before
  pub shallow : IsShallow before

nil_after : {X : Type 0} (front run : List X) → [] ≡ front ++ run → run ≡ []
nil_after [] run e = sym e
nil_after (f ∷ front) run e = absurd (cc)

cons_after : {X : Type 0} (b : List X) (x : X) (r : List X) → [] ≡ b ++ x ∷ r → ⊥
cons_after [] x r e = cc
cons_after (y ∷ b) x r e = cc

IsLastOf : {X : Type 0} → List X → List X → List X → X → Type 0
IsLastOf {X} front run before x = (run ≡ []) ⊎ ((r : List X) × (run ≡ r ++ x ∷ []) × (before ≡ front ++ r))

cons_last : {X : Type 0} (f b : X) (front run before : List X) (x : X) → b ≡ f → IsLastOf front run before x
    → IsLastOf (f ∷ front) run (b ∷ before) x
unfolding IsLastOf
cons_last f b front run before x h (inl n) = inl n
cons_last f b front run before x h (inr p) = inr (p.0, p.1, cc (h, p.2))

-- the last token is in the back part, unless that is empty
split_last : {X : Type 0} (front run before : List X) (x : X) → before ++ x ∷ [] ≡ front ++ run → IsLastOf front run before x
unfolding IsLastOf
split_last [] run before x e = inr (before, sym e, refl)
split_last (f ∷ front) run [] x e = inl (nil_after front run (cc))
split_last (f ∷ front) run (b ∷ before) x e = cons_last f b front run before x (cc) (split_last front run before x (cc))

-- what stands before an earlier place is a part of what stands before a later one
earlier : {X : Type 0} (b before : List X) (y x : X) (r rest : List X) → before ++ x ∷ rest ≡ b ++ y ∷ r → length b < length before
    → (q : List X) × (before ≡ b ++ y ∷ q)
earlier b [] y x r rest e h = absurd (omega arith)
earlier [] (z ∷ before) y x r rest e h = (before, cc)
earlier (c ∷ b) (z ∷ before) y x r rest e h =
    let more = earlier b before y x r rest (cc) (omega arith) in
    let same : z ≡ c = cc in
    (more.0, cc (same, more.1))

same_place : {X : Type 0} (b before : List X) (y x : X) (r rest : List X) → before ++ x ∷ rest ≡ b ++ y ∷ r → length b ≡ length before → x
    ≡ y
same_place [] [] y x r rest e h = cc
same_place [] (z ∷ before) y x r rest e h = absurd (omega arith)
same_place (c ∷ b) [] y x r rest e h = absurd (omega arith)
same_place (c ∷ b) (z ∷ before) y x r rest e h = same_place b before y x r rest (cc) (omega arith)

open_append : {A : Type 0} (n : ℕ) (xs ys : Toks A) → open_behind n (xs ++ ys) ≡ open_behind (open_behind n xs) ys
open_append n [] ys = refl
open_append n (x ∷ xs) ys = open_append (open_at n x) xs ys

no_cut_push : {A : Type 0} (n : ℕ) (xs : Toks A) (x : TokenOf A) → HaveNoCut n xs → is_cut (open_at (open_behind n xs) x) x ≡ false
    → HaveNoCut n (xs ++ x ∷ [])
no_cut_push n [] x h c = (c, tt)
no_cut_push n (y ∷ xs) x h c = (h.0, no_cut_push (open_at n y) xs x h.1 c)

no_cut_parts : {A : Type 0} (n : ℕ) (xs : Toks A) (x : TokenOf A) → HaveNoCut n (xs ++ x ∷ []) → HaveNoCut n xs
    × (is_cut (open_at (open_behind n xs) x) x ≡ false)
no_cut_parts n [] x h = (tt, h.0)
no_cut_parts n (y ∷ xs) x h =
    let more = no_cut_parts (open_at n y) xs x h.1 in
    ((h.0, more.0), more.1)

run_none : {A : Type 0} (before : Toks A) → EndsRun 0 before
run_none before = (before, [], sym (append-nil before), refl, tt)

run_more : {A : Type 0} (k : ℕ) (before : Toks A) (x : TokenOf A) → EndsRun k before → is_cut (open_at (open_behind 0 before) x) x ≡ false
    → EndsRun (suc k) (before ++ x ∷ [])
run_more {A} k before x h c =
    let opened : open_behind 0 before ≡ open_behind (open_behind 0 h.0) h.1 = ap (open_behind 0) h.2 ∙ open_append 0 h.0 h.1 in
    let whole : before ++ x ∷ [] ≡ h.0 ++ (h.1 ++ x ∷ []) = ap (λ (ts : Toks A). ts ++ x ∷ []) h.2 ∙ append_assoc h.0 h.1 (x ∷ []) in
    let counted : length (h.1 ++ x ∷ []) ≡ suc k = omega (arith, length-append h.1 (x ∷ []), h.3) in (
      h.0,
      h.1 ++ x ∷ [],
      whole,
      counted,
      no_cut_push (open_behind 0 h.0) h.1 x h.4
          (subst (λ (n : ℕ). is_cut (open_at n x) x ≡ false) opened c),
    )

run_less_at : {A : Type 0} (k : ℕ) (before : Toks A) (x : TokenOf A) (front run : Toks A) → length run ≡ suc k
    → HaveNoCut (open_behind 0 front) run → IsLastOf front run before x → EndsRun k before
    × (is_cut (open_at (open_behind 0 before) x) x ≡ false)
unfolding IsLastOf
run_less_at k before x front run l h (inl n) = absurd (omega (arith, ap length n))
run_less_at {A} k before x front run l h (inr p) =
    let parts = no_cut_parts (open_behind 0 front) p.0 x (subst (λ (ts : Toks A). HaveNoCut (open_behind 0 front) ts) p.1 h) in
    let counted : length p.0 ≡ k = omega (arith, length-append p.0 (x ∷ []), ap length p.1) in
    let opened : open_behind 0 before ≡ open_behind (open_behind 0 front) p.0 = ap (open_behind 0) p.2 ∙ open_append 0 front p.0 in
    ((front, p.0, p.2, counted, parts.0), subst (λ (n : ℕ). is_cut (open_at n x) x ≡ false) (sym opened) parts.1)

run_less : {A : Type 0} (k : ℕ) (before : Toks A) (x : TokenOf A) → EndsRun (suc k) (before ++ x ∷ []) → EndsRun k before
    × (is_cut (open_at (open_behind 0 before) x) x ≡ false)
run_less k before x h = run_less_at k before x h.0 h.1 h.3 h.4 (split_last h.0 h.1 before x h.2)

runs_on : {A : Type 0} (b : Bool) (run : ℕ) (before : Toks A) (x : TokenOf A) → ((k : ℕ) → (k ≤ run) ↔ EndsRun k before)
    → is_cut (open_at (open_behind 0 before) x) x ≡ b → (k : ℕ) → (k ≤ (if b then 0 else suc run)) ↔ EndsRun k (before ++ x ∷ [])
runs_on b run before x runs c zero = (λ _. run_none (before ++ x ∷ []), λ _. omega arith)
runs_on true run before x runs c (suc k) = (λ l. absurd (omega arith), λ h. absurd (false≢true (sym (run_less k before x h).1 ∙ c)))
runs_on false run before x runs c (suc k) = (
  λ l. run_more k before x ((runs k).0 (omega arith)) c,
  λ h. omega
      (arith, (runs k).1 (run_less k before x h).0),
)

-- 1 for an `else`
one_else : {A : Type 0} → TokenOf A → ℕ
one_else x = cond (is_else x) 1 0

one_else_at : {A : Type 0} (b : Bool) (x : TokenOf A) → is_else x ≡ b → one_else x ≡ cond b 1 0
unfolding one_else
one_else_at b x e = ap (λ (c : Bool). cond c 1 0) e

count_push : {A : Type 0} (xs : Toks A) (x : TokenOf A) → count_by is_else (xs ++ x ∷ []) ≡ count_by is_else xs + one_else x
unfolding one_else
count_push {A} xs x = sum_by_push (λ (y : TokenOf A). cond (is_else y) 1 0) xs x

elses_none : {A : Type 0} (before : Toks A) → EndsElses 0 before
elses_none {A} before = (before, [], sym (append-nil before), All-nil (λ (y : TokenOf A). IsNoAlways y), omega arith)

elses_more : {A : Type 0} (n k : ℕ) (before : Toks A) (x : TokenOf A) → EndsElses k before → IsNoAlways x → n ≤ k + one_else x
    → EndsElses n (before ++ x ∷ [])
elses_more {A} n k before x h a l =
    let whole : before ++ x ∷ [] ≡ h.0 ++ (h.1 ++ x ∷ []) = ap (λ (ts : Toks A). ts ++ x ∷ []) h.2 ∙ append_assoc h.0 h.1 (x ∷ []) in
    let counted : n ≤ count_by is_else (h.1 ++ x ∷ []) = omega (arith, count_push h.1 x, h.4) in
    (h.0, h.1 ++ x ∷ [], whole, All-push (λ (y : TokenOf A). IsNoAlways y) h.1 x h.3 a, counted)

elses_less_at : {A : Type 0} (j k : ℕ) (before : Toks A) (x : TokenOf A) (front run : Toks A) → j + one_else x ≤ suc k → All IsNoAlways run
    → suc k ≤ count_by is_else run → IsLastOf front run before x → IsNoAlways x × EndsElses j before
unfolding IsLastOf
elses_less_at {A} j k before x front run l a c (inl n) = absurd (omega (arith, ap (λ (ts : Toks A). count_by is_else ts) n))
elses_less_at {A} j k before x front run l a c (inr p) =
    let parts = All-pop (λ (y : TokenOf A). IsNoAlways y) run p.0 (Some x) p.1 a in
    let counted : j ≤ count_by is_else p.0 = omega (arith, count_push p.0 x, ap (λ (ts : Toks A). count_by is_else ts) p.1) in
    (parts.1, (front, p.0, p.2, parts.0, counted))

elses_less : {A : Type 0} (j k : ℕ) (before : Toks A) (x : TokenOf A) → j + one_else x ≤ suc k → EndsElses (suc k) (before ++ x ∷ [])
    → IsNoAlways x × EndsElses j before
elses_less j k before x l h = elses_less_at j k before x h.0 h.1 l h.3 h.4 (split_last h.0 h.1 before x h.2)

elses_on : {A : Type 0} (a b : Bool) (elses : ℕ) (before : Toks A) (x : TokenOf A) → ((k : ℕ) → (k ≤ elses) ↔ EndsElses k before)
    → is_word (codes "always") x ≡ a → is_else x ≡ b
    → (k : ℕ) → (k ≤ (if a then 0 else if b then suc elses else elses)) ↔ EndsElses k (before ++ x ∷ [])
elses_on a b elses before x many w e zero = (λ _. elses_none (before ++ x ∷ []), λ _. omega arith)
elses_on true true elses before x many w e (suc k) = (
  λ l. absurd (omega arith),
  λ h. absurd
      (false≢true (sym (elses_less 0 k before x (omega (arith, one_else_at true x e)) h).0 ∙ w)),
)
elses_on true false elses before x many w e (suc k) = (
  λ l. absurd (omega arith),
  λ h. absurd
      (false≢true (sym (elses_less 0 k before x (omega (arith, one_else_at false x e)) h).0 ∙ w)),
)
elses_on false true elses before x many w e (suc k) =
    let one = one_else_at true x e in (
      λ l. elses_more (suc k) k before x ((many k).0 (omega arith)) w (omega (arith, one)),
      λ h. omega
          (arith, (many k).1 (elses_less k k before x (omega (arith, one)) h).1),
    )
elses_on false false elses before x many w e (suc k) =
    let one = one_else_at false x e in (
      λ l. elses_more (suc k) (suc k) before x ((many (suc k)).0 l) w (omega (arith, one)),
      λ h. (many (suc k)).1
          (elses_less (suc k) k before x (omega (arith, one)) h).1,
    )

shallow_none : {A : Type 0} → IsShallow {A = A} []
shallow_none b x r e p = absurd (cons_after b x r e)

shallow_at : {A : Type 0} (before : Toks A) (x y : TokenOf A) (b r q : Toks A) → IsShallow before → (Passes before x → ⊥) → y ∷ r ≡ q ++ x
    ∷ [] → before ≡ b ++ q → Passes b y → ⊥
shallow_at {A} before x y b r [] s n u v p =
    let same : b ≡ before = sym (v ∙ append-nil b) in
    let last : y ≡ x = cc in
    n (subst (λ (z : TokenOf A). Passes before z) last (subst (λ (ts : Toks A). Passes ts y) same p))
shallow_at {A} before x y b r (z ∷ q) s n u v p =
    let here : y ≡ z = cc in
    s b z q v (subst (λ (t : TokenOf A). Passes b t) here p)

shallow_last : {A : Type 0} (before : Toks A) (x y : TokenOf A) (b r : Toks A) → IsShallow before → (Passes before x → ⊥) → Passes b y
    → IsLastOf b (y ∷ r) before x → ⊥
unfolding IsLastOf
shallow_last before x y b r s n p (inl e) = absurd (cc)
shallow_last before x y b r s n p (inr q) = shallow_at before x y b r q.0 s n q.1 q.2 p

shallow_more : {A : Type 0} (before : Toks A) (x : TokenOf A) → IsShallow before → (Passes before x → ⊥) → IsShallow (before ++ x ∷ [])
shallow_more before x s n b y r e p = shallow_last before x y b r s n p (split_last b (y ∷ r) before x e)

-- no limit is passed at a token with these counts
abbrev pub IsWithin : {A : Type 0} → ℕ → ℕ → ℕ → TokenOf A → Type 0
IsWithin depth run elses x = (depth ≤ 32) × (run < 1024) × (is_else x ≡ true → elses < 1024)

passes_not : {A : Type 0} (depth run elses : ℕ) (before : Toks A) (x : TokenOf A) → Counts depth run elses before
    → IsWithin (open_at depth x) run elses x → Passes before x → ⊥
passes_not depth run elses before x c w (inl h) = omega (arith, ap (λ (n : ℕ). open_at n x) c.opened, w.0)
passes_not depth run elses before x c w (inr (inl h)) = omega (arith, (c.runs 1024).1 h, w.1)
passes_not depth run elses before x c w (inr (inr h)) = omega (arith, (c.elses_run 1024).1 h.1, w.2 h.0)

else_many : {A : Type 0} (depth run elses : ℕ) (before : Toks A) (x : TokenOf A) → Counts depth run elses before
    → (IsWithin (open_at depth x) run elses x → ⊥) → open_at depth x ≤ 32 → run < 1024 → is_else x ≡ true → (elses < 1024) ⊎ (1024 ≤ elses)
    → Passes before x
else_many depth run elses before x c n l r e (inl h) = absurd (n (l, r, λ y. h))
else_many depth run elses before x c n l r e (inr h) = inr (inr (e, (c.elses_run 1024).0 h))

else_there : {A : Type 0} (depth run elses : ℕ) (before : Toks A) (x : TokenOf A) → Counts depth run elses before
    → (IsWithin (open_at depth x) run elses x → ⊥) → open_at depth x ≤ 32 → run < 1024 → (b : Bool) → is_else x ≡ b → Passes before x
else_there depth run elses before x c n l r false e = absurd (n (l, r, λ y. absurd (false≢true (sym e ∙ y))))
else_there depth run elses before x c n l r true e = else_many depth run elses before x c n l r e (cases_lt elses 1024)

run_there : {A : Type 0} (depth run elses : ℕ) (before : Toks A) (x : TokenOf A) → Counts depth run elses before
    → (IsWithin (open_at depth x) run elses x → ⊥) → open_at depth x ≤ 32 → (run < 1024) ⊎ (1024 ≤ run) → Passes before x
run_there depth run elses before x c n l (inl h) = else_there depth run elses before x c n l h (is_else x) refl
run_there depth run elses before x c n l (inr h) = inr (inl ((c.runs 1024).0 h))

depth_there : {A : Type 0} (depth run elses : ℕ) (before : Toks A) (x : TokenOf A) → Counts depth run elses before
    → (IsWithin (open_at depth x) run elses x → ⊥) → (32 < open_at depth x) ⊎ (open_at depth x ≤ 32) → Passes before x
depth_there depth run elses before x c n (inl h) = inl (omega (arith, ap (λ (m : ℕ). open_at m x) c.opened, h))
depth_there depth run elses before x c n (inr h) = run_there depth run elses before x c n h (cases_lt run 1024)

passes_here : {A : Type 0} (depth run elses : ℕ) (before : Toks A) (x : TokenOf A) → Counts depth run elses before
    → (IsWithin (open_at depth x) run elses x → ⊥) → Passes before x
passes_here depth run elses before x c n = depth_there depth run elses before x c n (cases_lt 32 (open_at depth x))

pub counts_none : {A : Type 0} → Counts {A = A} 0 0 0 []
counts_none {A} = record {
  opened = refl;
  low = omega arith;
  short = omega arith;
  few = omega arith;
  runs = λ k. (
    λ l. subst (λ (n : ℕ). EndsRun {A = A} n []) (omega arith) (run_none []),
    λ h. omega
        (arith, length-append h.0 h.1, ap length h.2, h.3),
  );
  elses_run = λ k. (
    λ l. subst (λ (n : ℕ). EndsElses {A = A} n []) (omega arith) (elses_none []),
    λ h. omega
        (arith, h.4, ap (λ (ts : Toks A). count_by is_else ts) (nil_after h.0 h.1 h.2)),
  );
  shallow = shallow_none;
}

run_short : (b : Bool) (run : ℕ) → run < 1024 → (if b then 0 else suc run) ≤ 1024
run_short true run l = omega arith
run_short false run l = omega arith

elses_few : (a b : Bool) (elses : ℕ) → elses ≤ 1024 → (b ≡ true → elses < 1024) → (if a then 0 else if b then suc elses else elses) ≤ 1024
elses_few true b elses l h = omega arith
elses_few false true elses l h = omega (arith, h refl)
elses_few false false elses l h = l

counts_more : {A : Type 0} (depth run elses : ℕ) (before : Toks A) (x : TokenOf A) → Counts depth run elses before
    → IsWithin (open_at depth x) run elses x
    → Counts (open_at depth x) (if is_cut (open_at depth x) x then 0 else suc run)
    (if is_word (codes "always") x then 0 else if is_else x then suc elses else elses) (before ++ x ∷ [])
counts_more depth run elses before x c w =
    let opened : open_at depth x ≡ open_at (open_behind 0 before) x = ap (λ (n : ℕ). open_at n x) c.opened in
    record {
      opened = opened ∙ sym (open_append 0 before (x ∷ []));
      low = w.0;
      short = run_short (is_cut (open_at depth x) x) run w.1;
      few = elses_few (is_word (codes "always") x) (is_else x) elses c.few w.2;
      runs = runs_on (is_cut (open_at depth x) x) run before x c.runs (ap (λ (n : ℕ). is_cut n x) (sym opened));
      elses_run = elses_on (is_word (codes "always") x) (is_else x) elses before x c.elses_run refl refl;
      shallow = shallow_more before x c.shallow (passes_not depth run elses before x c w);
    }

deep_here : {A : Type 0} (depth run elses : ℕ) (before : Toks A) (x : TokenOf A) (rest : Toks A) → Counts depth run elses before
    → (IsWithin (open_at depth x) run elses x → ⊥) → IsDeep (before ++ x ∷ rest) x.line
deep_here depth run elses before x rest c n = (
  before,
  record {
    token = x;
    rest = rest;
    parts = refl;
    passes = passes_here depth run elses before x c n;
    first = λ b y r e l p. let part = earlier b before y x r rest e l in c.shallow b y part.0 part.1 p;
    its_line = refl;
  },
)

one_line_at : {A : Type 0} (ws : Toks A) (a b : A) (u v : Toks A) → IsFirstDeep ws a u → IsFirstDeep ws b v
    → ((length u ≡ length v) ⊎ ((length u < length v) ⊎ (length v < length u))) → a ≡ b
one_line_at {A} ws a b u v p q (inl e) = sym p.its_line ∙ ap (λ (t : TokenOf A). t.line)
    (same_place v u q.token p.token q.rest p.rest (sym p.parts ∙ q.parts) (sym e)) ∙ q.its_line
one_line_at ws a b u v p q (inr (inl l)) = absurd (q.first u p.token p.rest p.parts l p.passes)
one_line_at ws a b u v p q (inr (inr l)) = absurd (p.first v q.token q.rest q.parts l q.passes)

-- no two lines are the first deep one's
pub one_line : {A : Type 0} (ws : Toks A) (a b : A) → IsDeep ws a → IsDeep ws b → a ≡ b
one_line ws a b p q = one_line_at ws a b p.0 q.0 p.1 q.1 (cases_order (length p.0) (length q.0))

-- a text is not both
pub not_both : {A : Type 0} (ws : Toks A) (a : A) → IsDeep ws a → IsShallow ws → ⊥
not_both ws a p s = s p.0 p.1.token p.1.rest p.1.parts p.1.passes

-- the answer is the line of the first token at which a limit is passed, or that there is none
pub record Answers {A : Type 0} (result : Option A) (ws : Toks A) : Type 0 where
  pub found : (line : A) → (result ≡ Some line) ↔ IsDeep ws line
  pub none : (result ≡ None) ↔ IsShallow ws

some_answer : {A : Type 0} (ws : Toks A) (a : A) → IsDeep ws a → Answers (Some a) ws
some_answer {A} ws a p = record {
  found = λ line. (λ e. let same : a ≡ line = cc in subst (λ (l : A). IsDeep ws l) same p, λ q. ap Some (one_line ws a line p q));
  none = (λ e. absurd (cc), λ s. absurd (not_both ws a p s));
}

pub none_answer : {A : Type 0} (ws : Toks A) → IsShallow ws → Answers {A = A} None ws
none_answer ws s = record {
  found = λ line. (λ e. absurd (cc), λ q. absurd (not_both ws line q s));
  none = (λ _. s, λ _. refl);
}

marked_more : (ts : List Token) (i : ℕ) (t : Token) → i < length ts → t ≡ get_or ts i t → all_marked (take (i + 1) ts)
    ≡ all_marked (take i ts) ++ marked t ∷ []
marked_more ts i t l e =
    let front : take (i + 1) ts ≡ take i ts ++ t ∷ [] = take_more ts i t l ∙ ap (λ (x : Token). take i ts ++ x ∷ []) (sym e) in
    ap all_marked front ∙ map-append marked (take i ts) (t ∷ [])

marked_parts : (ts : List Token) (i : ℕ) (t : Token) → i < length ts → t ≡ get_or ts i t → all_marked (take i ts) ++ marked t
    ∷ all_marked (drop (i + 1) ts) ≡ all_marked ts
marked_parts ts i t l e =
    let back : drop i ts ≡ t ∷ drop (i + 1) ts = drop_more ts i t l ∙ ap (λ (x : Token). x ∷ drop (i + 1) ts) (sym e) in
    let whole : take i ts ++ t ∷ drop (i + 1) ts ≡ ts = ap (λ (xs : List Token). take i ts ++ xs) (sym back) ∙ take-append-drop i ts in
    sym (map-append marked (take i ts) (t ∷ drop (i + 1) ts)) ∙ ap all_marked whole

-- the counts behind one token more of the code's list
pub counts_on : (depth run elses d r e : ℕ) (ts : List Token) (i : ℕ) (t : Token) → i < length ts → t ≡ get_or ts i t
    → Counts depth run elses (all_marked (take i ts))
    → d ≡ open_at depth (marked t) → r ≡ (if is_cut d (marked t) then 0 else suc run)
    → e ≡ (if is_word (codes "always") (marked t) then 0 else if is_else (marked t) then suc elses else elses)
    → IsWithin d run elses (marked t) → Counts d r e (all_marked (take (i + 1) ts))
counts_on depth run elses d r e ts i t l at c ds rs es w =
    let x = marked t in
    let within = subst (λ (n : ℕ). IsWithin n run elses x) ds w in
    let cut : (if is_cut (open_at depth x) x then 0 else suc run) ≡ r = ap (λ (n : ℕ). if is_cut n x then 0 else suc run) (sym ds) ∙ sym rs
    in
    let more = counts_more depth run elses (all_marked (take i ts)) x c within in
    let with_depth = subst (λ (n : ℕ). Counts n (if is_cut (open_at depth x) x then 0 else suc run)
    (if is_word (codes "always") x then 0 else if is_else x then suc elses else elses) (all_marked (take i ts) ++ x ∷ [])) (sym ds) more
    in
    let with_run = subst (λ (n : ℕ). Counts d n (if is_word (codes "always") x then 0 else if is_else x then suc elses else elses)
    (all_marked (take i ts) ++ x ∷ [])) cut with_depth in
    let with_elses = subst (λ (n : ℕ). Counts d r n (all_marked (take i ts) ++ x ∷ [])) (sym es) with_run in
    subst (λ (xs : Toks ℕ). Counts d r e xs) (sym (marked_more ts i t l at)) with_elses

-- the answer at the first token at which a limit is passed
pub deep_answer : (depth run elses d : ℕ) (ts : List Token) (i : ℕ) (t : Token) → i < length ts → t ≡ get_or ts i t
    → Counts depth run elses (all_marked (take i ts))
    → d ≡ open_at depth (marked t) → (IsWithin d run elses (marked t) → ⊥) → Answers (Some t.line) (all_marked ts)
deep_answer depth run elses d ts i t l at c ds n =
    let x = marked t in
    let not_within : IsWithin (open_at depth x) run elses x → ⊥ = λ w. n (subst (λ (m : ℕ). IsWithin m run elses x) (sym ds) w) in
    let deep = deep_here depth run elses (all_marked (take i ts)) x (all_marked (drop (i + 1) ts)) c not_within in
    some_answer (all_marked ts) t.line (subst (λ (xs : Toks ℕ). IsDeep xs t.line) (marked_parts ts i t l at) deep)
