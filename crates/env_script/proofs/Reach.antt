-- Steps that are reached, with one row more.
use Rattle.std.proofs.Common.{◌≡◌, ℕ, zero, suc, ◌+◌, ◌-◌, ◌<◌, ◌≤◌, cond, List, [], ◌∷◌, ◌++◌, length, Option, Some, None}
use Rattle.std.proofs.Common.{refl, sym, ap, ◌∙◌, arith, inl, inr, length-append}
use Rattle.std.specs.Prelude.{slice_get, is_some}
use Rattle.std.proofs.lemmas.Bool.{cases_lt}
use Rattle.run_model.specs.trace_model.declared.row.Row.{Row}
use Rattle.env_script.specs.declared.script.Step.{Step}
use Rattle.env_script.specs.ScriptOffer.{is_over, reach_next, reach, last_reached}
use Rattle.env_script.proofs.Counting.{first_is, first_hit, over_front}

-- ---- a step that is reached stays so

by_next : (rows : List Row) (c : ℕ) (step : Option Step) (before : Option ℕ) (r : ℕ)
    → ((q : ℕ) → before ≡ Some q → q ≤ length rows)
    → reach_next rows c step before ≡ Some r → r ≤ length rows
by_next rows c None before r by e = let off : None ≡ Some r = e in absurd (cc)
by_next rows c (Some step) None r by e = let off : None ≡ Some r = e in absurd (cc)
by_next rows c (Some step) (Some q) r by e =
    omega (arith, by q refl, (first_is (is_over rows c step q) q (suc (length rows) - q) r e).1)

-- a step is reached by the present cycle
pub reach_by : (rows : List Row) (c : ℕ) (steps : List Step) (j q : ℕ) → reach rows c steps j ≡ Some q → q ≤ length rows
reach_by rows c steps zero q e = let is : 0 ≡ q = cc in omega arith
reach_by rows c steps (suc j) q e = by_next rows c (slice_get steps j) (reach rows c steps j) q (reach_by rows c steps j) e

front_next : (rows : List Row) (row : Row) (c : ℕ) (step : Option Step) (before after : Option ℕ) (r : ℕ)
    → ((q : ℕ) → before ≡ Some q → (q ≤ length rows) × (after ≡ Some q))
    → reach_next rows c step before ≡ Some r → reach_next (rows ++ row ∷ []) c step after ≡ Some r
front_next rows row c None before after r by e = let off : None ≡ Some r = e in absurd (cc)
front_next rows row c (Some step) None after r by e = let off : None ≡ Some r = e in absurd (cc)
front_next rows row c (Some step) (Some q) after r by e =
    let more = rows ++ row ∷ [] in
    let n : length more ≡ length rows + 1 = length-append rows (row ∷ []) in
    let known = by q refl in
    let is = first_is (is_over rows c step q) q (suc (length rows) - q) r e in
    let near : r ≤ length rows = omega (arith, is.1, known.0) in
    ap (reach_next more c (Some step)) known.1
    ∙ first_hit (is_over more c step q) q (suc (length more) - q) r
    record {
      from = is.0.from;
      passes = over_front rows (row ∷ []) c step q r near ∙ is.0.passes;
      first = λ u from below. over_front rows (row ∷ []) c step q u (omega arith) ∙ is.0.first u from below;
    } (omega (arith, n, near, known.0))

pub reach_front : (rows : List Row) (row : Row) (c : ℕ) (steps : List Step) (j q : ℕ) → reach rows c steps j ≡ Some q
    → reach (rows ++ row ∷ []) c steps j ≡ Some q
reach_front rows row c steps zero q e = e
reach_front rows row c steps (suc j) q e =
    front_next rows row c (slice_get steps j) (reach rows c steps j) (reach (rows ++ row ∷ []) c steps j) q
    (λ p at. (reach_by rows c steps j p at, reach_front rows row c steps j p at)) e

-- ---- the last step that is reached

pub none_next : (rows : List Row) (c : ℕ) (step : Option Step) (before : Option ℕ) → before ≡ None → reach_next rows c step before ≡ None
none_next rows c None before e = refl
none_next rows c (Some step) None e = refl
none_next rows c (Some step) (Some q) e = let off : Some q ≡ None = e in absurd (cc)

-- behind a step that isn't reached none is
pub none_behind : (rows : List Row) (c : ℕ) (steps : List Step) (j d : ℕ) → reach rows c steps (suc j) ≡ None
    → reach rows c steps (suc (d + j)) ≡ None
none_behind rows c steps j zero e = let same : suc j ≡ suc (0 + j) = omega arith in ap (reach rows c steps) (sym same) ∙ e
none_behind rows c steps j (suc d) e =
    let same : suc (suc d + j) ≡ suc (suc (d + j)) = omega arith in
    ap (reach rows c steps) same
    ∙ none_next rows c (slice_get steps (suc (d + j))) (reach rows c steps (suc (d + j))) (none_behind rows c steps j d e)

last_up : (rows : List Row) (c : ℕ) (steps : List Step) (j d : ℕ) → last_reached rows c steps j ≡ j → reach rows c steps (suc j) ≡ None
    → last_reached rows c steps (d + j) ≡ j
last_up rows c steps j zero at e = let same : 0 + j ≡ j = omega arith in ap (last_reached rows c steps) same ∙ at
last_up rows c steps j (suc d) at e =
    let same : suc d + j ≡ suc (d + j) = omega arith in
    ap (last_reached rows c steps) same
    ∙ ap (λ (o : Option ℕ). cond (is_some o) (suc (d + j)) (last_reached rows c steps (d + j))) (none_behind rows c steps j d e)
    ∙ last_up rows c steps j d at e

last_here : (rows : List Row) (c : ℕ) (steps : List Step) (j q : ℕ) → reach rows c steps j ≡ Some q → last_reached rows c steps j ≡ j
last_here rows c steps zero q e = refl
last_here rows c steps (suc j) q e = ap (λ (o : Option ℕ). cond (is_some o) (suc j) (last_reached rows c steps j)) e

pub last_is : (rows : List Row) (c : ℕ) (steps : List Step) (j n q : ℕ) → j ≤ n → reach rows c steps j ≡ Some q
    → reach rows c steps (suc j) ≡ None → last_reached rows c steps n ≡ j
last_is rows c steps j n q le at none =
    let same : n ≡ (n - j) + j = omega arith in
    ap (last_reached rows c steps) same ∙ last_up rows c steps j (n - j) (last_here rows c steps j q at) none

-- the last is reached, and the one behind it isn't
pub record IsLast (rows : List Row) (c : ℕ) (steps : List Step) (n j : ℕ) : Type 0 where
  pub cycle : ℕ
  pub within : j ≤ n
  pub at : reach rows c steps j ≡ Some cycle
  pub behind : j < n → reach rows c steps (suc j) ≡ None

last_by : (rows : List Row) (c : ℕ) (steps : List Step) (n : ℕ) (o : Option ℕ) → reach rows c steps (suc n) ≡ o
    → IsLast rows c steps n (last_reached rows c steps n)
    → IsLast rows c steps (suc n) (cond (is_some o) (suc n) (last_reached rows c steps n))
last_by rows c steps n (Some q) at rest = record { cycle = q; within = omega arith; at = at; behind = λ off. absurd (omega arith) }
last_by rows c steps n None at rest = record {
  cycle = rest.cycle;
  within = omega (arith, rest.within);
  at = rest.at;
  behind = λ lt. elim (cases_lt (last_reached rows c steps n) n) [
    | inl less ↦ rest.behind less
    | inr ge ↦ let same : last_reached rows c steps n ≡ n = omega (arith, rest.within) in
        ap (λ k. reach rows c steps (suc k)) same ∙ at
  ];
}

pub last_law : (rows : List Row) (c : ℕ) (steps : List Step) (n : ℕ) → IsLast rows c steps n (last_reached rows c steps n)
last_law rows c steps zero = record { cycle = 0; within = omega arith; at = refl; behind = λ off. absurd (omega arith) }
last_law rows c steps (suc n) = last_by rows c steps n (reach rows c steps (suc n)) refl (last_law rows c steps n)
