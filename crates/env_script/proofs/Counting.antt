-- Completions in a part of the rows, and the first cycle that passes.
use Rattle.std.proofs.Common.{◌≡◌, ℕ, zero, suc, ◌+◌, ◌<◌, ◌≤◌, Bool, true, false, cond, List, [], ◌∷◌, ◌++◌, length, take, drop}
use Rattle.std.proofs.Common.{Some, None, refl, sym, ap, ◌∙◌, arith, inl, inr, leb, le-leb, leb-true, length-append}
use Rattle.std.specs.Prelude.{count_by}
use Rattle.std.proofs.lemmas.Bool.{cases_lt}
use Rattle.std.proofs.lemmas.List.{take-take, take-append-drop, take-append-le, take_all}
use Rattle.std.proofs.lemmas.List.Sums.{sum_by-append}
use Rattle.run_model.proofs.trace_model_lemmas.RowLaws.{flag}
use Rattle.run_model.specs.trace_model.declared.row.Row.{Row}
use Rattle.run_model.specs.trace_model.Row.{completes}
use Rattle.env_script.specs.declared.script.Step.{Step}
use Rattle.env_script.specs.declared.script.Step.TheVariants.{Send, Take, TakeAll, Wait, After}
use Rattle.env_script.specs.ScriptOffer.{completions, is_over, first_cycle}

-- ---- completions

-- those before a row are those before an earlier one and those from it on
pub split : (rows : List Row) (c q r : ℕ) → q ≤ r → completions rows c 0 r ≡ completions rows c 0 q + completions rows c q r
split rows c q r le =
    ap (count_by (λ (row : Row). completes row c)) (sym (take-append-drop q (take r rows)))
    ∙ sum_by-append (λ (row : Row). flag (completes row c)) (take q (take r rows)) (drop q (take r rows))
    ∙ ap (λ xs. count_by (λ (row : Row). completes row c) xs + completions rows c q r) (take-take q r rows le)

-- rows behind don't count
pub front : (rows more : List Row) (c q r : ℕ) → r ≤ length rows → completions (rows ++ more) c q r ≡ completions rows c q r
front rows more c q r le = ap (λ xs. count_by (λ (row : Row). completes row c) (drop q xs)) (take-append-le r rows more le)

pub all : (rows : List Row) (c : ℕ) → completions rows c 0 (length rows) ≡ count_by (λ (row : Row). completes row c) rows
all rows c = ap (count_by (λ (row : Row). completes row c)) (take_all (length rows) rows (omega arith))

pub push : (rows : List Row) (row : Row) (c : ℕ)
    → completions (rows ++ row ∷ []) c 0 (length (rows ++ row ∷ [])) ≡ completions rows c 0 (length rows) + flag (completes row c)
push rows row c =
    all (rows ++ row ∷ []) c
    ∙ sum_by-append (λ (x : Row). flag (completes x c)) rows (row ∷ [])
    ∙ omega (arith, all rows c)

pub push_from : (rows : List Row) (row : Row) (c q : ℕ) → q ≤ length rows
    → completions (rows ++ row ∷ []) c q (length (rows ++ row ∷ [])) ≡ completions rows c q (length rows) + flag (completes row c)
push_from rows row c q le =
    let more = rows ++ row ∷ [] in
    let n : length more ≡ length rows + 1 = length-append rows (row ∷ []) in
    omega (
      arith,
      split more c q (length more) (omega (arith, n)),
      split rows c q (length rows) le,
      front rows (row ∷ []) c 0 q le,
      push rows row c,
    )

pub rising : (rows : List Row) (c q u v : ℕ) → q ≤ u → u ≤ v → completions rows c q u ≤ completions rows c q v
rising rows c q u v qu uv = omega (arith, split rows c q u qu, split rows c q v (omega arith), split rows c u v uv)

-- ---- once over, a step stays over

over_later : (rows : List Row) (c : ℕ) (step : Step) (q u v : ℕ) → q ≤ u → u ≤ v → is_over rows c step q u ≡ true
    → is_over rows c step q v ≡ true
over_later rows c (Send content) q u v qu uv e = le-leb _ _ (omega (arith, rising rows c q u v qu uv, leb-true _ _ e))
over_later rows c (Take n) q u v qu uv e = le-leb _ _ (omega (arith, rising rows c q u v qu uv, leb-true _ _ e))
over_later rows c TakeAll q u v qu uv e = e
over_later rows c (Wait n) q u v qu uv e = le-leb _ _ (omega (arith, leb-true _ _ e))
over_later rows c (After x n) q u v qu uv e = le-leb _ _ (omega (arith, rising rows x 0 u v (omega arith) uv, leb-true _ _ e))

not_before : (a b : Bool) → (a ≡ true → b ≡ true) → b ≡ false → a ≡ false
not_before true b later e = let off : true ≡ false = sym (later refl) ∙ e in absurd (cc)
not_before false b later e = refl

pub not_over_before : (rows : List Row) (c : ℕ) (step : Step) (q u v : ℕ) → q ≤ u → u ≤ v → is_over rows c step q v ≡ false
    → is_over rows c step q u ≡ false
not_over_before rows c step q u v qu uv e =
    not_before (is_over rows c step q u) (is_over rows c step q v) (over_later rows c step q u v qu uv) e

pub over_front : (rows more : List Row) (c : ℕ) (step : Step) (q u : ℕ) → u ≤ length rows
    → is_over (rows ++ more) c step q u ≡ is_over rows c step q u
over_front rows more c (Send content) q u le = ap (leb 1) (front rows more c q u le)
over_front rows more c (Take n) q u le = ap (leb n) (front rows more c q u le)
over_front rows more c TakeAll q u le = refl
over_front rows more c (Wait n) q u le = refl
over_front rows more c (After x n) q u le = ap (leb n) (front rows more x 0 u le)

-- ---- the first cycle that passes

pub record IsFirstCycle (test : ℕ → Bool) (q r : ℕ) : Type 0 where
  pub from : q ≤ r
  pub passes : test r ≡ true
  pub first : (u : ℕ) → q ≤ u → u < r → test u ≡ false

from_next : (test : ℕ → Bool) (q u : ℕ) → test q ≡ false → (suc q ≤ u → test u ≡ false) → q ≤ u → test u ≡ false
from_next test q u here later le = elim (cases_lt q u) [
  | inl lt ↦ later (omega arith)
  | inr ge ↦ let same : u ≡ q = omega arith in ap test same ∙ here
]

first_by : (test : ℕ → Bool) (q n r : ℕ) (b : Bool) → test q ≡ b → cond b (Some q) (first_cycle test (suc q) n) ≡ Some r
    → (first_cycle test (suc q) n ≡ Some r → IsFirstCycle test (suc q) r × (r < suc q + n)) → IsFirstCycle test q r × (r < q + suc n)
first_by test q n r true t e later =
    let same : q ≡ r = cc in (
      record { from = omega arith; passes = ap test (sym same) ∙ t; first = λ u from below. absurd (omega arith) },
      omega arith,
    )
first_by test q n r false t e later =
    let is = later e in (
      record {
        from = omega (arith, is.0.from);
        passes = is.0.passes;
        first = λ u from below. from_next test q u t (λ next. is.0.first u next below) from;
      },
      omega (arith, is.1),
    )

pub first_is : (test : ℕ → Bool) (q n r : ℕ) → first_cycle test q n ≡ Some r → IsFirstCycle test q r × (r < q + n)
first_is test q zero r e = let off : None ≡ Some r = e in absurd (cc)
first_is test q (suc n) r e = first_by test q n r (test q) refl e (first_is test (suc q) n r)

missed_by : (test : ℕ → Bool) (q n u : ℕ) (b : Bool) → test q ≡ b → cond b (Some q) (first_cycle test (suc q) n) ≡ None
    → (first_cycle test (suc q) n ≡ None → suc q ≤ u → u < suc q + n → test u ≡ false) → q ≤ u → u < q + suc n → test u ≡ false
missed_by test q n u true t e later from below = let off : Some q ≡ None = e in absurd (cc)
missed_by test q n u false t e later from below = from_next test q u t (λ next. later e next (omega arith)) from

-- where none passes, none of them does
pub missed : (test : ℕ → Bool) (q n u : ℕ) → first_cycle test q n ≡ None → q ≤ u → u < q + n → test u ≡ false
missed test q zero u e from below = absurd (omega arith)
missed test q (suc n) u e from below =
    missed_by test q n u (test q) refl e (λ rest next near. missed test (suc q) n u rest next near) from below

pub none_passes : (test : ℕ → Bool) (q n : ℕ) → ((u : ℕ) → q ≤ u → u < q + n → test u ≡ false) → first_cycle test q n ≡ None
none_passes test q zero all = refl
none_passes test q (suc n) all =
    ap (λ b. cond b (Some q) (first_cycle test (suc q) n)) (all q (omega arith) (omega arith))
    ∙ none_passes test (suc q) n (λ u from below. all u (omega arith) (omega arith))

pub first_hit : (test : ℕ → Bool) (q n r : ℕ) → IsFirstCycle test q r → r < q + n → first_cycle test q n ≡ Some r
first_hit test q zero r is below = absurd (omega (arith, is.from))
first_hit test q (suc n) r is below = elim (cases_lt q r) [
  | inl lt ↦ ap (λ b. cond b (Some q) (first_cycle test (suc q) n)) (is.first q (omega arith) lt)
      ∙ first_hit test (suc q) n r
      record { from = omega arith; passes = is.passes; first = λ u from near. is.first u (omega arith) near } (omega arith)
  | inr ge ↦ let same : q ≡ r = omega (arith, is.from) in
      ap (λ b. cond b (Some q) (first_cycle test (suc q) n)) (ap test same ∙ is.passes) ∙ ap Some same
]
