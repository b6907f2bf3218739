-- *Script offer*, sentence by sentence.
use Rattle.std.proofs.Common.{◌≡◌, ℕ, zero, suc, ◌+◌, ◌-◌, ◌<◌, ◌≤◌, Bool, true, false, List, [], ◌∷◌, length, take, Option, Some, None}
use Rattle.std.proofs.Common.{refl, sym, ap, ◌∙◌, arith, inl, inr, leb, le-leb, leb-true, leb-false, get_or}
use Rattle.std.specs.Prelude.{slice_get, count_by}
use Rattle.std.proofs.lemmas.Bool.{cases_lt, lt-leb}
use Rattle.std.proofs.lemmas.List.{take_more}
use Rattle.std.proofs.lemmas.List.Sums.{sum_by-append}
use Rattle.std.proofs.lemmas.Option.{slice_get_cases, slice_get_within, slice_get_past, get_or_from_slice_get}
use Rattle.run_model.proofs.trace_model_lemmas.RowLaws.{flag}
use Rattle.run_model.specs.trace_model.declared.row.Row.{Row}
use Rattle.run_model.specs.trace_model.Row.{completes}
use Rattle.env_script.specs.declared.script.Step.{Step}
use Rattle.env_script.specs.declared.script.Step.TheVariants.{Send, Take, TakeAll, Wait, After}
use Rattle.env_script.specs.ScriptOffer.{completions, is_over, first_cycle, reach_next, reach, last_reached}
use Rattle.env_script.specs.ScriptLaws.{CompletesIn, IsAfterFirst, IsAfterNth, FollowsIn, TakesSome, ReachIsAsSaid}
use Rattle.env_script.specs.ScriptLaws.{TheGreatestDecides}
use Rattle.env_script.proofs.Counting.{split, IsFirstCycle, first_is, first_hit, rising}
use Rattle.env_script.proofs.Reach.{reach_by, none_next, none_behind, last_law}

-- ---- completions, row by row

one_more : (rows : List Row) (c u : ℕ) (row : Row) → slice_get rows u ≡ Some row
    → completions rows c 0 (suc u) ≡ completions rows c 0 u + flag (completes row c)
one_more rows c u row at =
    let index : suc u ≡ u + 1 = omega arith in
    ap (λ k. count_by (λ (x : Row). completes x c) (take k rows)) index
    ∙ ap (count_by (λ (x : Row). completes x c)) (take_more rows u row (slice_get_within rows u row at))
    ∙ sum_by-append (λ (x : Row). flag (completes x c)) (take u rows) (get_or rows u row ∷ [])
    ∙ (let same : get_or rows u row ≡ row = get_or_from_slice_get rows u row row at in
    let b : flag (completes (get_or rows u row) c) ≡ flag (completes row c) = ap (λ (x : Row). flag (completes x c)) same in omega (arith, b))

more_from : (rows : List Row) (c q u : ℕ) (row : Row) → q ≤ u → slice_get rows u ≡ Some row
    → completions rows c q (suc u) ≡ completions rows c q u + flag (completes row c)
more_from rows c q u row le at =
    omega (arith, one_more rows c u row at, split rows c q (suc u) (omega arith), split rows c q u le)

none_here : (rows : List Row) (c q : ℕ) → completions rows c q q ≡ 0
none_here rows c q = omega (arith, split rows c q q (omega arith))

row_at : (rows : List Row) (u : ℕ) → u < length rows → (row : Row) × (slice_get rows u ≡ Some row)
row_at rows u within = elim (slice_get_cases rows u).1 [
  | inl here ↦ (here.0, here.2)
  | inr past ↦ absurd (omega (arith, past.0))
]

up_if : (b : Bool) (n m : ℕ) → m ≡ n + flag b → n < m → (b ≡ true) × (m ≡ n + 1)
up_if true n m e lt = (refl, e)
up_if false n m e lt = absurd (omega arith)

bit_up : (b : Bool) → b ≡ true → flag b ≡ 1
bit_up b e = ap flag e

bit_down : (b : Bool) → (b ≡ true → ⊥) → flag b ≡ 0
bit_down true off = absurd (off refl)
bit_down false off = refl

completed_in : (rows : List Row) (c q u : ℕ) → q ≤ u → u < length rows → completions rows c q u < completions rows c q (suc u)
    → CompletesIn rows c u × (completions rows c q (suc u) ≡ completions rows c q u + 1)
completed_in rows c q u le within lt =
    let found = row_at rows u within in
    let more = more_from rows c q u found.0 le found.1 in
    let up = up_if (completes found.0 c) (completions rows c q u) (completions rows c q (suc u)) more lt in
    (record { row = found.0; at = found.1; completed = up.0 }, up.1)

counts_up : (rows : List Row) (c q u : ℕ) → q ≤ u → CompletesIn rows c u → completions rows c q (suc u) ≡ completions rows c q u + 1
counts_up rows c q u le is = more_from rows c q u is.row le is.at ∙ ap (λ n. completions rows c q u + n) (bit_up _ is.completed)

still_none : (rows : List Row) (c q u : ℕ) → u ≤ length rows → ((v : ℕ) → q ≤ v → v < u → ¬ CompletesIn rows c v)
    → q ≤ u → completions rows c q u ≡ 0
still_none rows c q zero by none le =
    let same : q ≡ 0 = omega arith in ap (λ k. completions rows c k 0) same ∙ none_here rows c 0
still_none rows c q (suc u) by none le = elim (cases_lt u q) [
  | inl lt ↦ let same : q ≡ suc u = omega arith in ap (λ k. completions rows c k (suc u)) same ∙ none_here rows c (suc u)
  | inr ge ↦ let found = row_at rows u (omega arith) in
      omega (
        arith,
        more_from rows c q u found.0 ge found.1,
        bit_down (completes found.0 c) (λ e. none u ge (omega arith) record { row = found.0; at = found.1; completed = e }),
        still_none rows c q u (omega arith) (λ v from below. none v from (omega arith)) ge,
      )
]

-- ---- the first cycle by which a step is over is the one that its kind says

-- once c has completed n times from q on, n at least 1
nth_said : (rows : List Row) (c n q r : ℕ) → 1 ≤ n → r ≤ length rows → IsFirstCycle (λ k. leb n (completions rows c q k)) q r
    → IsAfterNth rows c n q r
nth_said rows c n q zero some by is =
    let same : q ≡ 0 = omega (arith, is.from) in
    absurd (omega (arith, leb-true _ _ is.passes, ap (λ k. completions rows c k 0) same, none_here rows c 0))
nth_said rows c n q (suc u) some by is = elim (cases_lt u q) [
  | inl lt ↦ let same : q ≡ suc u = omega (arith, is.from) in
      absurd (omega (arith, leb-true _ _ is.passes, ap (λ k. completions rows c k (suc u)) same, none_here rows c (suc u)))
  | inr ge ↦ let few = leb-false _ _ (is.first u ge (omega arith)) in let enough = leb-true _ _ is.passes in
      let done = completed_in rows c q u ge (omega arith) (omega (arith, few, enough)) in
      record { u = u; after = refl; from = ge; completed = done.0; nth = omega (arith, few, enough, done.1) }
]

nth_is : (rows : List Row) (c n q r : ℕ) → 1 ≤ n → IsAfterNth rows c n q r
    → IsFirstCycle (λ k. leb n (completions rows c q k)) q r × (r ≤ length rows)
nth_is rows c n q r some is =
    let within = slice_get_within rows is.u is.completed.row is.completed.at in
    let up = counts_up rows c q is.u is.from is.completed in (
      record {
        from = omega (arith, is.from, is.after);
        passes = le-leb _ _ (omega (arith, is.nth, ap (completions rows c q) is.after));
        first = λ v from below. lt-leb _ _ (omega (arith, rising rows c q v is.u from (omega (arith, is.after)), up, is.nth));
      },
      omega (arith, is.after, within),
    )

first_said : (rows : List Row) (c q r : ℕ) → r ≤ length rows → IsFirstCycle (λ k. leb 1 (completions rows c q k)) q r
    → IsAfterFirst rows c q r
first_said rows c q r by is =
    let nth = nth_said rows c 1 q r (omega arith) by is in record {
      u = nth.u;
      after = nth.after;
      from = nth.from;
      completed = nth.completed;
      first = λ v from below done. absurd (omega (
        arith,
        counts_up rows c q v from done,
        leb-false _ _ (is.first (suc v) (omega arith) (omega (arith, nth.after))),
      ));
    }

first_said_is : (rows : List Row) (c q r : ℕ) → IsAfterFirst rows c q r
    → IsFirstCycle (λ k. leb 1 (completions rows c q k)) q r × (r ≤ length rows)
first_said_is rows c q r is =
    let within = slice_get_within rows is.u is.completed.row is.completed.at in
    nth_is rows c 1 q r (omega arith) record {
      u = is.u;
      after = is.after;
      from = is.from;
      completed = is.completed;
      nth = omega (
        arith,
        counts_up rows c q is.u is.from is.completed,
        still_none rows c q is.u (omega (arith, within)) is.first is.from,
      );
    }

waits_said : (q n r : ℕ) → IsFirstCycle (λ k. leb (q + n) k) q r → r ≡ q + n
waits_said q n r is = elim (cases_lt (q + n) r) [
  | inl lt ↦ absurd (omega (arith, leb-false _ _ (is.first (q + n) (omega arith) lt)))
  | inr ge ↦ omega (arith, leb-true _ _ is.passes)
]

by_kind : (rows : List Row) (c : ℕ) (step : Step) (q r : ℕ) → TakesSome step
    → IsFirstCycle (is_over rows c step q) q r × (r ≤ length rows) → FollowsIn rows c step q r
by_kind rows c (Send content) q r some is = first_said rows c q r is.1 is.0
by_kind rows c (Take n) q r some is = nth_said rows c n q r some is.1 is.0
by_kind rows c TakeAll q r some is = let off : false ≡ true = is.0.passes in absurd (cc)
by_kind rows c (Wait n) q r some is = (waits_said q n r is.0, is.1)
by_kind rows c (After x n) q r some is = record {
  from = is.0.from;
  by = is.1;
  enough = leb-true _ _ is.0.passes;
  least = λ v from below. leb-false _ _ (is.0.first v from below);
}

of_kind : (rows : List Row) (c : ℕ) (step : Step) (q r : ℕ) → TakesSome step → FollowsIn rows c step q r
    → IsFirstCycle (is_over rows c step q) q r × (r ≤ length rows)
of_kind rows c (Send content) q r some is = first_said_is rows c q r is
of_kind rows c (Take n) q r some is = nth_is rows c n q r some is
of_kind rows c TakeAll q r some is = absurd is
of_kind rows c (Wait n) q r some is = (
  record {
    from = omega (arith, is.0);
    passes = le-leb _ _ (omega (arith, is.0));
    first = λ v from below. lt-leb _ _ (omega (arith, is.0, below));
  },
  is.1,
)
of_kind rows c (After x n) q r some is = (
  record {
    from = is.from;
    passes = le-leb _ _ is.enough;
    first = λ v from below. lt-leb _ _ (is.least v from below);
  },
  is.by,
)

-- ---- the laws

pub reach_said : ReachIsAsSaid
reach_said rows c steps = record {
  first = refl;
  next = λ j q r step at here some.
      let by = reach_by rows c steps j q at in
      let is : reach rows c steps (suc j) ≡ first_cycle (is_over rows c step q) q (suc (length rows) - q) =
      ap (λ o. reach_next rows c o (reach rows c steps j)) here ∙ ap (reach_next rows c (Some step)) at in (
        λ e. let found = first_is (is_over rows c step q) q (suc (length rows) - q) r (sym is ∙ e) in
            by_kind rows c step q r some (found.0, omega (arith, found.1, by)),
        λ said. let found = of_kind rows c step q r some said in
            is ∙ first_hit (is_over rows c step q) q (suc (length rows) - q) r found.0 (omega (arith, found.1, by)),
      );
  none = λ j e. none_next rows c (slice_get steps j) (reach rows c steps j) e;
}

past_end : (rows : List Row) (c : ℕ) (steps : List Step) (j : ℕ) (q : Option ℕ) → slice_get steps j ≡ None
    → reach_next rows c (slice_get steps j) q ≡ None
past_end rows c steps j q none = ap (λ o. reach_next rows c o q) none

pub greatest_said : TheGreatestDecides
greatest_said rows c steps =
    let n = length steps in let j = last_reached rows c steps n in let last = last_law rows c steps n in
    let next : reach rows c steps (suc j) ≡ None = elim (cases_lt j n) [
      | inl lt ↦ last.behind lt
      | inr ge ↦ past_end rows c steps j (reach rows c steps j) (slice_get_past steps j ge)
    ] in record {
      cycle = last.cycle;
      at = last.at;
      by = reach_by rows c steps j last.cycle last.at;
      behind = λ k below.
          let same : k ≡ suc ((k - suc j) + j) = omega (arith, below) in
          ap (reach rows c steps) same ∙ none_behind rows c steps j (k - suc j) next;
    }
