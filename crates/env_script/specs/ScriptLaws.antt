-- *Script offer*, sentence by sentence: when each step is reached, and which one decides (this project's profile).
use Rattle.std.specs.Prelude.{◌≡◌, ℕ, suc, ◌+◌, ◌<◌, ◌≤◌, ◌↔◌, true, List, Some, None, length, slice_get}
use Rattle.run_model.specs.trace_model.declared.row.Row.{Row}
use Rattle.run_model.specs.trace_model.Row.{completes}
use Rattle.env_script.specs.declared.script.Step.{Step}
use Rattle.env_script.specs.declared.script.Step.TheVariants.{Send, Take, TakeAll, Wait, After}
use Rattle.env_script.specs.ScriptOffer.{completions, reach, last_reached}

-- channel c completes in row u
pub record CompletesIn (rows : List Row) (c u : ℕ) : Type 0 where
  pub row : Row
  pub at : slice_get rows u ≡ Some row
  pub completed : completes row c ≡ true

-- r is 1 plus u, the first cycle from q on in which c completes
pub record IsAfterFirst (rows : List Row) (c q r : ℕ) : Type 0 where
  pub u : ℕ
  pub after : r ≡ suc u
  pub from : q ≤ u
  pub completed : CompletesIn rows c u
  pub first : (v : ℕ) → q ≤ v → v < u → ¬ CompletesIn rows c v

-- r is 1 plus u, the cycle of the n-th completion of c from q on
pub record IsAfterNth (rows : List Row) (c n q r : ℕ) : Type 0 where
  pub u : ℕ
  pub after : r ≡ suc u
  pub from : q ≤ u
  pub completed : CompletesIn rows c u
  pub nth : completions rows c q (suc u) ≡ n

-- r is the least cycle from q on, up to the present one, before which x has completed n times
pub record IsLeastAfter (rows : List Row) (x n q r : ℕ) : Type 0 where
  pub from : q ≤ r
  pub by : r ≤ length rows
  pub enough : n ≤ completions rows x 0 r
  pub least : (v : ℕ) → q ≤ v → v < r → completions rows x 0 v < n

-- the step behind this one, which was reached in cycle q, is reached in cycle r
abbrev pub FollowsIn : List Row → ℕ → Step → ℕ → ℕ → Type 0
FollowsIn rows c (Send content) q r = IsAfterFirst rows c q r
FollowsIn rows c (Take n) q r = IsAfterNth rows c n q r
FollowsIn rows c TakeAll q r = ⊥
FollowsIn rows c (Wait n) q r = (r ≡ q + n) × (r ≤ length rows)
FollowsIn rows c (After x n) q r = IsLeastAfter rows x n q r

-- a `take` takes one at least
abbrev pub TakesSome : Step → Type 0
TakesSome (Send content) = Unit {0}
TakesSome (Take n) = 1 ≤ n
TakesSome TakeAll = Unit {0}
TakesSome (Wait n) = Unit {0}
TakesSome (After x n) = Unit {0}

-- step 0 is reached in cycle 0, and each other step as its kind says
pub record IsReach (rows : List Row) (c : ℕ) (steps : List Step) : Type 0 where
  pub first : reach rows c steps 0 ≡ Some 0
  pub next : (j q r : ℕ) (step : Step) → reach rows c steps j ≡ Some q → slice_get steps j ≡ Some step → TakesSome step
      → (reach rows c steps (suc j) ≡ Some r) ↔ FollowsIn rows c step q r
  pub none : (j : ℕ) → reach rows c steps j ≡ None → reach rows c steps (suc j) ≡ None

abbrev pub ReachIsAsSaid : Type 0
ReachIsAsSaid = (rows : List Row) (c : ℕ) (steps : List Step) → IsReach rows c steps

-- the step that decides is reached by the present cycle, and none behind it is
pub record IsGreatest (rows : List Row) (c : ℕ) (steps : List Step) (j : ℕ) : Type 0 where
  pub cycle : ℕ
  pub at : reach rows c steps j ≡ Some cycle
  pub by : cycle ≤ length rows
  pub behind : (k : ℕ) → j < k → reach rows c steps k ≡ None

abbrev pub TheGreatestDecides : Type 0
TheGreatestDecides = (rows : List Row) (c : ℕ) (steps : List Step) → IsGreatest rows c steps (last_reached rows c steps (length steps))
