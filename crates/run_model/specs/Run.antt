-- *IsRun*, and the run of n cycles.
use Rattle.std.specs.Prelude.{◌≡◌, ℕ, ◌<◌, Bool, false, List, Option, Some, None, length}
use Rattle.chan_map.specs.trace_model.declared.channel.Channel.{Channel}
use Rattle.chan_map.specs.trace_model.declared.row.Offers.{Offers}
use Rattle.chan_map.specs.trace_model.declared.row.Row.{Row}
use Rattle.net_design.specs.declared.design.Design.{Design}
use Rattle.chan_map.specs.declared.pins.Map.{Map}
use Rattle.run_model.specs.Offers.{Carries}
use Rattle.run_model.specs.Played.{IsPlayed, AreStable, StopsBefore, all_up, is_fresh_after}

-- a row of a stretch of a run: it has what is offered after the rows before it, its gates are those after the rows before it, and it is
-- fresh where it is the first one behind a reset in mid-run
abbrev pub IsStretchRow : Bool → List Channel → (List Row → Offers) → (List Row → ℕ → Type 0) → List Row → Row → Type 0
IsStretchRow later channels offers gates before row =
    Carries channels (offers before) row × gates before row.gates × (row.fresh ≡ is_fresh_after later before)

-- a row of a run in which no reset comes
abbrev pub IsRunRow : List Channel → (List Row → Offers) → (List Row → ℕ → Type 0) → List Row → Row → Type 0
IsRunRow = IsStretchRow false

-- the rows are a stretch of a run, from the map's reset on or from one in mid-run to the next
abbrev pub IsRunStretch : Bool → Design → Map → (List Row → Offers) → (List Row → ℕ → Type 0) → List Row → Type 0
IsRunStretch later d m offers gates rows = IsPlayed d m (IsStretchRow later m.channels offers gates) rows

-- the rows are those of a run in which no reset comes: `offers` is what the environment offers after the rows before, `gates` says which gates are up then
abbrev pub IsRun : Design → Map → (List Row → Offers) → (List Row → ℕ → Type 0) → List Row → Type 0
IsRun d m offers gates rows = IsPlayed d m (IsRunRow m.channels offers gates) rows

-- all gates are up, as without a store
abbrev pub AllUp : List Channel → List Row → ℕ → Type 0
AllUp channels before gates = gates ≡ all_up channels

-- the run of n cycles: the n rows where none is unstable, else the rows before the first unstable one, with its lowest channel
abbrev pub IsTheRun : Design → Map → (List Row → Offers) → (List Row → ℕ → Type 0) → ℕ → List Row → Option ℕ → Type 0
IsTheRun d m offers gates n rows None = IsRun d m offers gates rows × AreStable m.channels rows × (length rows ≡ n)
IsTheRun d m offers gates n rows (Some c) = StopsBefore d m (IsRunRow m.channels offers gates) rows c × (length rows < n)
