-- The design's part of runs and replays: rows that a design shows one after the other, from s_0 on.
use Rattle.std.specs.Prelude.{◌≡◌, ℕ, suc, ◌&&◌, Bool, ◌++◌, ◌∷◌, [], List, Some, length, take, slice_get}
use Rattle.chan_map.specs.vidi_bits.Findings.{is_nil}
use Rattle.chan_map.specs.trace_model.declared.channel.Channel.{Channel}
use Rattle.chan_map.specs.trace_model.declared.row.Row.{Row}
use Rattle.chan_map.specs.trace_model.Mask
use Rattle.chan_map.specs.trace_model.Row.{AreRows, row_before}
use Rattle.chan_map.specs.trace_model.Stability.{IsUnstable, IsUnstableAt}
use Rattle.net_design.specs.declared.design.Design.{Design}
use Rattle.net_design.specs.declared.values.Values.{Values}
use Rattle.chan_map.specs.declared.pins.Map.{Map}
use Rattle.run_model.specs.Step.{IsFirst, IsStep}

-- there are states s_0, s_1, .., of which s_t shows row t
pub record IsDriven (d : Design) (m : Map) (rows : List Row) : Type 0 where
  pub state : ℕ → Values
  pub first : IsFirst d m (state 0)
  pub steps : (t : ℕ) (row : Row) → slice_get rows t ≡ Some row → IsStep d m (state t) row (state (suc t))

-- rows over the channels, with their starts and ends, that the design shows and that the rule allows
pub record IsPlayed (d : Design) (m : Map) (rule : List Row → Row → Type 0) (rows : List Row) : Type 0 where
  pub marked : AreRows m.channels rows
  pub driven : IsDriven d m rows
  pub ruled : (t : ℕ) (row : Row) → slice_get rows t ≡ Some row → rule (take t rows) row

-- whether the row after these rows since the last reset is fresh: the first one is, where that was a reset in mid-run
abbrev pub is_fresh_after : Bool → List Row → Bool
is_fresh_after later before = later && is_nil before

-- all gates of the channels
abbrev pub all_up : List Channel → ℕ
all_up channels = Mask.all_up (length channels)

-- no row of these is unstable
abbrev pub AreStable : List Channel → List Row → Type 0
AreStable channels rows = (t : ℕ) (before now : Row) → row_before rows t ≡ Some before → slice_get rows t ≡ Some now
    → (c : ℕ) → ¬ IsUnstable channels before now c

-- the rows are stable, and the next one is unstable; c is the lowest channel on which it is
pub record StopsBefore (d : Design) (m : Map) (rule : List Row → Row → Type 0) (rows : List Row) (c : ℕ) : Type 0 where
  pub next : Row
  pub played : IsPlayed d m rule (rows ++ next ∷ [])
  pub stable : AreStable m.channels rows
  pub unstable : IsUnstableAt m.channels (rows ++ next ∷ []) (length rows) c
