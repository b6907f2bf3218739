-- Rows in stretches, each from one reset to the next (this project's profile). A reset in mid-run brings the design back to s_0, and then
-- nothing is in flight and nothing has completed. So the rows of a stretch are a run or a replay as without resets, but that its first row
-- is fresh, and a design's rows are those of its stretches, one after the other.
use Rattle.std.specs.Prelude.{◌≡◌, ℕ, suc, ◌<◌, ◌≤◌, nat_lt, not, Bool, true, List, [], ◌∷◌, ◌++◌, Option, None, Some, All, drop, length}
use Rattle.std.specs.Prelude.{slice_get, sum_by, take}
use Rattle.std.specs.List.{flat_map}
use Rattle.chan_map.specs.vidi_bits.Findings.{is_nil}
use Rattle.chan_map.specs.trace_model.declared.channel.Channel.{Channel}
use Rattle.chan_map.specs.trace_model.declared.channel.Dir.TheVariants.{Inward}
use Rattle.chan_map.specs.trace_model.declared.event.Kind.TheVariants.{Start, End}
use Rattle.chan_map.specs.trace_model.declared.packet.Packet.{Packet}
use Rattle.chan_map.specs.trace_model.declared.row.Offers.{Offers}
use Rattle.chan_map.specs.trace_model.declared.row.Row.{Row}
use Rattle.chan_map.specs.trace_model.Packet.{count}
use Rattle.chan_map.specs.trace_model.Recording.{shown}
use Rattle.chan_map.specs.trace_model.Stability.{IsUnstableAt}
use Rattle.net_design.specs.declared.design.Design.{Design}
use Rattle.chan_map.specs.declared.pins.Map.{Map}
use Rattle.run_model.specs.Played.{AreStable}
use Rattle.run_model.specs.Replay.{IsReplayStretch, done}
use Rattle.run_model.specs.Run.{IsRunStretch}

-- ---- stretches of any kind
-- x is what is so far: of a run the stretches before, of a replay the epochs to come. `Is x` says which rows may follow it, `Turns x rows`
-- that a reset comes behind them, and `next x rows` is what is so far then.

-- no shorter front of the rows, but none at all, is one behind which a reset comes
abbrev pub IsUnturned : {X : Type 0} → (X → List Row → Type 0) → X → List Row → Type 0
IsUnturned Turns x rows = (k : ℕ) → 0 < k → k < length rows → ¬ Turns x (take k rows)

-- a stretch behind which the next one begins: it has a row, and a reset comes behind it, for the first time
pub record IsTurned {X : Type 0} (Is Turns : X → List Row → Type 0) (x : X) (rows : List Row) : Type 0 where
  pub is : Is x rows
  pub some : 0 < length rows
  pub turns : Turns x rows
  pub unturned : IsUnturned Turns x rows

-- One stretch after the other, of which the last may have no row only where it is the only one. Behind the last row of all a reset may come:
-- the row after it isn't there.
abbrev pub AreStretches : {X : Type 0} → (X → List Row → Type 0) → (X → List Row → Type 0) → (X → List Row → X) → X → List (List Row) → Type 0
AreStretches Is Turns next x [] = ⊥
AreStretches Is Turns next x (rows ∷ []) = Is x rows × IsUnturned Turns x rows
AreStretches Is Turns next x (rows ∷ more ∷ rest) =
    IsTurned Is Turns x rows × (0 < length more) × AreStretches Is Turns next (next x rows) (more ∷ rest)

-- how many rows they have
abbrev pub row_count : List (List Row) → ℕ
row_count stretches = sum_by length stretches

-- their rows, one after the other
abbrev pub rows_of : List (List Row) → List Row
rows_of stretches = flat_map (λ (rows : List Row). rows) stretches

-- one stretch more
abbrev pub and_stretch : List (List Row) → List Row → List (List Row)
and_stretch past rows = past ++ rows ∷ []

-- ---- *IsRun* with resets
-- what is offered behind these stretches, after the rows since
abbrev pub offers_behind : (List Row → Offers) → List (List Row) → List Row → Offers
offers_behind offers past before = offers (rows_of past ++ before)

-- a stretch of a run behind those before it. The gates know where it begins.
abbrev pub IsRunBehind : Design → Map → (List Row → Offers) → (List (List Row) → List Row → ℕ → Type 0) → List (List Row) → List Row → Type 0
IsRunBehind d m offers gates past rows = IsRunStretch (not (is_nil past)) d m (offers_behind offers past) (gates past) rows

-- `turns` tells of all rows so far whether a reset comes behind them
abbrev pub Turns : (List Row → Bool) → List (List Row) → List Row → Type 0
Turns turns past rows = turns (rows_of past ++ rows) ≡ true

-- a run in stretches
abbrev pub AreRun : Design → Map → (List Row → Offers) → (List (List Row) → List Row → ℕ → Type 0) → (List Row → Bool) → List (List Row) → Type 0
AreRun d m offers gates turns stretches = AreStretches (IsRunBehind d m offers gates) (Turns turns) and_stretch [] stretches

-- the rows of all stretches, of which `here` is the last, are stable, and the next row is unstable; c is the lowest channel on which it is
pub record StopsBehind (Are : List (List Row) → Type 0) (channels : List Channel) (past : List (List Row)) (here : List Row) (c : ℕ)
    : Type 0 where
  pub next : Row
  pub played : Are (and_stretch past (here ++ next ∷ []))
  pub before : All (AreStable channels) past
  pub stable : AreStable channels here
  pub unstable : IsUnstableAt channels (here ++ next ∷ []) (length here) c

-- the run of n cycles in stretches, of which `here` is the last: the n rows where none is unstable, else the rows before the first
-- unstable one, with its lowest channel
abbrev pub AreTheRun : Design → Map → (List Row → Offers) → (List (List Row) → List Row → ℕ → Type 0) → (List Row → Bool) → ℕ
    → List (List Row) → List Row → Option ℕ → Type 0
AreTheRun d m offers gates turns n past here None = AreRun d m offers gates turns (and_stretch past here)
    × All (AreStable m.channels) past × AreStable m.channels here × (length (rows_of past ++ here) ≡ n)
AreTheRun d m offers gates turns n past here (Some c) = StopsBehind (AreRun d m offers gates turns) m.channels past here c
    × (length (rows_of past ++ here) < n)

-- ---- *IsReplay* with resets
-- An epoch of a trace is its packets from one reset to the next.

-- the rows have all that a replay of this epoch has to show before the reset behind it: each channel's recorded completions, and each
-- inward channel's recorded starts
abbrev pub IsDone : List Channel → List Packet → List Row → Type 0
IsDone channels packets rows = (c : ℕ) (x : Channel) → slice_get channels c ≡ Some x
    → (count End c packets ≤ done rows c) × (x.dir ≡ Inward → count Start c packets ≤ shown Start c rows)

-- the rows are a replay of the first of these epochs, which is no trace's first where fewer than n are left
abbrev pub IsEpochReplay : Design → Map → ℕ → List (List Packet) → List Row → Type 0
IsEpochReplay d m n [] rows = ⊥
IsEpochReplay d m n (packets ∷ later) rows = IsReplayStretch (nat_lt (suc (length later)) n) d m packets rows

-- the first of these epochs is done, and there is a next one
abbrev pub TurnsEpoch : List Channel → List (List Packet) → List Row → Type 0
TurnsEpoch channels [] rows = ⊥
TurnsEpoch channels (packets ∷ []) rows = ⊥
TurnsEpoch channels (packets ∷ next ∷ later) rows = IsDone channels packets rows

-- a replay of these epochs, a stretch for each that it reaches
abbrev pub AreReplayed : Design → Map → List (List Packet) → List (List Row) → Type 0
AreReplayed d m epochs stretches =
    AreStretches (IsEpochReplay d m (length epochs)) (TurnsEpoch m.channels) (λ left rows. drop 1 left) epochs stretches

-- the last row is in epoch e, which has these packets and of which these rows are shown; of no rows it is epoch 0
pub record IsLastEpoch (epochs : List (List Packet)) (stretches : List (List Row)) (e : ℕ) (packets : List Packet) (rows : List Row)
    : Type 0 where
  pub number : length stretches ≡ suc e
  pub epoch : slice_get epochs e ≡ Some packets
  pub here : slice_get stretches e ≡ Some rows
