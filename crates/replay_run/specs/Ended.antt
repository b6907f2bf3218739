-- *End of replay* epoch by epoch, and the replay of n cycles in stretches, of which `here` is the last (this project's profile).
use Rattle.std.specs.Prelude.{◌≡◌, ℕ, ◌<◌, ◌≤◌, List, Some, All, length, slice_get, take}
use Rattle.trace_code.specs.trace_model.declared.packet.Packet.{Packet}
use Rattle.trace_code.specs.trace_model.declared.row.Row.{Row}
use Rattle.trace_code.specs.trace_model.Epoch.{epoch, resets}
use Rattle.net_design.specs.declared.design.Design.{Design}
use Rattle.run_stage.specs.chan_map.declared.pins.Map.{Map}
use Rattle.run_stage.specs.run_model.Played.{AreStable}
use Rattle.run_stage.specs.run_model.Replay.{HasEnded}
use Rattle.run_stage.specs.run_model.Stretches.{AreReplayed, StopsBehind, and_stretch}
use Rattle.run_stage.specs.Stretching.{all_rows, AllAreStable, IsAsked}
use Rattle.replay_run.specs.Epochs.{epochs}

-- the rows are a replay of this trace, a stretch for each epoch that they reach
abbrev pub AreTraceReplay : Design → Map → List Packet → List (List Row) → Type 0
AreTraceReplay d m packets stretches = AreReplayed d m (epochs packets) stretches

-- the trace has ended: the last row is in its last epoch, of no rows that is the first, and each of n channels has in that epoch at least as
-- many starts and completions as recorded
pub record HasEndedIn (n : ℕ) (packets : List Packet) (past : List (List Row)) (here : List Row) : Type 0 where
  pub last : length past ≡ resets packets
  pub ended : HasEnded n (epoch (length past) packets) here

-- it hasn't in any shorter front of the rows
pub record IsGoingOn (n : ℕ) (packets : List Packet) (past : List (List Row)) (here : List Row) : Type 0 where
  pub going : (k : ℕ) → k < length here → IsAsked past k → ¬ HasEndedIn n packets past (take k here)
  pub before : (i : ℕ) (rows : List Row) → slice_get past i ≡ Some rows → (k : ℕ) → k ≤ length rows → IsAsked (take i past) k
      → ¬ HasEndedIn n packets (take i past) (take k rows)

-- the replay of at most n cycles, where it ends: the shortest that has ended
pub record AreEndedReplay (d : Design) (m : Map) (packets : List Packet) (n : ℕ) (past : List (List Row)) (here : List Row) : Type 0 where
  pub played : AreTraceReplay d m packets (and_stretch past here)
  pub stable : AllAreStable m.channels past here
  pub within : length (all_rows past here) ≤ n
  pub ended : HasEndedIn (length m.channels) packets past here
  pub shortest : IsGoingOn (length m.channels) packets past here

-- where a row is unstable first: the rows before it, with its lowest channel
pub record AreUnstableReplay (d : Design) (m : Map) (packets : List Packet) (n : ℕ) (past : List (List Row)) (here : List Row) (c : ℕ)
    : Type 0 where
  pub stops : StopsBehind (AreTraceReplay d m packets) m.channels past here c
  pub within : length (all_rows past here) < n
  pub going : IsGoingOn (length m.channels) packets past here
  pub not_ended : ¬ HasEndedIn (length m.channels) packets past here

-- else n rows
pub record AreShortReplay (d : Design) (m : Map) (packets : List Packet) (n : ℕ) (past : List (List Row)) (here : List Row) : Type 0 where
  pub played : AreTraceReplay d m packets (and_stretch past here)
  pub stable : AllAreStable m.channels past here
  pub all : length (all_rows past here) ≡ n
  pub going : IsGoingOn (length m.channels) packets past here
  pub not_ended : ¬ HasEndedIn (length m.channels) packets past here
