-- What `replay DESIGN MAP TRACE CYCLES OUT` owes: each step of it in its order, and what is left in OUT.
use Rattle.std.specs.Prelude.{◌≡◌, ℕ, ◌⊎◌, Bool, List, Option}
use Rattle.vidi_bench.specs.vidi_io.Shelf.{Files}
use Rattle.vidi_bench.specs.vidi_io.Writing.{IsCutOff, IsKept, IsWritten}
use Rattle.replay_run.specs.trace_model.declared.row.Row.{Row}
use Rattle.replay_run.specs.trace_model.declared.trace.Trace.{Trace}
use Rattle.replay_run.specs.trace_model.Recording.{trace_of}
use Rattle.replay_run.specs.trace_code.Encoding.{Encodes, encode}
use Rattle.replay_run.specs.chan_map.declared.pins.Map.{Map}
use Rattle.replay_run.specs.declared.outcome.ReplayOutcome.{ReplayOutcome}
use Rattle.replay_run.specs.declared.outcome.ReplayOutcome.TheVariants as outcomes
use Rattle.replay_run.specs.Replaying.{EndsAs}
use Rattle.replay_run.specs.run_stage.Stretching.{all_rows}
use Rattle.vidi_bench.specs.report_text.Short.{short_lines}
use Rattle.vidi_bench.specs.report_text.declared.reason.Word.TheVariants as words
use Rattle.vidi_bench.specs.declared.device.Device.{Device}
use Rattle.vidi_bench.specs.vidi_answer.declared.status.Status.{Status}
use Rattle.vidi_bench.specs.vidi_answer.declared.status.Status.TheVariants.{Short, Unstable}
use Rattle.vidi_bench.specs.Design.{text_limit}
use Rattle.vidi_bench.specs.Devices.{IsDevice, Wiring}
use Rattle.vidi_bench.specs.Reading.{IsRead, Reading}
use Rattle.replay_command.specs.Said.{replayed_line, unstable_line}
use Rattle.vidi_bench.specs.Steps.{Ending, IsSaid}
use Rattle.vidi_bench.specs.Traces.{trace_limit, Decoding, HasOtherChannels, IsVerdict}

-- ---- what ends the command before anything is replayed

-- the bytes encode no trace, or one of other channels than the map's
abbrev pub RefusedTrace : List ℕ → Map → Ending
RefusedTrace trace m = Decoding words.Trace trace (λ t. HasOtherChannels words.Trace m.channels t.channels)

-- the first reason of three texts, in the order of the steps
abbrev pub RefusedReplay : List ℕ → List ℕ → List ℕ → Ending
RefusedReplay design map trace = Wiring design map (RefusedTrace trace)

-- three files, in the order of the words
abbrev pub IsUnreplayed : List ℕ → List ℕ → List ℕ → Option Files → (List ℕ → Type 0) → Ending
IsUnreplayed design map trace files ReadFailed =
    Reading text_limit words.Design design files ReadFailed (λ d.
    Reading text_limit words.Map map files ReadFailed (λ m.
    Reading trace_limit words.Trace trace files ReadFailed (RefusedReplay d m)))

-- ---- what is replayed

-- the three files are read and accepted: they say this design with its map, and this trace of the map's channels
pub record IsReplayable (design map trace : List ℕ) (files : Option Files) (v : Device) (t : Trace) : Type 0 where
  pub design_text : List ℕ
  pub map_text : List ℕ
  pub trace_bytes : List ℕ
  pub design_read : IsRead text_limit design files design_text
  pub map_read : IsRead text_limit map files map_text
  pub trace_read : IsRead trace_limit trace files trace_bytes
  pub device : IsDevice design_text map_text v
  pub encodes : Encodes t trace_bytes
  pub same : t.channels ≡ v.map.channels

-- what is said of a replay of at most n cycles that ends so, with the trace u; where it is short, the lists are those of the last row's epoch
abbrev pub IsReplaySaid : Trace → Trace → ℕ → ReplayOutcome → Ending
IsReplaySaid t u n (outcomes.Ended cycles) = IsVerdict (replayed_line cycles) t u
IsReplaySaid t u n (outcomes.Short helds events) = IsSaid (Short helds events) (short_lines helds events n t.channels)
IsReplaySaid t u n (outcomes.Unstable channel cycle) = IsSaid (Unstable channel cycle) (unstable_line t.channels channel cycle)

-- the rows are *the replay* of at most n cycles, in stretches from one reset to the next, and end so
pub record IsTheReplay (v : Device) (t : Trace) (n : ℕ) (rows : List Row) (outcome : ReplayOutcome) : Type 0 where
  pub past : List (List Row)
  pub here : List Row
  pub ends : EndsAs v.design v.map t.packets n past here outcome
  pub rows_are : all_rows past here ≡ rows

-- OUT was started once, and is the encoding of the replay's trace, however it ends
abbrev pub ReplaysTrace : Device → Trace → ℕ → List ℕ → Option Files → (Bool → Type 0) → Status → List ℕ → Option Files → Type 0
ReplaysTrace v t n out files Started status text left = (rows : List Row) × (outcome : ReplayOutcome) × IsTheReplay v t n rows outcome
    × IsReplaySaid t (trace_of v.map.channels rows) n outcome status text
    × IsWritten files out (encode (trace_of v.map.channels rows)) Started left

abbrev pub Replays : List ℕ → List ℕ → List ℕ → ℕ → List ℕ → Option Files → (List ℕ → Type 0) → (Bool → Type 0) → Status → List ℕ
    → Option Files → Type 0
Replays design map trace n out files ReadFailed Started status text left =
    (IsUnreplayed design map trace files ReadFailed status text × IsKept files Started left)
    ⊎ ((v : Device) × (t : Trace) × IsReplayable design map trace files v t × ReplaysTrace v t n out files Started status text left)

-- ---- writing OUT was cut off

abbrev pub CutsReplay : Device → Trace → ℕ → List ℕ → Option Files → (Bool → Type 0) → Option Files → Type 0
CutsReplay v t n out files Started left = (rows : List Row) × (outcome : ReplayOutcome) × IsTheReplay v t n rows outcome
    × IsCutOff files out (encode (trace_of v.map.channels rows)) Started left

abbrev pub StopsReplaying : List ℕ → List ℕ → List ℕ → ℕ → List ℕ → Option Files → (Bool → Type 0) → Option Files → Type 0
StopsReplaying design map trace n out files Started left =
    (v : Device) × (t : Trace) × IsReplayable design map trace files v t × CutsReplay v t n out files Started left
