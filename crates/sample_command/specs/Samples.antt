-- What `sample NUMBER` owes: the files of the sample are recorded, and the trace is replayed on them, all in memory.
use Rattle.std.specs.Prelude.{◌≡◌, ◌≢◌, ℕ, ◌≤◌, ◌⊎◌, List, [], ◌++◌, Option, None, Some, Ok, length}
use Rattle.sample_gen.specs.trace_model.declared.row.Row.{Row}
use Rattle.sample_gen.specs.trace_model.declared.trace.Trace.{Trace}
use Rattle.sample_gen.specs.trace_model.Recording.{trace_of}
use Rattle.replay_command.specs.trace_code.Encoding.{Encodes, encode}
use Rattle.replay_command.specs.trace_compare.Findings.{findings}
use Rattle.sample_gen.specs.trace_model.declared.packet.TheConstants.{MOST_CYCLES}
use Rattle.sample_gen.specs.env_script.declared.stalls.Stalls.{Stalls}
use Rattle.sample_gen.specs.env_script.Reasons.{read_lines}
use Rattle.sample_gen.specs.env_script.Stalls.{ReadsStalls}
use Rattle.run_commands.specs.vidi_recorder.Course.{IsTheRunOf}
use Rattle.replay_command.specs.replay_run.declared.outcome.ReplayOutcome.{ReplayOutcome}
use Rattle.replay_command.specs.replay_run.declared.outcome.ReplayOutcome.TheVariants as outcomes
use Rattle.sample_gen.specs.declared.files.Sample.{Sample}
use Rattle.sample_gen.specs.Sample.{sample}
use Rattle.replay_command.specs.vidi_bench.declared.bench.Bench.{Bench}
use Rattle.replay_command.specs.vidi_bench.declared.device.Device.{Device}
use Rattle.sample_command.specs.declared.sampling.Figures.{Figures}
use Rattle.replay_command.specs.vidi_bench.vidi_answer.declared.status.Status.TheVariants.{Done, Diverged}
use Rattle.replay_command.specs.vidi_bench.Benches.{IsBench}
use Rattle.replay_command.specs.vidi_bench.Devices.{IsDevice}
use Rattle.run_commands.specs.Records.{course_of, least_for, IsRecorded, RefusedPlanned}
use Rattle.replay_command.specs.Replays.{IsReplaySaid, IsTheReplay, RefusedReplay}
use Rattle.sample_command.specs.Said.{diverged_text, sample_line}
use Rattle.replay_command.specs.vidi_bench.Steps.{Ending, IsSaid, Step}

-- for at most so many cycles a sample is replayed
abbrev pub sample_cycles : ℕ
sample_cycles = MOST_CYCLES

-- ---- recording, as `record` does

-- the texts say this design with its map, this script and this plan, and these rows are their run, which ends so
pub record IsRunOfTexts (design map script stalls : List ℕ) (b : Bench) (plan : Stalls) (rows : List Row) (stop : Option ℕ) : Type 0 where
  pub bench : IsBench design map script b
  pub planned : ReadsStalls (read_lines stalls) (Ok plan)
  pub holds : least_for b.device.map.channels b.script ≤ plan.capacity
  pub run : IsTheRunOf (course_of b plan) rows stop

-- what ends the command before anything is replayed: the first reason for which the texts are refused, or a row that is unstable
abbrev pub IsUntraced : List ℕ → List ℕ → List ℕ → List ℕ → Ending
IsUntraced design map script stalls status said = RefusedPlanned design map script stalls status said
    ⊎ ((b : Bench) × (plan : Stalls) × (rows : List Row) × (channel : ℕ) × IsRunOfTexts design map script stalls b plan rows (Some channel)
    × IsRecorded b.device.map.channels rows (Some channel) status said)

-- the run has all its cycles, and the bytes are the encoding of its trace
abbrev pub IsTraced : List ℕ → List ℕ → List ℕ → List ℕ → List ℕ → Type 0
IsTraced design map script stalls bytes = (b : Bench) × (plan : Stalls) × (rows : List Row)
    × IsRunOfTexts design map script stalls b plan rows None × (bytes ≡ encode (trace_of b.device.map.channels rows))

-- ---- replaying, as `replay` does

-- the texts say this design with its map, and the bytes encode this trace of the map's channels
pub record IsReplayableTexts (design map bytes : List ℕ) (v : Device) (t : Trace) : Type 0 where
  pub device : IsDevice design map v
  pub encodes : Encodes t bytes
  pub same : t.channels ≡ v.map.channels

-- the line is said, and the findings behind it where there are any
abbrev pub IsSampleVerdict : List ℕ → Trace → Trace → Ending
IsSampleVerdict line t u status said = ((findings t u ≡ []) × IsSaid Done line status said)
    ⊎ ((findings t u ≢ []) × IsSaid Diverged (line ++ diverged_text (findings t u) t.channels) status said)

-- what is said of a replay that ends so, with the trace u: of one that is short or unstable as `replay` does
abbrev pub IsSampleSaid : Figures → Trace → Trace → ReplayOutcome → Ending
IsSampleSaid x t u (outcomes.Ended cycles) = IsSampleVerdict (sample_line x (length t.packets) cycles) t u
IsSampleSaid x t u (outcomes.Short helds events) = IsReplaySaid t u sample_cycles (outcomes.Short helds events)
IsSampleSaid x t u (outcomes.Unstable channel cycle) = IsReplaySaid t u sample_cycles (outcomes.Unstable channel cycle)

-- the trace is replayed on the design, and this is said of it
abbrev pub IsSampleReplay : Figures → Device → Trace → Ending
IsSampleReplay x v t status said = (rows : List Row) × (outcome : ReplayOutcome) × IsTheReplay v t sample_cycles rows outcome
    × IsSampleSaid x t (trace_of v.map.channels rows) outcome status said

-- the first reason for which the texts and the trace are refused, or the replay
abbrev pub SamplesReplay : Figures → List ℕ → List ℕ → List ℕ → Ending
SamplesReplay x design map bytes status said = RefusedReplay design map bytes status said
    ⊎ ((v : Device) × (t : Trace) × IsReplayableTexts design map bytes v t × IsSampleReplay x v t status said)

-- ---- the command

-- what the line of a sample tells of its files
abbrev pub figures : ℕ → Sample → Figures
figures n x = record { number = n; stages = x.stages; sends = x.sends; cycles = x.cycles }

-- these files, of number n
abbrev pub SamplesFiles : ℕ → Sample → Ending
SamplesFiles n x = Step (IsUntraced x.design x.map x.script x.stalls) (IsTraced x.design x.map x.script x.stalls)
    (SamplesReplay (figures n x) x.design x.map)

abbrev pub Samples : ℕ → Ending
Samples n = SamplesFiles n (sample n)
