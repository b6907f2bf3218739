-- What a call of `vidi` owes: each answer with its cause and its text.
use Rattle.std.specs.Prelude.{◌≡◌, ℕ, ◌⊎◌, Bool, List, Option}
use Rattle.std.specs.Io.KnownBytes.{append_known}
use Rattle.wrap_command.specs.vidi_io.Shelf.{Files}
use Rattle.wrap_command.specs.vidi_io.Sink.{AppendsSome}
use Rattle.wrap_command.specs.vidi_io.Writing.{IsKept}
use Rattle.wrap_command.specs.vidi_bench.vidi_answer.declared.status.Status.{Status}
use Rattle.wrap_command.specs.vidi_bench.vidi_answer.declared.status.Status.TheVariants.{Usage, ReadFault, WriteFault, Refused, Memory}
use Rattle.vidi_commands.specs.Command.{Command, Dump, Check, Run, Record, Replay, Compare, Salvage, Migrate, Bursts, Move, Wrap, Sample, IsGiven}
use Rattle.wrap_command.specs.vidi_bench.Steps.{IsSaid}
use Rattle.trace_commands.specs.Bursts as grouping
use Rattle.trace_commands.specs.Moves.{MovesEnd, StopsMoving}
use Rattle.trace_commands.specs.Migrating.{Migrates, StopsMigrating}
use Rattle.trace_commands.specs.Traces.{Dumps, Compares, Saves, StopsSaving}
use Rattle.sample_command.specs.run_commands.Checks.{Checks}
use Rattle.sample_command.specs.run_commands.Runs.{Runs}
use Rattle.sample_command.specs.run_commands.Records.{Records, StopsRecording}
use Rattle.sample_command.specs.replay_command.Replays.{Replays, StopsReplaying}
use Rattle.wrap_command.specs.Wraps.{Wraps, StopsWrapping}
use Rattle.sample_command.specs.Samples.{Samples}
use Rattle.vidi_commands.specs.Said.{usage_line, memory_line}

-- what a command owes: its answer, its text, the files that are left, and whether a file was started
abbrev pub Does : Command → Option Files → (List ℕ → Type 0) → (Bool → Type 0) → Status → List ℕ → Option Files → Type 0
Does (Dump trace) files ReadFailed Started status text left = Dumps trace files ReadFailed status text × IsKept files Started left
Does (Check design top) files ReadFailed Started status text left =
    Checks design top files ReadFailed status text × IsKept files Started left
Does (Run design map script) files ReadFailed Started status text left =
    Runs design map script files ReadFailed status text × IsKept files Started left
Does (Record design map script stalls trace) files ReadFailed Started status text left =
    Records design map script stalls trace files ReadFailed Started status text left
Does (Replay design map trace cycles out) files ReadFailed Started status text left =
    Replays design map trace cycles out files ReadFailed Started status text left
Does (Compare trace other) files ReadFailed Started status text left =
    Compares trace other files ReadFailed status text × IsKept files Started left
Does (Salvage trace out) files ReadFailed Started status text left = Saves trace out files ReadFailed Started status text left
Does (Migrate trace out) files ReadFailed Started status text left = Migrates trace out files ReadFailed Started status text left
Does (Bursts trace axi) files ReadFailed Started status text left =
    grouping.Bursts trace axi files ReadFailed status text × IsKept files Started left
Does (Move trace wish out) files ReadFailed Started status text left = MovesEnd trace wish out files ReadFailed Started status text left
Does (Wrap design map out) files ReadFailed Started status text left = Wraps design map out files ReadFailed Started status text left
Does (Sample number) files ReadFailed Started status text left = Samples number status text × IsKept files Started left

-- An answer is earned by these words, with this text, these files left and these starts: `Usage` where they give no command, else what
-- the command owes. Want of memory is free, but that it leaves the files and starts none.
abbrev pub Earns : List (List ℕ) → Option Files → (List ℕ → Type 0) → (Bool → Type 0) → Status → List ℕ → Option Files → Type 0
Earns words files ReadFailed Started status text left =
    (((c : Command) → ¬ IsGiven words c) × IsSaid Usage usage_line status text × IsKept files Started left)
    ⊎ (IsSaid Memory memory_line status text × IsKept files Started left)
    ⊎ ((c : Command) × IsGiven words c × Does c files ReadFailed Started status text left)

-- A write of a command's file failed, which leaves these files: no start succeeded, and the command's file is as at entry or empty; or it
-- was started exactly once, and is a front of what the command defines.
abbrev pub StopsIn : Command → Option Files → (Bool → Type 0) → Option Files → Type 0
StopsIn (Salvage trace out) files Started left = StopsSaving trace out files Started left
StopsIn (Migrate trace out) files Started left = StopsMigrating trace out files Started left
StopsIn (Move trace wish out) files Started left = StopsMoving trace wish out files Started left
StopsIn (Record design map script stalls trace) files Started left = StopsRecording design map script stalls trace files Started left
StopsIn (Replay design map trace cycles out) files Started left = StopsReplaying design map trace cycles out files Started left
StopsIn (Wrap design map out) files Started left = StopsWrapping design map out files Started left
StopsIn _ files Started left = ⊥

abbrev pub Stops : List (List ℕ) → Option Files → (Bool → Type 0) → Option Files → Type 0
Stops words files Started left = (c : Command) × IsGiven words c × StopsIn c files Started left

-- the answers before which no file is started
abbrev pub StartsNone : Status → Type 0
StartsNone Usage = Unit {0}
StartsNone (ReadFault word) = Unit {0}
StartsNone (Refused word reason) = Unit {0}
StartsNone Memory = Unit {0}
StartsNone status = ⊥

-- a front of the text of an answer that was earned was said
abbrev pub IsBroken : (Status → List ℕ → Option Files → Type 0) → Option (List ℕ) → Option (List ℕ) → Option Files → Type 0
IsBroken Earned old new left = (status : Status) × (text : List ℕ) × Earned status text left × AppendsSome old new text

-- What a call answers, what the sink tells before and after, and the files that are left. An answer is earned and its whole text was
-- said. `WriteFault` has one of two causes: a push to the sink failed, and the text of an answer that was earned broke off; or a write of
-- the shelf failed, the writing of the command's file stopped, and nothing was said.
abbrev pub Answers : (Status → List ℕ → Option Files → Type 0) → (Option Files → Type 0) → Type 0 → Type 0 → Option (List ℕ)
    → Option (List ℕ) → Option Files → Status → Type 0
Answers Earned Stopped ShelfFailed SinkFailed old new left WriteFault =
    (SinkFailed × IsBroken Earned old new left) ⊎ (ShelfFailed × Stopped left × (new ≡ old))
Answers Earned Stopped ShelfFailed SinkFailed old new left status = (text : List ℕ) × Earned status text left × (new ≡ append_known old text)

-- A status was said with its text, or a write failed in the middle of the text.
abbrev pub Says : Status → List ℕ → Type 0 → Option (List ℕ) → Option (List ℕ) → Status → Type 0
Says status text WriteFailed old new result = ((result ≡ status) × (new ≡ append_known old text))
    ⊎ ((result ≡ WriteFault) × WriteFailed × AppendsSome old new text)
