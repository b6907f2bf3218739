-- What is known of each command: one list.
use Rattle.vidi_commands.specs.Command.{Command, Dump, Check, Run, Record, Replay, Compare, Salvage, Migrate, Bursts, Move, Wrap, Sample}
use Rattle.vidi_commands.specs.Answer.{Does, StopsIn}
use Rattle.trace_commands.specs.Bursts as grouping
use Rattle.trace_commands.specs.Moves.{IsMovedOf, IsUnmoved}
use Rattle.trace_commands.specs.Migrating.{IsOldTraceOf, IsUnmigrated}
use Rattle.trace_commands.specs.Said.{migrated_line, moved_line, salvaged_line}
use Rattle.trace_commands.specs.Traces.{Compares, Dumps, IsUnsaved, IsWhole}
use Rattle.sample_command.specs.run_commands.Checks.{Checks}
use Rattle.sample_command.specs.run_commands.Runs.{Runs}
use Rattle.sample_command.specs.Samples.{Samples}
use Rattle.trace_commands.proofs.QuietBursts.{mute-bursts, quiet-bursts}
use Rattle.trace_commands.proofs.MovedTraces.{mute-unmoved, quiet-unmoved}
use Rattle.trace_commands.proofs.QuietTraces.{mute-dumps, mute-compares, mute-unsaved, mute-unmigrated}
use Rattle.trace_commands.proofs.QuietTraces.{quiet-dumps, quiet-compares, quiet-unsaved, quiet-unmigrated}
use Rattle.sample_command.proofs.run_commands_lemmas.QuietTexts.{mute-checks, mute-runs, quiet-checks, quiet-runs}
use Rattle.sample_command.proofs.QuietSamples.{mute-samples}
use Rattle.vidi_commands.proofs.Facts.{Facts, reads-facts}
use Rattle.vidi_commands.proofs.RecordFacts.{record-facts}
use Rattle.vidi_commands.proofs.ReplayFacts.{replay-facts}
use Rattle.vidi_commands.proofs.WrapFacts.{wrap-facts}
use Rattle.vidi_commands.proofs.WrittenFacts.{written-facts}

pub facts : (c : Command) → Facts (Does c) (StopsIn c)
facts (Dump trace) = reads-facts (Dumps trace) (mute-dumps trace) (quiet-dumps trace)
facts (Check design top) = reads-facts (Checks design top) (mute-checks design top) (quiet-checks design top)
facts (Run design map script) = reads-facts (Runs design map script) (mute-runs design map script) (quiet-runs design map script)
facts (Record design map script stalls trace) = record-facts design map script stalls trace
facts (Replay design map trace cycles out) = replay-facts design map trace cycles out
facts (Compare trace other) = reads-facts (Compares trace other) (mute-compares trace other) (quiet-compares trace other)
facts (Salvage trace out) = written-facts (IsUnsaved trace) (IsWhole trace) salvaged_line out (mute-unsaved trace) (quiet-unsaved trace)
facts (Migrate trace out) =
    written-facts (IsUnmigrated trace) (IsOldTraceOf trace) migrated_line out (mute-unmigrated trace) (quiet-unmigrated trace)
facts (Bursts trace axi) = reads-facts (grouping.Bursts trace axi) (mute-bursts trace axi) (quiet-bursts trace axi)
facts (Move trace wish out) =
    written-facts (IsUnmoved trace wish) (IsMovedOf trace wish) moved_line out (mute-unmoved trace wish) (quiet-unmoved trace wish)
facts (Wrap design map out) = wrap-facts design map out
facts (Sample number) =
    reads-facts (λ _ _. Samples number) (λ files F. mute-samples number) (λ files F still a x is. is)
