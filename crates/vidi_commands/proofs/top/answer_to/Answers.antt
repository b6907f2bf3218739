use Rattle.std.proofs.Common.{ℕ, List, inr, refl}
use Rattle.wrap_command.specs.vidi_io.Cause.{Rose}
use Rattle.wrap_command.specs.vidi_io.Shelf.{HasStarted}
use Rattle.wrap_command.specs.vidi_io.Writing.{IsKept}
use Rattle.vidi_commands.specs.Answer.{Earns, Stops}
use Rattle.sample_command.specs.run_commands.Checks.{Checks}
use Rattle.vidi_commands.specs.Command.{Bursts, Check, Compare, Dump, IsGiven, Migrate, Move, Record, Replay, Run, Salvage, Sample, Wrap}
use Rattle.sample_command.specs.run_commands.Records.{Records, StopsRecording}
use Rattle.sample_command.specs.replay_command.Replays.{Replays, StopsReplaying}
use Rattle.sample_command.specs.run_commands.Runs.{Runs}
use Rattle.sample_command.specs.Samples.{Samples}
use Rattle.trace_commands.specs.Bursts as grouping
use Rattle.trace_commands.specs.Moves.{wanted, MovesEnd, StopsMoving}
use Rattle.trace_commands.specs.Migrating.{Migrates, StopsMigrating}
use Rattle.trace_commands.specs.Traces.{Compares, Dumps, Saves, StopsSaving}
use Rattle.wrap_command.specs.Wraps.{StopsWrapping, Wraps}
use Rattle.wrap_command.proofs.vidi_bench_lemmas.Chain.{owed, owed-as}
use Rattle.vidi_commands.proofs.top.answer_to.Goals as goal

pub returns-in-Some-Dump-clause-owed : goal.returns-in-Some-Dump-clause-owed
returns-in-Some-Dump-clause-owed g c =
    let S = g.S.Shelf in
    let words = c.args.words.now in
    let files = S.files c.args.shelf.now in
    let left = S.files c.dump.new.shelf in
    let F = λ (name : List ℕ). Rose (S.read_faults c.args.shelf.now name) (S.read_faults c.dump.new.shelf name) in
    let P = HasStarted (S.starts c.args.shelf.now) (S.starts c.dump.new.shelf) in
    let trace = c.in-Some-Dump.trace.now in
    let given : IsGiven words (Dump trace) = rw c.in-Some-Dump.field-0-is at c.in-Some-Dump.ensures in
    owed (Dumps trace files F) (Earns words files F P) (Stops words files P)
    (Rose (S.write_faults c.args.shelf.now) (S.write_faults c.dump.new.shelf)) (IsKept files P) left c.dump.result
    (c.dump.ensures.files, c.dump.ensures.starts)
    (λ a x is. inr (inr (Dump trace, given, (is, (c.dump.ensures.files, c.dump.ensures.starts))))) c.dump.ensures.answered

pub returns-in-Some-Check-clause-owed : goal.returns-in-Some-Check-clause-owed
returns-in-Some-Check-clause-owed g c =
    let S = g.S.Shelf in
    let words = c.args.words.now in
    let files = S.files c.args.shelf.now in
    let left = S.files c.check.new.shelf in
    let F = λ (name : List ℕ). Rose (S.read_faults c.args.shelf.now name) (S.read_faults c.check.new.shelf name) in
    let P = HasStarted (S.starts c.args.shelf.now) (S.starts c.check.new.shelf) in
    let design = c.in-Some-Check.design.now in
    let top = c.in-Some-Check.top.now in
    let given : IsGiven words (Check design top) = rw c.in-Some-Check.field-0-is at c.in-Some-Check.ensures in
    owed (Checks design top files F) (Earns words files F P) (Stops words files P)
    (Rose (S.write_faults c.args.shelf.now) (S.write_faults c.check.new.shelf)) (IsKept files P) left c.check.result
    (c.check.ensures.files, c.check.ensures.starts)
    (λ a x is. inr (inr (Check design top, given, (is, (c.check.ensures.files, c.check.ensures.starts))))) c.check.ensures.answered

pub returns-in-Some-Run-clause-owed : goal.returns-in-Some-Run-clause-owed
returns-in-Some-Run-clause-owed g c =
    let S = g.S.Shelf in
    let words = c.args.words.now in
    let files = S.files c.args.shelf.now in
    let left = S.files c.run.new.shelf in
    let F = λ (name : List ℕ). Rose (S.read_faults c.args.shelf.now name) (S.read_faults c.run.new.shelf name) in
    let P = HasStarted (S.starts c.args.shelf.now) (S.starts c.run.new.shelf) in
    let design = c.in-Some-Run.design.now in
    let map = c.in-Some-Run.map.now in
    let script = c.in-Some-Run.script.now in
    let given : IsGiven words (Run design map script) = rw c.in-Some-Run.field-0-is at c.in-Some-Run.ensures in
    owed (Runs design map script files F) (Earns words files F P) (Stops words files P)
    (Rose (S.write_faults c.args.shelf.now) (S.write_faults c.run.new.shelf)) (IsKept files P) left c.run.result
    (c.run.ensures.files, c.run.ensures.starts)
    (λ a x is. inr (inr (Run design map script, given, (is, (c.run.ensures.files, c.run.ensures.starts))))) c.run.ensures.answered

pub returns-in-Some-Compare-clause-owed : goal.returns-in-Some-Compare-clause-owed
returns-in-Some-Compare-clause-owed g c =
    let S = g.S.Shelf in
    let words = c.args.words.now in
    let files = S.files c.args.shelf.now in
    let left = S.files c.compare.new.shelf in
    let F = λ (name : List ℕ). Rose (S.read_faults c.args.shelf.now name) (S.read_faults c.compare.new.shelf name) in
    let P = HasStarted (S.starts c.args.shelf.now) (S.starts c.compare.new.shelf) in
    let trace = c.in-Some-Compare.trace.now in
    let other = c.in-Some-Compare.other.now in
    let given : IsGiven words (Compare trace other) = rw c.in-Some-Compare.field-0-is at c.in-Some-Compare.ensures in
    owed (Compares trace other files F) (Earns words files F P) (Stops words files P)
    (Rose (S.write_faults c.args.shelf.now) (S.write_faults c.compare.new.shelf)) (IsKept files P) left c.compare.result
    (c.compare.ensures.files, c.compare.ensures.starts)
    (λ a x is. inr (inr (Compare trace other, given, (is, (c.compare.ensures.files, c.compare.ensures.starts))))) c.compare.ensures.answered

pub returns-in-Some-Record-clause-owed : goal.returns-in-Some-Record-clause-owed
returns-in-Some-Record-clause-owed g c =
    let S = g.S.Shelf in
    let words = c.args.words.now in
    let files = S.files c.args.shelf.now in
    let left = S.files c.record.new.shelf in
    let F = λ (name : List ℕ). Rose (S.read_faults c.args.shelf.now name) (S.read_faults c.record.new.shelf name) in
    let P = HasStarted (S.starts c.args.shelf.now) (S.starts c.record.new.shelf) in
    let design = c.in-Some-Record.design.now in
    let map = c.in-Some-Record.map.now in
    let script = c.in-Some-Record.script.now in
    let stalls = c.in-Some-Record.stalls.now in
    let trace = c.in-Some-Record.trace.now in
    let given : IsGiven words (Record design map script stalls trace) = rw c.in-Some-Record.field-0-is at c.in-Some-Record.ensures in
    owed-as (Records design map script stalls trace files F P) (Earns words files F P) (StopsRecording design map script stalls trace files P) (Stops words files P)
    (Rose (S.write_faults c.args.shelf.now) (S.write_faults c.record.new.shelf)) (IsKept files P) left c.record.result
    (λ a x is. inr (inr (Record design map script stalls trace, given, is))) (λ cut. (Record design map script stalls trace, given, cut)) c.record.ensures.owed

pub returns-in-Some-Replay-clause-owed : goal.returns-in-Some-Replay-clause-owed
returns-in-Some-Replay-clause-owed g c =
    let S = g.S.Shelf in
    let words = c.args.words.now in
    let files = S.files c.args.shelf.now in
    let left = S.files c.replay.new.shelf in
    let F = λ (name : List ℕ). Rose (S.read_faults c.args.shelf.now name) (S.read_faults c.replay.new.shelf name) in
    let P = HasStarted (S.starts c.args.shelf.now) (S.starts c.replay.new.shelf) in
    let design = c.in-Some-Replay.design.now in
    let map = c.in-Some-Replay.map.now in
    let trace = c.in-Some-Replay.trace.now in
    let cycles = c.in-Some-Replay.cycles in
    let out = c.in-Some-Replay.out.now in
    let given : IsGiven words (Replay design map trace cycles out) = rw c.in-Some-Replay.field-0-is at c.in-Some-Replay.ensures in
    owed-as (Replays design map trace cycles out files F P) (Earns words files F P) (StopsReplaying design map trace cycles out files P) (Stops words files P)
    (Rose (S.write_faults c.args.shelf.now) (S.write_faults c.replay.new.shelf)) (IsKept files P) left c.replay.result
    (λ a x is. inr (inr (Replay design map trace cycles out, given, is))) (λ cut. (Replay design map trace cycles out, given, cut)) c.replay.ensures.owed

pub returns-in-Some-Salvage-clause-owed : goal.returns-in-Some-Salvage-clause-owed
returns-in-Some-Salvage-clause-owed g c =
    let S = g.S.Shelf in
    let words = c.args.words.now in
    let files = S.files c.args.shelf.now in
    let left = S.files c.salvage.new.shelf in
    let F = λ (name : List ℕ). Rose (S.read_faults c.args.shelf.now name) (S.read_faults c.salvage.new.shelf name) in
    let P = HasStarted (S.starts c.args.shelf.now) (S.starts c.salvage.new.shelf) in
    let trace = c.in-Some-Salvage.trace.now in
    let out = c.in-Some-Salvage.out.now in
    let given : IsGiven words (Salvage trace out) = rw c.in-Some-Salvage.field-0-is at c.in-Some-Salvage.ensures in
    owed-as (Saves trace out files F P) (Earns words files F P) (StopsSaving trace out files P) (Stops words files P)
    (Rose (S.write_faults c.args.shelf.now) (S.write_faults c.salvage.new.shelf)) (IsKept files P) left c.salvage.result
    (λ a x is. inr (inr (Salvage trace out, given, is))) (λ cut. (Salvage trace out, given, cut)) c.salvage.ensures.owed

pub returns-in-Some-Migrate-clause-owed : goal.returns-in-Some-Migrate-clause-owed
returns-in-Some-Migrate-clause-owed g c =
    let S = g.S.Shelf in
    let words = c.args.words.now in
    let files = S.files c.args.shelf.now in
    let left = S.files c.migrate.new.shelf in
    let F = λ (name : List ℕ). Rose (S.read_faults c.args.shelf.now name) (S.read_faults c.migrate.new.shelf name) in
    let P = HasStarted (S.starts c.args.shelf.now) (S.starts c.migrate.new.shelf) in
    let trace = c.in-Some-Migrate.trace.now in
    let out = c.in-Some-Migrate.out.now in
    let given : IsGiven words (Migrate trace out) = rw c.in-Some-Migrate.field-0-is at c.in-Some-Migrate.ensures in
    owed-as (Migrates trace out files F P) (Earns words files F P) (StopsMigrating trace out files P) (Stops words files P)
    (Rose (S.write_faults c.args.shelf.now) (S.write_faults c.migrate.new.shelf)) (IsKept files P) left c.migrate.result
    (λ a x is. inr (inr (Migrate trace out, given, is))) (λ cut. (Migrate trace out, given, cut)) c.migrate.ensures.owed

pub returns-in-Some-Bursts-clause-owed : goal.returns-in-Some-Bursts-clause-owed
returns-in-Some-Bursts-clause-owed g c =
    let S = g.S.Shelf in
    let words = c.args.words.now in
    let files = S.files c.args.shelf.now in
    let left = S.files c.bursts.new.shelf in
    let F = λ (name : List ℕ). Rose (S.read_faults c.args.shelf.now name) (S.read_faults c.bursts.new.shelf name) in
    let P = HasStarted (S.starts c.args.shelf.now) (S.starts c.bursts.new.shelf) in
    let trace = c.in-Some-Bursts.trace.now in
    let axi = c.in-Some-Bursts.axi.now in
    let given : IsGiven words (Bursts trace axi) = rw c.in-Some-Bursts.field-0-is at c.in-Some-Bursts.ensures in
    owed (grouping.Bursts trace axi files F) (Earns words files F P) (Stops words files P)
    (Rose (S.write_faults c.args.shelf.now) (S.write_faults c.bursts.new.shelf)) (IsKept files P) left c.bursts.result
    (c.bursts.ensures.files, c.bursts.ensures.starts)
    (λ a x is. inr (inr (Bursts trace axi, given, (is, (c.bursts.ensures.files, c.bursts.ensures.starts))))) c.bursts.ensures.answered

pub returns-in-Some-Move-clause-owed : goal.returns-in-Some-Move-clause-owed
returns-in-Some-Move-clause-owed g c =
    let S = g.S.Shelf in
    let words = c.args.words.now in
    let files = S.files c.args.shelf.now in
    let left = S.files c.move_completion.new.shelf in
    let F = λ (name : List ℕ). Rose (S.read_faults c.args.shelf.now name) (S.read_faults c.move_completion.new.shelf name) in
    let P = HasStarted (S.starts c.args.shelf.now) (S.starts c.move_completion.new.shelf) in
    let trace = c.in-Some-Move.trace.now in
    let wish = wanted c.in-Some-Move.wish in
    let out = c.in-Some-Move.out.now in
    let given : IsGiven words (Move trace wish out) = rw c.in-Some-Move.field-0-is at c.in-Some-Move.ensures in
    owed-as (MovesEnd trace wish out files F P) (Earns words files F P) (StopsMoving trace wish out files P) (Stops words files P)
    (Rose (S.write_faults c.args.shelf.now) (S.write_faults c.move_completion.new.shelf)) (IsKept files P) left c.move_completion.result
    (λ a x is. inr (inr (Move trace wish out, given, is))) (λ cut. (Move trace wish out, given, cut)) c.move_completion.ensures.owed

pub returns-in-Some-Wrap-clause-owed : goal.returns-in-Some-Wrap-clause-owed
returns-in-Some-Wrap-clause-owed g c =
    let S = g.S.Shelf in
    let words = c.args.words.now in
    let files = S.files c.args.shelf.now in
    let left = S.files c.wrap.new.shelf in
    let F = λ (name : List ℕ). Rose (S.read_faults c.args.shelf.now name) (S.read_faults c.wrap.new.shelf name) in
    let P = HasStarted (S.starts c.args.shelf.now) (S.starts c.wrap.new.shelf) in
    let design = c.in-Some-Wrap.design.now in
    let map = c.in-Some-Wrap.map.now in
    let out = c.in-Some-Wrap.out.now in
    let given : IsGiven words (Wrap design map out) = rw c.in-Some-Wrap.field-0-is at c.in-Some-Wrap.ensures in
    owed-as (Wraps design map out files F P) (Earns words files F P) (StopsWrapping design map out files P) (Stops words files P)
    (Rose (S.write_faults c.args.shelf.now) (S.write_faults c.wrap.new.shelf)) (IsKept files P) left c.wrap.result
    (λ a x is. inr (inr (Wrap design map out, given, is))) (λ cut. (Wrap design map out, given, cut)) c.wrap.ensures.owed

pub returns-in-Some-Sample-clause-owed : goal.returns-in-Some-Sample-clause-owed
returns-in-Some-Sample-clause-owed g c =
    let S = g.S.Shelf in
    let words = c.args.words.now in
    let files = S.files c.args.shelf.now in
    let F = λ (name : List ℕ). Rose (S.read_faults c.args.shelf.now name) (S.read_faults c.args.shelf.now name) in
    let P = HasStarted (S.starts c.args.shelf.now) (S.starts c.args.shelf.now) in
    let number = c.in-Some-Sample.number in
    let given : IsGiven words (Sample number) = rw c.in-Some-Sample.field-0-is at c.in-Some-Sample.ensures in
    owed (Samples number) (Earns words files F P) (Stops words files P)
    (Rose (S.write_faults c.args.shelf.now) (S.write_faults c.args.shelf.now)) (IsKept files P) files c.sample.result (refl, refl)
    (λ a x is. inr (inr (Sample number, given, (is, (refl, refl))))) c.sample.ensures
