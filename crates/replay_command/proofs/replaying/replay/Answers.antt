use Rattle.std.proofs.Common.{ℕ, List, inl}
use Rattle.vidi_bench.specs.vidi_io.Cause.{Rose}
use Rattle.vidi_bench.specs.vidi_io.Shelf.{HasStarted}
use Rattle.vidi_bench.specs.vidi_io.Writing.{IsKept}
use Rattle.vidi_bench.proofs.vidi_io_lemmas.Cut.{started-since}
use Rattle.replay_command.specs.Replays.{IsUnreplayed, Replays, StopsReplaying}
use Rattle.vidi_bench.proofs.Chain.{passed-owed, rose-since}
use Rattle.replay_command.proofs.Replayed.{replayed-owed}
use Rattle.replay_command.proofs.replaying.replay.Goals as goal

pub returns-in_err-plan-clause-owed : goal.returns-in_err-plan-clause-owed
returns-in_err-plan-clause-owed g c =
    let S = g.S.Shelf in
    let files = S.files c.args.shelf.now in
    let F = λ (name : List ℕ). Rose (S.read_faults c.args.shelf.now name) (S.read_faults c.plan_replay.new.shelf name) in
    let design = c.args.design.now in
    let map = c.args.map.now in
    let trace = c.args.trace.now in
    let out = c.args.out.now in
    let P = HasStarted (S.starts c.args.shelf.now) (S.starts c.plan_replay.new.shelf) in
    let kept : IsKept files P (S.files c.plan_replay.new.shelf) = (c.plan_replay.ensures.files, c.plan_replay.ensures.starts) in
    passed-owed (IsUnreplayed design map trace files F) (Replays design map trace c.args.cycles out files F P)
    (StopsReplaying design map trace c.args.cycles out files P)
    (Rose (S.write_faults c.args.shelf.now) (S.write_faults c.plan_replay.new.shelf)) (IsKept files P) (S.files c.plan_replay.new.shelf)
    c.in_err-plan.field-0.0 c.from_residual.result c.from_residual.ensures.1 kept (λ a x is. inl (is, kept)) c.in_err-plan.ensures.refused

pub returns-clause-owed : goal.returns-clause-owed
returns-clause-owed g c =
    let S = g.S.Shelf in
    let files = S.files c.args.shelf.now in
    let F = λ (name : List ℕ). Rose (S.read_faults c.args.shelf.now name) (S.read_faults c.replayed.new.shelf name) in
    let old = S.write_faults c.args.shelf.now in
    let middle = S.write_faults c.plan_replay.new.shelf in
    let now = S.write_faults c.replayed.new.shelf in
    let plan = c.in_ok-plan.plan in
    replayed-owed c.args.design.now c.args.map.now c.args.trace.now c.args.cycles c.args.out.now files
    (S.files c.plan_replay.new.shelf) (S.files c.replayed.new.shelf) F plan.device plan.trace (Rose middle now) (Rose old now)
    (HasStarted (S.starts c.plan_replay.new.shelf) (S.starts c.replayed.new.shelf))
    (HasStarted (S.starts c.args.shelf.now) (S.starts c.replayed.new.shelf))
    c.replayed.result c.plan_replay.ensures.files c.in_ok-plan.ensures.planned
    (λ rose. rose-since old middle now c.plan_replay.ensures.counts.writes rose)
    (λ once. started-since (S.starts c.args.shelf.now) (S.starts c.plan_replay.new.shelf) (S.starts c.replayed.new.shelf) once
    c.plan_replay.ensures.starts)
    c.replayed.ensures.done c.replayed.ensures.stopped
