use Rattle.std.proofs.Common.{ℕ, List, inl}
use Rattle.vidi_bench.specs.vidi_io.Cause.{Rose}
use Rattle.vidi_bench.specs.vidi_io.Shelf.{HasStarted}
use Rattle.vidi_bench.specs.vidi_io.Writing.{IsKept}
use Rattle.vidi_bench.proofs.vidi_io_lemmas.Cut.{started-since}
use Rattle.wrap_command.specs.Wraps.{IsUnwritten, StopsWrapping, Wraps}
use Rattle.vidi_bench.proofs.Chain.{passed-owed, rose-since}
use Rattle.wrap_command.proofs.Written.{written-owed}
use Rattle.wrap_command.proofs.wrapping.wrap.Goals as goal

pub returns-in_err-plan-clause-owed : goal.returns-in_err-plan-clause-owed
returns-in_err-plan-clause-owed g c =
    let S = g.S.Shelf in
    let files = S.files c.args.shelf.now in
    let F = λ (name : List ℕ). Rose (S.read_faults c.args.shelf.now name) (S.read_faults c.plan_wrap.new.shelf name) in
    let design = c.args.design.now in
    let map = c.args.map.now in
    let out = c.args.out.now in
    let P = HasStarted (S.starts c.args.shelf.now) (S.starts c.plan_wrap.new.shelf) in
    let kept : IsKept files P (S.files c.plan_wrap.new.shelf) = (c.plan_wrap.ensures.files, c.plan_wrap.ensures.starts) in
    passed-owed (IsUnwritten design map files F) (Wraps design map out files F P) (StopsWrapping design map out files P)
    (Rose (S.write_faults c.args.shelf.now) (S.write_faults c.plan_wrap.new.shelf)) (IsKept files P) (S.files c.plan_wrap.new.shelf)
    c.in_err-plan.field-0.0 c.from_residual.result c.from_residual.ensures.1 kept (λ a x is. inl (is, kept)) c.in_err-plan.ensures.refused

pub returns-clause-owed : goal.returns-clause-owed
returns-clause-owed g c =
    let S = g.S.Shelf in
    let files = S.files c.args.shelf.now in
    let F = λ (name : List ℕ). Rose (S.read_faults c.args.shelf.now name) (S.read_faults c.written.new.shelf name) in
    let old = S.write_faults c.args.shelf.now in
    let middle = S.write_faults c.plan_wrap.new.shelf in
    let now = S.write_faults c.written.new.shelf in
    written-owed c.args.design.now c.args.map.now c.args.out.now files (S.files c.plan_wrap.new.shelf) (S.files c.written.new.shelf) F
    c.in_ok-plan.plan (Rose middle now) (Rose old now)
    (HasStarted (S.starts c.plan_wrap.new.shelf) (S.starts c.written.new.shelf))
    (HasStarted (S.starts c.args.shelf.now) (S.starts c.written.new.shelf))
    c.written.result c.plan_wrap.ensures.files c.in_ok-plan.ensures.planned
    (λ rose. rose-since old middle now c.plan_wrap.ensures.counts.writes rose)
    (λ once. started-since (S.starts c.args.shelf.now) (S.starts c.plan_wrap.new.shelf) (S.starts c.written.new.shelf) once
    c.plan_wrap.ensures.starts)
    c.written.ensures.done c.written.ensures.files c.written.ensures.started c.written.ensures.stopped
