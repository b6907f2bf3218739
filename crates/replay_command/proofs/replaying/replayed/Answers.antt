use Rattle.std.proofs.Common.{◌≡◌, ℕ, List, sym, subst, ◌∙◌}
use Rattle.replay_run.specs.trace_model.Recording.{trace_of}
use Rattle.replay_run.specs.trace_code.Encoding.{Encodes}
use Rattle.vidi_bench.specs.vidi_io.Shelf.{HasStarted}
use Rattle.vidi_bench.specs.vidi_io.Writing.{IsCutOff}
use Rattle.replay_command.proofs.replaying.replayed.Goals as goal

pub told-requires-clause-written : goal.told-requires-clause-written
told-requires-clause-written g c =
    let plan = c.args.plan in
    let encodes : Encodes plan.trace c.as_slice.result.now =
    subst (λ (b : List ℕ). Encodes plan.trace b) (sym c.as_slice.ensures) c.requires.encodes in
    let replay = c.in_ok-outcome.ensures plan.trace encodes in
    let whole = c.as_slice-2.ensures in
    let written = c.in_ok-outcome.written-is in
    let same : c.in_ok-outcome.field-0.out ≡ c.as_slice-2.result.now = cc in (
      trace_of plan.device.map.channels replay.0,
      subst (λ (b : List ℕ). Encodes (trace_of plan.device.map.channels replay.0) b) same replay.2,
      sym c.requires.same,
    )

pub returns-clause-stopped : goal.returns-clause-stopped
returns-clause-stopped g c =
    let plan = c.args.plan in
    let encodes : Encodes plan.trace c.as_slice.result.now =
    subst (λ (b : List ℕ). Encodes plan.trace b) (sym c.as_slice.ensures) c.requires.encodes in
    let replay = c.in_ok-outcome.ensures plan.trace encodes in
    let whole = c.as_slice-3.ensures in
    let written = c.in_ok-outcome.written-is in
    let same : c.in_ok-outcome.field-0.out ≡ c.as_slice-3.result.now = cc in (
      c.in-Err.ensures.failed,
      (
        replay.0,
        c.in_ok-outcome.field-0.outcome,
        replay.1,
        subst (λ (b : List ℕ). IsCutOff (g.S.Shelf.files c.args.shelf.now) c.args.out.now b
            (HasStarted (g.S.Shelf.starts c.args.shelf.now) (g.S.Shelf.starts c.write_whole.new.shelf)) (g.S.Shelf.files c.write_whole.new.shelf))
            (sym (replay.2.1 ∙ same)) c.in-Err.ensures.err,
      ),
    )
