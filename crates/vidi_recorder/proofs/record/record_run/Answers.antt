use Rattle.std.proofs.Common.{rules, ◌≡◌, ◌++◌, ◌∙◌, ap, List, Option, Result, Err, IfErr, subst, sym}
use Rattle.std.specs.Io.KnownBytes.{append_known}
use Rattle.std.proofs.lemmas.Result.{err_from_is_err_and}
use Rattle.trace_code.specs.trace_model.declared.row.Row.{Row}
use Rattle.net_design.specs.declared.design.Design.{Design}
use Rattle.net_design.specs.declared.values.Values.{Values}
use Rattle.run_stage.specs.chan_monitor.Shell.{IsMapped}
use Rattle.trace_code.specs.Encoding.{end_mark}
use Rattle.vidi_io.specs.Sink.{AppendsSome}
use Rattle.vidi_recorder.specs.declared.cells.Cells.{Cells}
use Rattle.vidi_recorder.specs.declared.error.RecordError.{RecordError}
use Rattle.vidi_recorder.specs.declared.error.RecordError.TheVariants.{WriteFault}
use Rattle.vidi_recorder.specs.Course.{course}
use Rattle.vidi_recorder.specs.Recording.{EndsWith, FailsWith, IsCutOff}
use Rattle.vidi_recorder.proofs.Ends.{cut-as, ends-as}
use Rattle.vidi_recorder.proofs.Runs.{fits-behind}
use Rattle.vidi_recorder.proofs.Turns.{lasting}
use Rattle.vidi_recorder.proofs.record.record_run.Goals as goal

if_err : {X : Type 0} (Q : RecordError → Type 0) (r : Result X RecordError) (e made : RecordError) → r ≡ Err e → e ≡ made → Q made
    → IfErr r Q
if_err {X} Q r e made p q x = subst (λ (s : Result X RecordError). IfErr s Q) (sym p) (subst Q (sym q) x)

pub returns-clause-ok : goal.returns-clause-ok
returns-clause-ok g c d s before is =
    let played = c.in_ok-outcome.ensures.ok in
    let ends = played.3 d s before is in
    let same_env : c.env-1.given.0 ≡ c.run.new.recorder.env.now = search rules in
    let same_sink : c.sink-1.given.0 ≡ c.run.new.recorder.sink.now = search rules in
    let same_cells : c.cells-3-1.given.0 ≡ c.run.new.recorder.cells.now = search rules in
    let closed = c.in_ok-close.ensures.ok
    ∙ ap (λ t. append_known t (c.cells-3-1.given.0.store.items ++ end_mark c.cells-3-1.given.0.packets)) (ap g.K.Sink.told same_sink)
    ∙ ap (λ (x : Cells). append_known (g.K.Sink.told c.run.new.recorder.sink.now) (x.store.items ++ end_mark x.packets)) same_cells in
    subst (λ (stands_for : List Row → Type 0). EndsWith (course d c.args.map.now (g.E.Env.offer (g.E.Env.plan c.args.env.now))
    c.args.stalls.now c.args.resets.now c.args.cycles) (g.S.Shell.runs c.run.new.shell) stands_for (g.K.Sink.told c.args.sink.now)
    (g.K.Sink.told c.close.new.sink) c.in_ok-outcome.outcome) (ap g.E.Env.stands_for (sym same_env))
    (ends-as (course d c.args.map.now (g.E.Env.offer (g.E.Env.plan c.args.env.now)) c.args.stalls.now c.args.resets.now c.args.cycles)
    (g.S.Shell.runs c.run.new.shell) (g.E.Env.stands_for c.run.new.recorder.env.now) played.0 (g.K.Sink.told c.args.sink.now)
    (g.K.Sink.told c.run.new.recorder.sink.now) (g.K.Sink.told c.close.new.sink) ends.1 c.run.new.recorder.cells.now.fresh ends.2
    c.run.new.recorder.cells.now.room c.run.new.recorder.cells.now.store.items
    c.run.new.recorder.cells.now.packets c.in_ok-outcome.outcome played.2 played.1 closed c.requires.table c.requires.few ends.0)

pub returns-in_err-close-clause-err : goal.returns-in_err-close-clause-err
returns-in_err-close-clause-err g c =
    let w = λ (d : Design). course d c.args.map.now (g.E.Env.offer (g.E.Env.plan c.args.env.now)) c.args.stalls.now c.args.resets.now c.args.cycles in
    let p = err_from_is_err_and c.from_residual-in_err-close.result c.from_residual-in_err-close.ensures.1 in
    let played = c.in_ok-outcome.ensures.ok in
    let same_env : c.env-1.given.0 ≡ c.run.new.recorder.env.now = search rules in
    let same_sink : c.sink-1.given.0 ≡ c.run.new.recorder.sink.now = search rules in
    let same_cells : c.cells-3-1.given.0 ≡ c.run.new.recorder.cells.now = search rules in
    let some = subst (λ (x : Cells). AppendsSome (g.K.Sink.told c.run.new.recorder.sink.now) (g.K.Sink.told c.close.new.sink)
    (x.store.items ++ end_mark x.packets)) same_cells
    (subst (λ t. AppendsSome t (g.K.Sink.told c.close.new.sink) (c.cells-3-1.given.0.store.items ++ end_mark c.cells-3-1.given.0.packets))
    (ap g.K.Sink.told same_sink) c.in_err-close.ensures.err) in
    let lasts = lasting c.args.map.now.channels (g.E.Env.channels c.args.env.now) (g.E.Env.offer (g.E.Env.plan c.args.env.now))
    c.requires.channels (g.met.E.Env.fits c.args.env.now) (g.met.E.Env.stays c.args.env.now) in
    if_err
    (λ (e : RecordError). (d : Design) (s : Values) (before : Option Row) → g.S.Shell.runs c.args.shell.now d s before
    → FailsWith (w d) (g.S.Shell.runs c.run.new.shell) (g.E.Env.stands_for c.env-1.given.0) (g.K.Sink.told c.args.sink.now)
    (g.K.Sink.told c.close.new.sink) e)
    c.from_residual-in_err-close.result p.0 WriteFault p.1 p.2
    (λ d s before is. (let ends = played.3 d s before is in
    subst (λ (stands_for : List Row → Type 0). IsCutOff (w d) (g.S.Shell.runs c.run.new.shell) stands_for (g.K.Sink.told c.args.sink.now)
    (g.K.Sink.told c.close.new.sink)) (ap g.E.Env.stands_for (sym same_env))
    (cut-as (w d) (g.S.Shell.runs c.run.new.shell) (g.E.Env.stands_for c.run.new.recorder.env.now) played.0 (g.K.Sink.told c.args.sink.now)
    (g.K.Sink.told c.run.new.recorder.sink.now) (g.K.Sink.told c.close.new.sink) ends.1 c.run.new.recorder.cells.now.fresh ends.2
    c.run.new.recorder.cells.now.room c.run.new.recorder.cells.now.store.items
    c.run.new.recorder.cells.now.packets c.in_ok-outcome.outcome played.2 played.1 some
    (subst (IsMapped d) c.requires.mapped (g.met.S.Shell.ready c.args.shell.now d s before is))
    (fits-behind c.args.map.now.channels (g.E.Env.offer (g.E.Env.plan c.args.env.now)) lasts) ends.0)))
