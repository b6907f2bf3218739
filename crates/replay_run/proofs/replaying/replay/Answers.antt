use Rattle.std.proofs.Common.{◌≡◌, ℕ, ◌-◌, ap, length, subst, sym, ◌∙◌}
use Rattle.trace_code.specs.trace_model.declared.trace.Trace.{Trace}
use Rattle.trace_code.specs.Encoding.{Encodes}
use Rattle.trace_code.proofs.Readings.{one_reading}
use Rattle.run_stage.specs.chan_map.declared.pins.Map.{Map}
use Rattle.run_stage.specs.Stretching.{all_rows}
use Rattle.replay_run.specs.Standing.{AreKept, PlaysTo}
use Rattle.replay_run.proofs.Answering.{kept-rows, replayed}
use Rattle.replay_run.proofs.Playing.{at-trace}
use Rattle.replay_run.proofs.replaying.replay.Goals as goal

pub returns-clause-replayed : goal.returns-clause-replayed
returns-clause-replayed g c t d s before encodes is =
    let m = c.args.map.now in
    let given = c.requires.trace in
    let same : t.channels ≡ m.channels =
    ap (λ (u : Trace). u.channels) (one_reading c.args.trace.now t given.0 encodes given.1) ∙ given.2 in
    let first = c.in_ok-feeder.feeder in
    let made = c.in_ok-feeder.ensures in
    let own = subst (Encodes t) (sym made.bytes) encodes in
    let ends = c.played-ending.ensures.ends in
    let past = ends.0 in
    let here = ends.1 in
    let stands = ends.2 in
    let feeder = c.played-ending.new.feeder in
    let last = c.played-ending.new.rows.last in
    let runs = g.S.ReplayShell.runs c.played-ending.new.shell in
    let to = ends.3 t d s before own is in
    let left = first.cycles - length (all_rows past here) in
    let kept = subst (λ (b : Map). AreKept b.channels left past here feeder) made.map stands.kept in
    let outcome = c.outcome_of-outcome.ensures t d m c.args.cycles past here (at-trace first feeder past here stands t own)
    (ap (λ (b : Map). b.channels) (sym (stands.map ∙ made.map)))
    (kept-rows d m t.packets (λ e state _ rows. runs e state rows) past here left feeder last to.1 kept)
    (subst (λ (n : ℕ). PlaysTo d m t.packets n past here c.played-ending.result) made.most to.0) in
    replayed d m t c.args.cycles runs last past here _ same encodes.0 c.requires.few to.1 outcome (c.close-out.ensures m.channels (all_rows past here) kept.written)
