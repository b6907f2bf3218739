use Rattle.std.proofs.Common.{rules, ◌≡◌, [], ap, sym, subst}
use Rattle.std.proofs.Math.Logic.{∥∥₁_map}
use Rattle.run_stage.specs.chan_monitor.Shell.{IsRunning}
use Rattle.run_stage.proofs.chan_monitor_lemmas.vidi_bits_lemmas.Results.{on_err}
use Rattle.bench_run.specs.Plain.{GoesOn, StandsWithin}
use Rattle.bench_run.specs.declared.player.PlainCells.{PlainCells}
use Rattle.bench_run.proofs.Growing.{fits-now, has-begun, nothing-yet, plain-also}
use Rattle.bench_run.proofs.plain.run_shell.Goals as goal

pub returns-in_err-two-clause-memory : goal.returns-in_err-two-clause-memory
returns-in_err-two-clause-memory g c = on_err c.from_residual.result (λ d s before is.
    nothing-yet d c.args.map.now (g.S.Shell.map c.args.shell.now) (g.E.Env.offer (g.E.Env.plan c.args.env.now)) c.args.resets.now c.args.cycles
    (g.S.Shell.runs c.reset.new.self) (g.E.Env.stands_for c.args.env.now) c.requires.mapped (c.reset.ensures.first d s before is)
    c.requires.first)

pub given_now-requires-clause-fits : goal.given_now-requires-clause-fits
given_now-requires-clause-fits g c =
    let env = c.args.env.now in
    fits-now c.args.map.now.channels (g.E.Env.channels env) (g.E.Env.current env) (g.E.Env.offer (g.E.Env.plan env) []) c.requires.same
    (g.met.E.Env.offers_now env [] c.requires.first) (g.met.E.Env.fits env [])

pub returns-in_err-given-clause-memory : goal.returns-in_err-given-clause-memory
returns-in_err-given-clause-memory g c = on_err c.from_residual-in_err-given.result (λ d s before is.
    nothing-yet d c.args.map.now (g.S.Shell.map c.args.shell.now) (g.E.Env.offer (g.E.Env.plan c.args.env.now)) c.args.resets.now c.args.cycles
    (g.S.Shell.runs c.reset.new.self) (g.E.Env.stands_for c.args.env.now) c.requires.mapped (c.reset.ensures.first d s before is)
    c.requires.first)

pub run_player-requires-clause-begun : goal.run_player-requires-clause-begun
run_player-requires-clause-begun g c = ∥∥₁_map (g.met.S.Shell.running c.args.shell.now)
    (λ (r : IsRunning (g.S.Shell.runs c.args.shell.now)). (
      r.0,
      has-begun r.0 c.args.map.now (g.S.Shell.map c.args.shell.now) (g.S.Shell.runs c.reset.new.self) c.requires.mapped
          (c.reset.ensures.first r.0 r.1 r.2 r.3),
    ))

pub returns-clause-run : goal.returns-clause-run
returns-clause-run g c d s before is =
    let same : c.cells-2-1.given.0 ≡ c.run_player.new.player.cells.now = search rules in
    plain-also d c.args.map.now (g.E.Env.offer (g.E.Env.plan c.args.env.now)) c.args.resets.now c.args.cycles c.run_player.new.player.cells.now.rows
    c.cells-2-1.given.0.rows _ c.spot_of.result (ap (λ (x : PlainCells). x.rows) same) c.spot_of.ensures
    (c.in_ok-ending.ensures.run d (has-begun d c.args.map.now (g.S.Shell.map c.args.shell.now) (g.S.Shell.runs c.reset.new.self)
    c.requires.mapped (c.reset.ensures.first d s before is)))

pub returns-clause-behind : goal.returns-clause-behind
returns-clause-behind g c d s before is =
    let same : c.cells-2-1.given.0 ≡ c.run_player.new.player.cells.now = search rules in
    subst (GoesOn (g.S.Shell.runs c.run_player.new.shell) d c.args.map.now (g.E.Env.offer (g.E.Env.plan c.args.env.now)) c.args.resets.now)
    (sym (ap (λ (x : PlainCells). x.rows) same))
    (c.in_ok-ending.ensures.behind d (has-begun d c.args.map.now (g.S.Shell.map c.args.shell.now) (g.S.Shell.runs c.reset.new.self)
    c.requires.mapped (c.reset.ensures.first d s before is)))

pub returns-in_err-ending-clause-memory : goal.returns-in_err-ending-clause-memory
returns-in_err-ending-clause-memory g c = on_err c.from_residual-in_err-ending.result (λ d s before is.
    (let same : c.env-1.given.0 ≡ c.run_player.new.player.env.now = search rules in
    subst (λ x. StandsWithin (g.E.Env.stands_for x) d c.args.map.now (g.E.Env.offer (g.E.Env.plan c.args.env.now)) c.args.resets.now c.args.cycles) (sym same)
    (c.in_err-ending.ensures.memory d (has-begun d c.args.map.now (g.S.Shell.map c.args.shell.now) (g.S.Shell.runs c.reset.new.self)
    c.requires.mapped (c.reset.ensures.first d s before is)))))
