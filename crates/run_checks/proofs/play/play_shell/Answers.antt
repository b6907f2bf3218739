use Rattle.std.proofs.Common.{length, refl}
use Rattle.std.proofs.Math.Logic.{∥∥₁_map}
use Rattle.run_stage.specs.chan_monitor.Shell.{IsRunning}
use Rattle.bench_run.proofs.Growing.{has-begun}
use Rattle.run_checks.proofs.Ending.{ends-as}
use Rattle.run_checks.proofs.play.play_shell.Goals as goal

pub play-requires-clause-begun : goal.play-requires-clause-begun
play-requires-clause-begun g c = ∥∥₁_map (g.met.S.Shell.running c.args.shell.now)
    (λ (r : IsRunning (g.S.Shell.runs c.args.shell.now)). (
      r.0,
      has-begun r.0 c.args.map.now (g.S.Shell.map c.args.shell.now) (g.S.Shell.runs c.reset.new.self) c.requires.mapped
          (c.reset.ensures.first r.0 r.1 r.2 r.3),
    ))

pub returns-clause-run : goal.returns-clause-run
returns-clause-run g c d s before is =
    let ok = c.in_ok-ending.ensures.ok in
    let end = ok.4 d (has-begun d c.args.map.now (g.S.Shell.map c.args.shell.now) (g.S.Shell.runs c.reset.new.self) c.requires.mapped
    (c.reset.ensures.first d s before is)) in
    ends-as d c.args.map.now c.args.given.now _ c.play.new.rows.last (length c.args.given.now) ok.0 c.play.new.player.rows
    c.in_ok-ending.ending refl ok.1.kept_are ok.3 end.0 end.1
