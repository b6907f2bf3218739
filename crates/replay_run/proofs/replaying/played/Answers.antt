use Rattle.std.proofs.Common.{subst, List}
use Rattle.trace_code.specs.trace_model.declared.row.Row.{Row}
use Rattle.net_design.specs.declared.design.Design.{Design}
use Rattle.net_design.specs.declared.values.Values.{Values}
use Rattle.run_stage.specs.chan_map.declared.pins.Map.{Map}
use Rattle.run_stage.specs.Playing.{Begins}
use Rattle.replay_run.proofs.Playing.{has-begun, plays-of, plays-to}
use Rattle.replay_run.proofs.replaying.played.Goals as goal

pub play_stretches-requires-clause-begun : goal.play_stretches-requires-clause-begun
play_stretches-requires-clause-begun g c = has-begun c.args.map.now (g.S.ReplayShell.map c.args.shell.now) (g.S.ReplayShell.runs c.args.shell.now)
    (g.S.ReplayShell.runs c.reset.new.self) c.requires.mapped (g.met.S.ReplayShell.running c.args.shell.now) c.reset.ensures.first

pub returns-clause-ends : goal.returns-clause-ends
returns-clause-ends g c =
    let ok = c.in-Ok.ensures.ok in (
      ok.0,
      ok.1,
      ok.2,
      (λ t d s before encodes is.
          (let m = c.args.map.now in
          let first = c.args.feeder.now in
          let begins = subst (λ (b : Map). Begins d b (g.S.ReplayShell.runs c.reset.new.self)) c.requires.mapped (c.reset.ensures.first d s before is) in
          let each = ok.5 d begins in
          let runs : Design → Values → List (List Row) → List Row → Type 0 =
          λ e state before rows. g.S.ReplayShell.runs c.play_stretches.new.stage e state rows in (
            plays-to first m c.requires.same t encodes d runs c.play_stretches.new.rows.last first.cycles ok.0 ok.1 ok.3 each.0 _ ok.4 each.1,
            plays-of first m c.requires.same t encodes d runs c.play_stretches.new.rows.last ok.0 ok.1 each.0,
          ))),
    )
