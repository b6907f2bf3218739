use Rattle.replay_run.proofs.Playing.{has-begun}
use Rattle.replay_checks.proofs.replayer_tests.plays.Goals as goal

pub play-requires-clause-begun : goal.play-requires-clause-begun
play-requires-clause-begun g c = has-begun c.args.map.now (g.S.ReplayShell.map c.args.shell.now) (g.S.ReplayShell.runs c.args.shell.now)
    (g.S.ReplayShell.runs c.reset.new.self) c.requires.map (g.met.S.ReplayShell.running c.args.shell.now) c.reset.ensures.first
