use Rattle.shim_runs.proofs.replay_run_lemmas.Playing.{has-begun}
use Rattle.shim_words.proofs.line_feeder.go_through.Goals as goal

pub play-requires-clause-begun : goal.play-requires-clause-begun
play-requires-clause-begun g c = has-begun c.args.map.now (g.S.ReplayShell.map c.args.shell.now) (g.S.ReplayShell.runs c.args.shell.now)
    (g.S.ReplayShell.runs c.reset.new.self) c.requires.mapped (g.met.S.ReplayShell.running c.args.shell.now) c.reset.ensures.first
