use Rattle.std.proofs.Common.{length}
use Rattle.vec_clock.specs.trace_model.Row.{row_before}
use Rattle.chan_replayer.proofs.Feeding.{next, running-next}
use Rattle.chan_replayer.proofs.fed.FedShellReplayShell.clock.Goals as goal

pub returns-clause-next : goal.returns-clause-next
returns-clause-next g c d s rows row around driven =
    let f = c.args.self.now in
    next d f.map.now (g.S.Shell.map f.shell) s rows row (g.S.Shell.runs f.shell) (g.S.Shell.runs c.clock.new.self) f.have c.commit.new.self f.ends
    f.map_is around driven.1 c.commit.ensures.len c.commit.ensures.each
    (c.clock.ensures.next d s (row_before rows (length rows)) row around.on driven.0)

pub invariant_of-self-clause-running : goal.invariant_of-self-clause-running
invariant_of-self-clause-running g c =
    let f = c.args.self.now in
    let (row, driven) = c.requires.driven in
    running-next f.map.now (g.S.Shell.map f.shell) row (g.S.Shell.runs f.shell) (g.S.Shell.runs c.clock.new.self) f.have c.commit.new.self
    f.ends f.map_is driven.1 c.commit.ensures.len c.commit.ensures.each
    (λ d s before runs. c.clock.ensures.next d s before row runs driven.0) f.running
