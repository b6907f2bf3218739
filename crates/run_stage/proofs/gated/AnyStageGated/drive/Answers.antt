use Rattle.std.proofs.Common.{refl}
use Rattle.chan_replayer.proofs.Feeding.{over}
use Rattle.run_stage.proofs.gated.AnyStageGated.drive.Goals as goal

pub returns-clause-over : goal.returns-clause-over
returns-clause-over g c =
    let shell = c.args.self.now in
    over (g.S.Shell.map shell) (g.S.Shell.map shell) (g.S.Shell.runs shell) c.args.given.now.offers c.args.given.now.gates c.drive.new.row refl
    (g.met.S.Shell.running shell) c.drive.ensures.row
