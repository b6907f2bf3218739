use Rattle.std.proofs.Common.{◌≡◌, drop}
use Rattle.net_code.specs.vidi_bits.Findings.{first}
use Rattle.net_code.specs.Targets.{plain_places}
use Rattle.net_drive.specs.Drive.{nets_from}
use Rattle.net_drive.proofs.drive.Writers.first_net.Given as goal

abbrev pub invariant-loop-place : goal.invariant-loop-place
invariant-loop-place l = first (nets_from (plain_places l.self.places) l.self.blocks l.kinds l.place (drop l.place l.nets))
    ≡ first (nets_from (plain_places l.self.places) l.self.blocks l.kinds 0 l.nets)
