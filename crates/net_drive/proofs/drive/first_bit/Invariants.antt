use Rattle.std.proofs.Common.{◌≡◌, ◌-◌}
use Rattle.net_code.specs.vidi_bits.Findings.{first}
use Rattle.net_code.specs.vidi_bits.Number.{truth}
use Rattle.net_code.specs.Targets.{plain_places}
use Rattle.net_drive.specs.Drive.{bit_faults}
use Rattle.net_drive.proofs.drive.first_bit.Given as goal

abbrev pub invariant-loop-k : goal.invariant-loop-k
invariant-loop-k l = first (bit_faults (plain_places l.places) l.net (truth l.pin) l.k (l.width - l.k))
    ≡ first (bit_faults (plain_places l.places) l.net (truth l.pin) 0 l.width)
