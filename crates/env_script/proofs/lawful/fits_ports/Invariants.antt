use Rattle.std.proofs.Common.{◌≡◌, drop}
use Rattle.env_script.specs.Reasons.{fits_ports}
use Rattle.env_script.proofs.lawful.fits_ports.Given as goal

abbrev pub invariant-loop-i : goal.invariant-loop-i
invariant-loop-i l = fits_ports (drop l.i l.widths) (drop l.i l.content) ≡ fits_ports l.widths l.content
