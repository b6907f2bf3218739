use Rattle.std.proofs.Common.{sym}
use Rattle.env_script.proofs.Fitting.{ports_differ}
use Rattle.env_script.proofs.lawful.fits_ports.Goals as goal

pub returns-then-widths-content : goal.returns-then-widths-content
returns-then-widths-content c = sym (ports_differ c.args.widths.now c.args.content.now c.if-widths-content.true)
