use Rattle.std.proofs.Common.{◌∙◌}
use Rattle.wave_text.proofs.Eights.{spread-digits}
use Rattle.wave_text.proofs.value_lines.eight_of.Goals as goal

pub returns : goal.returns
returns c = c.to_le_bytes.ensures ∙ spread-digits c.args.byte c.requires
