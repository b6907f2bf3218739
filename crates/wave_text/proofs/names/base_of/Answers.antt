use Rattle.std.proofs.Common.{sym, ◌∙◌}
use Rattle.wave_text.proofs.Inside.{base-base, inside-base}
use Rattle.wave_text.proofs.names.base_of.Goals as goal

pub loop-inside-preserved : goal.loop-inside-preserved
loop-inside-preserved c = c.loop-inside.invariant
    ∙ inside-base c.loop-inside.rest.now c.in-Some.field-0-0.now c.in-Some.inside.now c.in-Some.ensures

pub returns : goal.returns
returns c = sym (c.loop-inside.invariant ∙ base-base c.loop-inside.rest.now c.in_default.ensures)
