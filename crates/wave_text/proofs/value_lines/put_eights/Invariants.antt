use Rattle.wave_text.specs.Places.{IsBegun}
use Rattle.wave_text.proofs.value_lines.put_eights.Given as goal

abbrev pub invariant-eights : goal.invariant-eights
invariant-eights l = IsBegun l.x l.initial.places l.places l.at l.rest

abbrev pub decreases-eights : goal.decreases-eights
decreases-eights l = l.rest
