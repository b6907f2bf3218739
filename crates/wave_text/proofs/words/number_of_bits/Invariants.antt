use Rattle.std.proofs.Common.{◌≡◌, drop}
use Rattle.wave_text.specs.Reading.{number_after}
use Rattle.wave_text.proofs.words.number_of_bits.Given as goal

abbrev pub invariant-loop-b : goal.invariant-loop-b
invariant-loop-b l = number_after 0 l.digits ≡ number_after l.number (drop l.b-index l.digits)
