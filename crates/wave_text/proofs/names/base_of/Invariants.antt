use Rattle.std.proofs.Common.{◌≡◌, ◌↔◌, All, length}
use Rattle.wave_text.specs.Names.{parts, base_of}
use Rattle.wave_text.specs.Wave.{IsIdentifier}
use Rattle.wave_text.proofs.names.base_of.Given as goal

abbrev pub decreases-loop-inside : goal.decreases-loop-inside
decreases-loop-inside l = length l.rest

abbrev pub invariant-loop-inside : goal.invariant-loop-inside
invariant-loop-inside l = base_of l.name ≡ base_of l.rest
