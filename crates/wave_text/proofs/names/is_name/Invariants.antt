use Rattle.std.proofs.Common.{◌≡◌, ◌↔◌, All, length}
use Rattle.wave_text.specs.Names.{parts, base_of}
use Rattle.wave_text.specs.Wave.{IsIdentifier}
use Rattle.wave_text.proofs.names.is_name.Given as goal

abbrev pub decreases-loop-part : goal.decreases-loop-part
decreases-loop-part l = length l.rest

abbrev pub invariant-loop-part : goal.invariant-loop-part
invariant-loop-part l = All IsIdentifier (parts l.name) ↔ All IsIdentifier (parts l.rest)
