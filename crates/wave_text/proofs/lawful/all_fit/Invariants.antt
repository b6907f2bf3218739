use Rattle.std.proofs.Common.{All, take}
use Rattle.wave_text.specs.Wave.{FitsRow, IsNet}
use Rattle.wave_text.proofs.lawful.all_fit.Given as goal

abbrev pub invariant-loop-row : goal.invariant-loop-row
invariant-loop-row l = All (FitsRow l.nets) (take l.row-index l.rows)
