use Rattle.std.proofs.Common.{All, take}
use Rattle.wave_text.specs.Wave.{FitsRow, IsNet}
use Rattle.wave_text.proofs.lawful.are_nets.Given as goal

abbrev pub invariant-loop-net : goal.invariant-loop-net
invariant-loop-net l = All (IsNet) (take l.net-index l.nets)
