use Rattle.std.proofs.Common.{◌≡◌, length}
use Rattle.wave_text.specs.Names.{path_of}
use Rattle.wave_text.specs.Text.{moves}
use Rattle.wave_text.proofs.names.apart.Given as goal

abbrev pub decreases-loop-from_inside : goal.decreases-loop-from_inside
decreases-loop-from_inside l = length l.left

abbrev pub invariant-loop-from_inside : goal.invariant-loop-from_inside
invariant-loop-from_inside l = moves (path_of l.from) (path_of l.to) ≡ moves (path_of l.left) (path_of l.entered)
