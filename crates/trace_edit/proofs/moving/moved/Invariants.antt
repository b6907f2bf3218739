use Rattle.std.proofs.Common.{◌≡◌, take}
use Rattle.std.specs.List.{flat_map, enumerate_from}
use Rattle.trace_edit.specs.Moved.{placed}
use Rattle.trace_edit.proofs.moving.moved.Given as goal

abbrev pub invariant-loop-at : goal.invariant-loop-at
invariant-loop-at l = l.out ≡ flat_map (placed l.m) (enumerate_from 0 (take l.at l.packets))
