use Rattle.std.proofs.Common.{◌≡◌, ◌≤◌, ◌-◌, IfSome, vec_len}
use Rattle.std.specs.FinMap.{get}
use Rattle.vidi_io.proofs.Fronts.{AtFront}
use Rattle.vidi_io.specs.Shelf.{Later}
use Rattle.vidi_io.proofs.reading.read_by.Given as goal

abbrev pub invariant-loop-got : goal.invariant-loop-got
invariant-loop-got g l = let S = g.S.Shelf in record {
  read : IfSome (S.files l.fn.shelf) (λ m. AtFront (get m l.name) l.bytes.items);
  files : S.files l.shelf ≡ S.files l.fn.shelf;
  starts : S.starts l.shelf ≡ S.starts l.fn.shelf;
  counts : Later (S.read_faults l.fn.shelf) (S.read_faults l.shelf) (S.write_faults l.fn.shelf) (S.write_faults l.shelf);
  within : vec_len l.bytes ≤ l.limit;
}

abbrev pub decreases-loop-got : goal.decreases-loop-got
decreases-loop-got g l = l.limit - vec_len l.bytes
