use Rattle.std.proofs.Common.{◌≡◌, take, sum_by}
use Rattle.room_ledger.specs.Reservation.{whole}
use Rattle.room_ledger.proofs.sums.need.Given as goal

abbrev pub invariant-loop-size : goal.invariant-loop-size
invariant-loop-size l = l.total ≡ sum_by (whole l.head) (take l.size-index l.sizes)
