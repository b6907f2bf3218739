use Rattle.std.proofs.Common.{◌≡◌, take}
use Rattle.trace_model.specs.vidi_bits.Number.{has}
use Rattle.room_ledger.specs.Reservation.{reservation}
use Rattle.trace_model.proofs.LengthLemmas.{total}
use Rattle.room_ledger.proofs.sums.reserved.Given as goal

abbrev pub invariant-loop-c : goal.invariant-loop-c
invariant-loop-c l = l.total ≡ total (reservation l.head (has l.gates) (has l.flying)) 0 (take l.c l.sizes)
