use Rattle.std.proofs.Common.{◌≡◌, take}
use Rattle.trace_model.specs.Length.{sizes_under}
use Rattle.room_ledger.proofs.sums.contents_len.Given as goal

abbrev pub invariant-loop-c : goal.invariant-loop-c
invariant-loop-c l = l.total ≡ sizes_under l.starts (take l.c l.sizes)
