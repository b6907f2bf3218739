use Rattle.std.proofs.Common.{◌≡◌, ◌*◌, ◌^◌, ◌<◌}
use Rattle.vidi_bits.specs.Number.{repeated}
use Rattle.vidi_bits.proofs.numbers.times.Given as goal

abbrev pub invariant-loop-done : goal.invariant-loop-done
invariant-loop-done l = record { same : l.all ≡ repeated l._done l.x l.w; fits : l.all < 2 ^ (l._done * l.w) }
