use Rattle.std.proofs.Common.{◌≢◌, take}
use Rattle.std.specs.List.{AllPairs}
use Rattle.vec_clock.specs.trace_model.declared.channel.Channel.{Channel}
use Rattle.trace_code.proofs.header.names_differ.Given as goal

abbrev pub invariant-loop-i : goal.invariant-loop-i
invariant-loop-i l = AllPairs (λ (a b : Channel). a.name ≢ b.name) (take l.i l.channels)
