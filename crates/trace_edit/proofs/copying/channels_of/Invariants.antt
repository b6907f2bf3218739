use Rattle.std.proofs.Common.{◌≡◌, take}
use Rattle.trace_edit.proofs.copying.channels_of.Given as goal

abbrev pub invariant-loop-channel : goal.invariant-loop-channel
invariant-loop-channel l = l.copy ≡ take l.channel-index l.channels
