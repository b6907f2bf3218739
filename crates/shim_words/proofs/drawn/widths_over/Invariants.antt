use Rattle.std.proofs.Common.{◌≡◌, take}
use Rattle.shim_runs.specs.trace_model.Row.{all_widths}
use Rattle.shim_words.proofs.drawn.widths_over.Given as goal

abbrev pub invariant-loop-channel : goal.invariant-loop-channel
invariant-loop-channel l = l.widths.items ≡ all_widths (take l.channel-index l.channels)
