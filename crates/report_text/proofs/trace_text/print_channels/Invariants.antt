use Rattle.std.proofs.Common.{take}
use Rattle.report_text.specs.Trace.{channel_lines}
use Rattle.report_text.proofs.trace_text.print_channels.Given as goal

abbrev pub invariant-loop-number : goal.invariant-loop-number
invariant-loop-number g l = g.P.Page.went l.initial.page l.page (channel_lines 0 (take l.number l.channels))
