use Rattle.std.proofs.Common.{◌≡◌, ◌++◌, take}
use Rattle.std.specs.List.{flat_map}
use Rattle.report_text.specs.Short.{await_line}
use Rattle.report_text.proofs.short.put_awaits.Given as goal

abbrev pub invariant-loop-awaited : goal.invariant-loop-awaited
invariant-loop-awaited l = l.text.items ≡ l.initial.text.items ++ flat_map (await_line l.channels) (take l.awaited-index l.awaits)
