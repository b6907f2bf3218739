use Rattle.std.proofs.Common.{◌≡◌, ◌++◌, take}
use Rattle.std.specs.List.{flat_map}
use Rattle.report_text.specs.Short.{held_lines}
use Rattle.report_text.proofs.short.put_helds.Given as goal

abbrev pub invariant-loop-held : goal.invariant-loop-held
invariant-loop-held l = l.text.items ≡ l.initial.text.items ++ flat_map (held_lines l.channels) (take l.held-index l.helds)
