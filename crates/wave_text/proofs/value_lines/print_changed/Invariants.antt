use Rattle.std.proofs.Common.{take}
use Rattle.std.specs.List.{flat_map, enumerate_from}
use Rattle.wave_text.proofs.RowText.{change_text}
use Rattle.wave_text.proofs.value_lines.print_changed.Given as goal

abbrev pub invariant-loop-n : goal.invariant-loop-n
invariant-loop-n g l = g.P.Page.went l.initial.page l.page (flat_map (change_text l.before l.row) (enumerate_from 0 (take l.n l.nets)))
