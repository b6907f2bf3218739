use Rattle.std.proofs.Common.{take}
use Rattle.std.specs.List.{flat_map, enumerate_from}
use Rattle.wave_text.proofs.RowText.{net_text}
use Rattle.wave_text.proofs.value_lines.print_all.Given as goal

abbrev pub invariant-loop-n : goal.invariant-loop-n
invariant-loop-n g l = g.P.Page.went l.initial.page l.page (flat_map (net_text l.row) (enumerate_from 0 (take l.n l.nets)))
