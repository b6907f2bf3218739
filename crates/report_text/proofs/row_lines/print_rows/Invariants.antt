use Rattle.std.proofs.Common.{take}
use Rattle.std.specs.List.{flat_map, enumerate_from}
use Rattle.report_text.specs.Rows.{row_lines}
use Rattle.report_text.proofs.row_lines.print_rows.Given as goal

abbrev pub invariant-loop-cycle : goal.invariant-loop-cycle
invariant-loop-cycle g l = g.P.Page.went l.initial.page l.page (flat_map (row_lines l.channels) (enumerate_from 0 (take l.cycle l.rows)))
