use Rattle.std.proofs.Common.{◌≡◌, ◌++◌, drop}
use Rattle.report_text.specs.Report.{lines_behind, report_lines}
use Rattle.report_text.proofs.report.report_lines.Given as goal

abbrev pub invariant-loop-finding : goal.invariant-loop-finding
invariant-loop-finding l =
    l.text.items ++ lines_behind l.channels l.before (drop l.finding-index l.report) ≡ report_lines l.report l.channels
