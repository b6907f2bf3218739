use Rattle.std.proofs.Common.{◌≡◌, ◌++◌, List, subst}
use Rattle.std.specs.Prelude.{OnOk}
use Rattle.trace_compare.specs.declared.report.Finding.{Finding}
use Rattle.trace_compare.specs.Findings.{early}
use Rattle.trace_compare.specs.Walking.{early_at}
use Rattle.trace_compare.proofs.Tallies.{found-counted}
use Rattle.trace_compare.proofs.comparing.push_early.Goals as goal

pub returns : goal.returns
returns c =
    let marks = early_at c.args.covering.now c.args.in_a.now c.args.in_b.now in
    subst (λ (fs : List Finding). OnOk c.push_if.result (c.push_if.new.report ≡ c.args.report.now ++ fs))
    (found-counted marks c.early_events-tally.result c.args.site.epoch c.args.site.channel (early c.args.kind) c.early.result c.finding-finding.result
    c.early_events-tally.ensures c.early.ensures c.finding-finding.ensures) c.push_if.ensures
