use Rattle.std.proofs.Common.{◌++◌, length, arith}
use Rattle.std.specs.List.{flat_map, range_with_len}
use Rattle.trace_compare.specs.Findings.{findings_on}
use Rattle.trace_compare.proofs.Channels.{channel-on}
use Rattle.trace_compare.proofs.comparing.push_epoch.Goals as goal

pub loop-channel-preserved : goal.loop-channel-preserved
loop-channel-preserved c =
    let F = findings_on c.args.epoch c.args.pair.now.channels.now c.args.pair.now.a.now c.args.pair.now.b.now in
    let n = length c.args.pair.now.channels.now in
    channel-on F n c.loop-channel.channel c.loop-channel.report c.push_findings.new.report
    (c.args.report.now ++ flat_map F (range_with_len 0 n)) (omega arith) c.loop-channel.invariant
    c.in_ok-push_findings.ensures
