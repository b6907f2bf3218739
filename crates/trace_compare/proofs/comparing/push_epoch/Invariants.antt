use Rattle.std.proofs.Common.{◌≡◌, ◌-◌, ◌++◌, length}
use Rattle.std.specs.List.{flat_map, range_with_len}
use Rattle.trace_compare.specs.Findings.{findings_on}
use Rattle.trace_compare.proofs.comparing.push_epoch.Given as goal

abbrev pub invariant-loop-channel : goal.invariant-loop-channel
invariant-loop-channel l = l.report ++ flat_map (findings_on l.epoch l.pair.channels.now l.pair.a.now l.pair.b.now)
    (range_with_len l.channel (length l.pair.channels.now - l.channel))
    ≡ l.initial.report ++ flat_map (findings_on l.epoch l.pair.channels.now l.pair.a.now l.pair.b.now)
    (range_with_len 0 (length l.pair.channels.now))
