use Rattle.std.proofs.Common.{◌≡◌, drop}
use Rattle.chan_map.specs.Reasons.{cover_from, cover_faults, all_names}
use Rattle.chan_map.proofs.times.check_cover.Given as goal

abbrev pub invariant-loop-k : goal.invariant-loop-k
invariant-loop-k l = cover_from l.top.design.now.ports (all_names l.lines) l.k (drop l.k l.top.design.now.ports)
    ≡ cover_faults l.top.design.now l.lines
