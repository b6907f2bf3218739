use Rattle.std.proofs.Common.{sym, ◌∙◌, arith}
use Rattle.chan_map.proofs.Counts.{port_below}
use Rattle.chan_map.proofs.times.count_name.Goals as goal

pub bump-requires : goal.bump-requires
bump-requires c = omega (
  arith,
  port_below c.args.top.now.design.now.ports c.args.name.now c.in-Some.s
      (sym c.socket_named.ensures ∙ c.in-Some.is),
  c.requires.long,
)
