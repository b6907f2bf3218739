use Rattle.std.proofs.Common.{None, false, length, replicate, ap, ◌∙◌}
use Rattle.chan_monitor.proofs.Held.{many-plugs, pins-many, reset-within, ties-within}
use Rattle.chan_monitor.proofs.Known.{around-new}
use Rattle.chan_monitor.proofs.machines.Machines.new.Goals as goal

pub pins_for-requires : goal.pins_for-requires
pins_for-requires g c = many-plugs (g.B.Block.design c.args.block) c.args.map.now c.requires.mapped

pub hold-requires-clause-ties : goal.hold-requires-clause-ties
hold-requires-clause-ties g c =
    ties-within (g.B.Block.design c.args.block) c.args.map.now c.requires.mapped (length c.as_mut_slice.result.now)
    (ap length c.as_mut_slice.ensures.value ∙ c.in_ok-pins.ensures
    ∙ pins-many (g.B.Block.design c.args.block) c.args.map.now c.requires.mapped)

pub hold-requires-clause-reset : goal.hold-requires-clause-reset
hold-requires-clause-reset g c =
    reset-within (g.B.Block.design c.args.block) c.args.map.now c.requires.mapped (length c.as_mut_slice.result.now)
    (ap length c.as_mut_slice.ensures.value ∙ c.in_ok-pins.ensures
    ∙ pins-many (g.B.Block.design c.args.block) c.args.map.now c.requires.mapped)

pub invariant_of-result : goal.invariant_of-result
invariant_of-result g c = record {
  running = ∣ (
    g.B.Block.design c.args.block,
    g.B.Block.state c.args.block,
    None,
    around-new (g.B.Block.design c.args.block) (g.B.Block.state c.args.block) c.args.map.now c.in_ok-pins.pins
        c.as_mut_slice.result.now c.hold.new.pins c.in_ok-monitors.monitors (g.met.B.Block.one_map c.args.block) c.requires.nets
        c.requires.mapped c.in_ok-pins.ensures c.as_mut_slice.ensures.value c.hold.auto.pins c.hold.ensures
        (c.in_ok-monitors.ensures ∙ ap (λ n. replicate n false) c.len.ensures),
  ) ∣₁;
}

pub returns-clause-runs : goal.returns-clause-runs
returns-clause-runs g c =
    around-new (g.B.Block.design c.args.block) (g.B.Block.state c.args.block) c.args.map.now c.in_ok-pins.pins
    c.as_mut_slice.result.now c.hold.new.pins c.in_ok-monitors.monitors (g.met.B.Block.one_map c.args.block) c.requires.nets
    c.requires.mapped c.in_ok-pins.ensures c.as_mut_slice.ensures.value c.hold.auto.pins c.hold.ensures
    (c.in_ok-monitors.ensures ∙ ap (λ n. replicate n false) c.len.ensures)
