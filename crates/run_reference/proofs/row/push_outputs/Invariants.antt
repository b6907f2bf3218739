use Rattle.std.proofs.Common.{◌≡◌, ◌++◌, map, drop, slice_index}
use Rattle.net_design.specs.Pins.{outputs}
use Rattle.run_model.specs.chan_map.declared.pins.Pin.{Pin}
use Rattle.run_reference.proofs.row.push_outputs.Given as goal

abbrev pub invariant-loop-pin : goal.invariant-loop-pin
invariant-loop-pin g l =
    l.out ++ map (λ (p : Pin). slice_index (outputs (g.B.Block.design l.block) (g.B.Block.shown l.block)) p.place) (drop l.pin-index l.pins)
    ≡ l.initial.out ++ map (λ (p : Pin). slice_index (outputs (g.B.Block.design l.block) (g.B.Block.shown l.block)) p.place) l.pins
