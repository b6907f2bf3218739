use Rattle.std.proofs.Common.{map, drop, ◌+◌, ap, [], ◌∷◌}
use Rattle.vlog_tree.specs.Plain.{plain_named}
use Rattle.net_design.proofs.UpdateLaws.{from_here}
use Rattle.flat_parts.specs.vlog_driver.Sites.{site_of}
use Rattle.flat_parts.specs.vlog_driver.Duties.{Does, wire_duty}
use Rattle.flat_drivers.proofs.Added.{code_next}
use Rattle.flat_drivers.proofs.item.add_wires.Goals as goal

pub loop-wire-preserved : goal.loop-wire-preserved
loop-wire-preserved c =
    let p = site_of c.args.site.now in
    code_next Does (wire_duty p (plain_named c.wire-item.result) ∷ [])
    (map (wire_duty p) (map plain_named (drop (c.loop-wire.wire-index + 1) c.args.wires.now)))
    (map (wire_duty p) (map plain_named (drop c.loop-wire.wire-index c.args.wires.now)))
    (map (wire_duty p) (map plain_named c.args.wires.now)) c.loop-wire.out c.add_fit_wire.new.out c.args.out.now
    (ap (λ ws. map (wire_duty p) (map plain_named ws))
    (from_here c.args.wires.now c.loop-wire.wire-index c.wire-item.result c.loop-wire-test.true c.wire-item.is))
    c.in_ok-add_fit_wire.ensures c.loop-wire.invariant
