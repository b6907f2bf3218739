use Rattle.chan_monitor.proofs.Held.{pins-made}
use Rattle.chan_monitor.proofs.cycles.pins_for.Goals as goal

pub returns : goal.returns
returns c =
    let many = rw (c.as_slice.ensures, c.as_slice-2.ensures) at c.in_ok-push_plugs.ensures in
    pins-made c.args.map.now _ _ _ _ _ _ _ c.new-pins.ensures c.in_ok-push_zeros.ensures c.in_ok-push_zeros-2.ensures
    c.in_ok-push_zeros-3.ensures c.reset_count.ensures c.len.ensures many
