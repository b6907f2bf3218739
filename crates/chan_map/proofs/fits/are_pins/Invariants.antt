use Rattle.std.proofs.Common.{◌≡◌, drop}
use Rattle.std.specs.List.{list_all}
use Rattle.chan_map.specs.Ports.{is_pin, socket_named}
use Rattle.chan_map.proofs.fits.are_pins.Given as goal

abbrev pub invariant-loop-name : goal.invariant-loop-name
invariant-loop-name l =
    list_all (λ name. is_pin l.d (socket_named l.top.design.now.ports name)) (drop l.name-index l.names) ≡ list_all
    (λ name. is_pin l.d (socket_named l.top.design.now.ports name)) l.names
