use Rattle.std.proofs.Common.{◌≡◌, ℕ, drop, map}
use Rattle.std.specs.List.{enumerate_from}
use Rattle.run_model.specs.chan_map.declared.pins.Pin.{Pin}
use Rattle.run_model.specs.Pins.{pin_number, shown_number}
use Rattle.chan_monitor.specs.Entering.{write, content_inputs}
use Rattle.chan_monitor.proofs.pins.enter_contents.Given as goal

abbrev pub invariant-loop-i : goal.invariant-loop-i
invariant-loop-i l =
    write l.pins (map (λ (p : ℕ × Pin). pin_number p.1.place (shown_number l.shown l.content p.0)) (enumerate_from l.i (drop l.i l.places)))
    ≡ write l.fn.pins (content_inputs l.places l.shown l.content)
