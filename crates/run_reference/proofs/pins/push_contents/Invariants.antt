use Rattle.std.proofs.Common.{◌≡◌, ◌++◌, ℕ, map, take, drop}
use Rattle.std.specs.List.{enumerate_from}
use Rattle.run_model.specs.chan_map.declared.pins.Pin.{Pin}
use Rattle.run_model.specs.Pins.{pin_number, shown_number}
use Rattle.run_reference.proofs.pins.push_contents.Given as goal

abbrev pub invariant-loop-i : goal.invariant-loop-i
invariant-loop-i l =
    l.out
    ++ map (λ (p : ℕ × Pin). pin_number p.1.place (shown_number l.valid (take l.len (drop l.first l.contents)) p.0))
    (enumerate_from l.i (drop l.i l.pin-items))
    ≡ l.initial.out
    ++ map (λ (p : ℕ × Pin). pin_number p.1.place (shown_number l.valid (take l.len (drop l.first l.contents)) p.0))
    (enumerate_from 0 l.pin-items)
