-- The direction and the place of every pin of a map.
use Rattle.std.specs.Prelude.{ℕ, ◌==◌, ◌&&◌, Bool, List, [], ◌∷◌, ◌++◌, map}
use Rattle.std.specs.Option.{option_to_list}
use Rattle.trace_model.specs.declared.channel.Channel.{Channel as Row}
use Rattle.net_design.specs.declared.design.Direction.{Direction}
use Rattle.net_design.specs.declared.design.Direction.TheVariants.{Input}
use Rattle.net_design.specs.Settled.{same_direction}
use Rattle.chan_map.specs.declared.pins.Map.{Map}
use Rattle.chan_map.specs.declared.pins.Pin.{Pin}
use Rattle.chan_map.specs.declared.pins.Plug.{Plug}
use Rattle.chan_map.specs.declared.pins.Tie.{Tie}
use Rattle.chan_map.specs.declared.pins.Reset.{Reset}
use Rattle.chan_map.specs.Ports.{source_side, sink_side}

-- the port with this place among those of its direction
abbrev pub is_at : Direction → ℕ → Direction × ℕ → Bool
is_at direction place pin = same_direction direction pin.0 && (pin.1 == place)

abbrev pub reset_places : List Reset → List (Direction × ℕ)
reset_places resets = map (λ (r : Reset). (Input, r.pin.place)) resets

abbrev pub tie_places : List Tie → List (Direction × ℕ)
tie_places ties = map (λ (t : Tie). (Input, t.pin.place)) ties

abbrev pub plug_places : Row → Plug → List (Direction × ℕ)
plug_places row plug =
    (source_side row.dir, plug.valid.place) ∷ (sink_side row.dir, plug.ready.place)
    ∷ map (λ (p : Pin). (source_side row.dir, p.place)) plug.contents

-- of each channel with its plug
abbrev pub plugs_places : List Row → List Plug → List (Direction × ℕ)
plugs_places (row ∷ rows) (plug ∷ plugs) = plug_places row plug ++ plugs_places rows plugs
plugs_places rows plugs = []

-- the clock, the reset, the ties, and the plugs of the channels
abbrev pub places : Map → List (Direction × ℕ)
places m = (Input, m.clock.place) ∷ (reset_places (option_to_list m.reset) ++ (tie_places m.ties ++ plugs_places m.channels m.plugs))
