-- What the design's ports are joined to in the tops.
use Rattle.std.specs.Prelude.{ℕ, List, [], ◌∷◌, ◌++◌, map, codes, Option, None, Some, option_map, slice_get}
use Rattle.std.specs.List.{flat_map}
use Rattle.std.specs.Option.{option_to_list}
use Rattle.vlog_size.specs.Table.{Named, value_of}
use Rattle.vlog_tree.specs.Tree.{PortOf, ConnOf, ItemOf}
use Rattle.chan_map.specs.trace_model.declared.channel.Channel.{Channel}
use Rattle.chan_map.specs.trace_model.declared.channel.Dir.{Dir}
use Rattle.chan_map.specs.trace_model.declared.channel.Dir.TheVariants.{Inward, Outward}
use Rattle.chan_map.specs.declared.pins.Map.{Map}
use Rattle.chan_map.specs.declared.pins.Pin.{Pin}
use Rattle.chan_map.specs.declared.pins.Plug.{Plug}
use Rattle.chan_map.specs.declared.pins.Reset.{Reset}
use Rattle.chan_map.specs.declared.pins.Tie.{Tie}
use Rattle.shim_trees.specs.Pieces.{Name, numbered, numbered_twice, each, each_some, ident, net, input, wire, instance}

-- this pin is joined to this net
abbrev pub link : Pin → Name → Named Name
link pin x = record { name = pin.name; value = x }

-- the input of a top for the reset or a tie
abbrev pub tied : Name → Name
tied x = codes "t_" ++ x

abbrev pub tied_link : Pin → Named Name
tied_link pin = link pin (tied pin.name)

-- The links of channel n. The net of an inward valid, and that of an outward ready, begin with what is given, since they are gated nets
-- where a run is recorded; an inward channel's contents are gated in both tops.
abbrev pub plug_links : Name → Name → ℕ → Dir → Plug → List (Named Name)
plug_links valid ready n Inward plug =
    link plug.valid (numbered valid n) ∷ link plug.ready (numbered (codes "r_") n)
    ∷ each (λ i pin. link pin (numbered_twice (codes "k_") n i)) 0 plug.contents
plug_links valid ready n Outward plug =
    link plug.valid (numbered (codes "v_") n) ∷ link plug.ready (numbered ready n)
    ∷ each (λ i pin. link pin (numbered_twice (codes "d_") n i)) 0 plug.contents

-- of channel n, whose pins are this plug
abbrev pub channel_links : Name → Name → ℕ → Dir → Option Plug → List (Named Name)
channel_links valid ready n dir None = []
channel_links valid ready n dir (Some plug) = plug_links valid ready n dir plug

-- the links of all pins of a map
abbrev pub links : Name → Name → Map → List (Named Name)
links valid ready m =
    link m.clock (codes "clk") ∷ (map (λ (r : Reset). tied_link r.pin) (option_to_list m.reset)
    ++ (map (λ (t : Tie). tied_link t.pin) m.ties
    ++ each_some (λ n (c : Channel). channel_links valid ready n c.dir (slice_get m.plugs n)) 0 m.channels))

abbrev pub record_links : Map → List (Named Name)
record_links m = links (codes "w_") (codes "w_") m

abbrev pub replay_links : Map → List (Named Name)
replay_links m = links (codes "v_") (codes "r_") m

-- the widths of the reset and the ties
abbrev pub reset_width : Reset → Named ℕ
reset_width r = record { name = r.pin.name; value = 1 }

abbrev pub tie_width : Tie → Named ℕ
tie_width t = record { name = t.pin.name; value = t.width }

abbrev pub held : Map → List (Named ℕ)
held m = map reset_width (option_to_list m.reset) ++ map tie_width m.ties

abbrev pub tied_input : Name → Option ℕ → List (PortOf ℕ)
tied_input x None = []
tied_input x (Some width) = input (tied x) width ∷ []

abbrev pub tied_port : List (Named ℕ) → PortOf ℕ → List (PortOf ℕ)
tied_port widths p = tied_input p.id.name (value_of widths p.id.name)

-- an input for each port of the design that is the reset or a tie, in port order
abbrev pub tied_ports : Map → List (PortOf ℕ) → List (PortOf ℕ)
tied_ports m ports = flat_map (tied_port (held m)) ports

-- an ignored output is joined to nothing
abbrev pub dut_conn : List (Named Name) → PortOf ℕ → ConnOf ℕ
dut_conn ls p = record { line = 0; id = ident p.id.name; value = option_map net (value_of ls p.id.name) }

-- the design of this name, with a connection for each of its ports, in port order
abbrev pub dut : List (Named Name) → Name → List (PortOf ℕ) → ItemOf ℕ
dut ls kind ports = instance kind (codes "dut") (map (dut_conn ls) ports)

-- the wires of an inward channel's gated contents
abbrev pub content_wires : ℕ → Dir → List ℕ → List (ItemOf ℕ)
content_wires n Inward widths = each (λ i w. wire (numbered_twice (codes "k_") n i) w) 0 widths
content_wires n Outward widths = []
