-- `vidi_record_top`: the design behind the monitors of its channels (this project's profile).
use Rattle.std.specs.Prelude.{ℕ, List, [], ◌∷◌, ◌++◌, codes}
use Rattle.vlog_tree.specs.Tree.{PortOf, ConnOf, ItemOf, ModuleOf}
use Rattle.chan_map.specs.trace_model.declared.channel.Channel.{Channel}
use Rattle.chan_map.specs.trace_model.declared.channel.Dir.{Dir}
use Rattle.chan_map.specs.trace_model.declared.channel.Dir.TheVariants.{Inward, Outward}
use Rattle.chan_map.specs.declared.pins.Map.{Map}
use Rattle.shim_trees.specs.Pieces.{numbered, numbered_twice, each, each_some, port, input, output, source_side, sink_side, wire, conn}
use Rattle.shim_trees.specs.Pieces.{unjoined, instance}
use Rattle.shim_trees.specs.Links.{record_links, tied_ports, dut, content_wires}

-- gate, valid, ready and contents before the gate, start and completion of channel n
abbrev pub record_ports : ℕ → Channel → List (PortOf ℕ)
record_ports n c =
    input (numbered (codes "g_") n) 1
    ∷ port (source_side c.dir) (numbered (codes "v_") n) 1 ∷ port (sink_side c.dir) (numbered (codes "r_") n) 1
    ∷ (each (λ i w. port (source_side c.dir) (numbered_twice (codes "d_") n i) w) 0 c.widths
    ++ output (numbered (codes "start_") n) 1 ∷ output (numbered (codes "stop_") n) 1 ∷ [])

-- `w_n` is an inward channel's gated valid, an outward channel's gated ready
abbrev pub record_wires : ℕ → Channel → List (ItemOf ℕ)
record_wires n c = wire (numbered (codes "w_") n) 1 ∷ content_wires n c.dir c.widths

-- what nobody reads is left empty: the ready that an inward channel's source sees, and an outward channel's gated valid and contents
abbrev pub source_ready : ℕ → Dir → ConnOf ℕ
source_ready n Inward = unjoined (codes "sr")
source_ready n Outward = conn (codes "sr") (numbered (codes "w_") n)

abbrev pub sink_valid : ℕ → Dir → ConnOf ℕ
sink_valid n Inward = conn (codes "kv") (numbered (codes "w_") n)
sink_valid n Outward = unjoined (codes "kv")

abbrev pub source_content : ℕ → ℕ → ℕ → ConnOf ℕ
source_content n i width = conn (numbered (codes "s") i) (numbered_twice (codes "d_") n i)

abbrev pub sink_content : ℕ → Dir → ℕ → ℕ → ConnOf ℕ
sink_content n Inward i width = conn (numbered (codes "k") i) (numbered_twice (codes "k_") n i)
sink_content n Outward i width = unjoined (numbered (codes "k") i)

abbrev pub source_conns : ℕ → Dir → List ℕ → List (ConnOf ℕ)
source_conns n dir widths =
    conn (codes "clk") (codes "clk") ∷ conn (codes "g") (numbered (codes "g_") n) ∷ conn (codes "sv") (numbered (codes "v_") n)
    ∷ source_ready n dir ∷ each (source_content n) 0 widths

abbrev pub sink_conns : ℕ → Dir → List ℕ → List (ConnOf ℕ)
sink_conns n dir widths =
    sink_valid n dir ∷ conn (codes "kr") (numbered (codes "r_") n)
    ∷ (each (sink_content n dir) 0 widths
    ++ conn (codes "start") (numbered (codes "start_") n) ∷ conn (codes "stop") (numbered (codes "stop_") n) ∷ [])

abbrev pub monitor_conns : ℕ → Dir → List ℕ → List (ConnOf ℕ)
monitor_conns n dir widths = source_conns n dir widths ++ sink_conns n dir widths

-- the monitor `m_n` of channel n
abbrev pub monitor_item : ℕ → Channel → ItemOf ℕ
monitor_item n c =
    instance (numbered (codes "vidi_m_") n) (numbered (codes "m_") n) (monitor_conns n c.dir c.widths)

abbrev pub record_name : List ℕ
record_name = codes "vidi_record_top"

-- round a design whose top has these ports
abbrev pub record_top : Map → List (PortOf ℕ) → ModuleOf ℕ
record_top m ports = record {
  name = record_name;
  parameters = [];
  ports = input (codes "clk") 1 ∷ (tied_ports m ports ++ each_some record_ports 0 m.channels);
  items = each_some record_wires 0 m.channels ++ dut (record_links m) m.top ports ∷ each monitor_item 0 m.channels;
}
