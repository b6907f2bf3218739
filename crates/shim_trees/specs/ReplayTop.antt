-- `vidi_replay_top`: the design between the replayers of its channels (this project's profile).
use Rattle.std.specs.Prelude.{ℕ, List, [], ◌∷◌, ◌++◌, codes, length}
use Rattle.vlog_tree.specs.Tree.{PortOf, ConnOf, ItemOf, ModuleOf}
use Rattle.chan_map.specs.trace_model.declared.channel.Channel.{Channel}
use Rattle.chan_map.specs.trace_model.declared.channel.Dir.{Dir}
use Rattle.chan_map.specs.trace_model.declared.channel.Dir.TheVariants.{Inward, Outward}
use Rattle.chan_map.specs.declared.pins.Map.{Map}
use Rattle.shim_trees.specs.Pieces.{numbered, numbered_twice, each, each_some, upto, input, output, conn, instance}
use Rattle.shim_trees.specs.Links.{replay_links, tied_ports, dut, content_wires}

-- the contents that an inward channel is fed
abbrev pub fed_ports : ℕ → Dir → List ℕ → List (PortOf ℕ)
fed_ports n Inward widths = each (λ i w. input (numbered_twice (codes "s_") n i) w) 0 widths
fed_ports n Outward widths = []

-- the contents that an outward channel shows
abbrev pub shown_ports : ℕ → Dir → List ℕ → List (PortOf ℕ)
shown_ports n Inward widths = []
shown_ports n Outward widths = each (λ i w. output (numbered_twice (codes "d_") n i) w) 0 widths

-- whether there is a next transaction, for how many completions of each channel it waits, and its contents; valid, ready, completion
abbrev pub replay_ports : ℕ → ℕ → Channel → List (PortOf ℕ)
replay_ports count n c =
    input (numbered (codes "more_") n) 1
    ∷ (upto (λ j. input (numbered_twice (codes "n_") n j) 32) 0 count
    ++ (fed_ports n c.dir c.widths
    ++ output (numbered (codes "v_") n) 1 ∷ output (numbered (codes "r_") n) 1 ∷ output (numbered (codes "pop_") n) 1
    ∷ shown_ports n c.dir c.widths))

abbrev pub replay_wires : ℕ → Channel → List (ItemOf ℕ)
replay_wires n c = content_wires n c.dir c.widths

abbrev pub side_conns : ℕ → Dir → List ℕ → List (ConnOf ℕ)
side_conns n Inward widths =
    each (λ i w. conn (numbered (codes "s") i) (numbered_twice (codes "s_") n i)) 0 widths
    ++ conn (codes "kv") (numbered (codes "v_") n) ∷ conn (codes "kr") (numbered (codes "r_") n)
    ∷ each (λ i w. conn (numbered (codes "k") i) (numbered_twice (codes "k_") n i)) 0 widths
side_conns n Outward widths = conn (codes "sv") (numbered (codes "v_") n) ∷ conn (codes "sr") (numbered (codes "r_") n) ∷ []

-- each replayer is told the completions of all channels
abbrev pub replayer_conns : ℕ → ℕ → Dir → List ℕ → List (ConnOf ℕ)
replayer_conns count n dir widths =
    conn (codes "clk") (codes "clk") ∷ conn (codes "more") (numbered (codes "more_") n)
    ∷ (upto (λ j. conn (numbered (codes "n") j) (numbered_twice (codes "n_") n j)) 0 count
    ++ (upto (λ j. conn (numbered (codes "d") j) (numbered (codes "pop_") j)) 0 count
    ++ (side_conns n dir widths ++ conn (codes "pop") (numbered (codes "pop_") n) ∷ [])))

-- the replayer `q_n` of channel n
abbrev pub replayer_item : ℕ → ℕ → Channel → ItemOf ℕ
replayer_item count n c =
    instance (numbered (codes "vidi_q_") n) (numbered (codes "q_") n) (replayer_conns count n c.dir c.widths)

abbrev pub replay_name : List ℕ
replay_name = codes "vidi_replay_top"

-- round a design whose top has these ports
abbrev pub replay_top : Map → List (PortOf ℕ) → ModuleOf ℕ
replay_top m ports = record {
  name = replay_name;
  parameters = [];
  ports = input (codes "clk") 1 ∷ (tied_ports m ports ++ each_some (replay_ports (length m.channels)) 0 m.channels);
  items = each_some replay_wires 0 m.channels
      ++ dut (replay_links m) m.top ports ∷ each (replayer_item (length m.channels)) 0 m.channels;
}
