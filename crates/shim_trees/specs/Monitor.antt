-- The monitor of a channel: it holds valid and ready back while the gate is shut, shows content 0 behind it, and tells starts and
-- completions (AMBA AXI4, A3.2.1: a transfer takes place where VALID and READY are up; gates are this project's profile).
use Rattle.std.specs.Prelude.{ℕ, List, [], ◌∷◌, ◌++◌, codes}
use Rattle.vlog_tree.specs.Tree.{PortOf, ItemOf, ModuleOf}
use Rattle.shim_trees.specs.Pieces.{numbered, each, net, not_net, both, input, output, reg, assign, next, at_clock, gated_content}

-- `s` is the source's side, `k` the sink's
abbrev pub monitor_ports : List ℕ → List (PortOf ℕ)
monitor_ports widths =
    input (codes "clk") 1 ∷ input (codes "g") 1 ∷ input (codes "sv") 1 ∷ output (codes "sr") 1
    ∷ (each (λ i w. input (numbered (codes "s") i) w) 0 widths
    ++ output (codes "kv") 1 ∷ input (codes "kr") 1
    ∷ (each (λ i w. output (numbered (codes "k") i) w) 0 widths
    ++ output (codes "start") 1 ∷ output (codes "stop") 1 ∷ []))

-- `fly`: a transaction has started and not completed
abbrev pub gates : List (ItemOf ℕ)
gates =
    reg (codes "fly") 1
    ∷ assign (codes "kv") (both (net (codes "sv")) (net (codes "g")))
    ∷ assign (codes "sr") (both (net (codes "kr")) (net (codes "g"))) ∷ []

abbrev pub events : List (ItemOf ℕ)
events =
    assign (codes "start") (both (net (codes "kv")) (not_net (codes "fly")))
    ∷ assign (codes "stop") (both (net (codes "kv")) (net (codes "kr")))
    ∷ at_clock (next (codes "fly") (both (net (codes "kv")) (not_net (codes "kr")))) ∷ []

abbrev pub monitor_items : List ℕ → List (ItemOf ℕ)
monitor_items widths = gates ++ (each gated_content 0 widths ++ events)

-- of channel n, with contents of these widths
abbrev pub monitor : ℕ → List ℕ → ModuleOf ℕ
monitor n widths = record {
  name = numbered (codes "vidi_m_") n;
  parameters = [];
  ports = monitor_ports widths;
  items = monitor_items widths;
}
