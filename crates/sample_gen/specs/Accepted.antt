-- No finding stands against a sample's files.
use Rattle.std.specs.Prelude.{◌≡◌, ℕ, ◌≤◌, false, List, [], ◌∷◌, map, codes, Some}
use Rattle.room_ledger.specs.vidi_bits.Findings.{is_nil}
use Rattle.room_ledger.specs.trace_model.declared.channel.Channel.{Channel}
use Rattle.room_ledger.specs.trace_model.declared.channel.Dir.TheVariants.{Inward, Outward}
use Rattle.room_ledger.specs.trace_model.Channel.{content_bytes}
use Rattle.net_design.specs.declared.design.Direction.{Direction}
use Rattle.net_design.specs.declared.design.Direction.TheVariants.{Input, Output}
use Rattle.net_design.specs.declared.design.Port.{Port}
use Rattle.net_design.specs.declared.design.Design.{Design}
use Rattle.env_script.specs.chan_map.Text.{text_faults, all_said, map_lines}
use Rattle.env_script.specs.chan_map.Bound.{map_faults, table_of}
use Rattle.room_ledger.specs.Reservation.{need}
use Rattle.env_script.specs.Reasons.{read_lines, script_faults}
use Rattle.env_script.specs.Stalls.{plan_faults}
use Rattle.sample_gen.specs.declared.generate.TheConstants.{LARGEST}
use Rattle.sample_gen.specs.Sample.{map_text, script, capacity, stalls}

abbrev pub MapIsRead : Type 0
MapIsRead = text_faults map_text ≡ []

abbrev port : List ℕ → Direction → ℕ → Port
port name direction width = record { name = name; direction = direction; width = width }

-- the ports of the pipe
abbrev pub pipe_ports : List Port
pipe_ports =
    port (codes "clk") Input 1
    ∷ port (codes "a_v") Input 1 ∷ port (codes "a_r") Output 1 ∷ port (codes "a_d") Input 8
    ∷ port (codes "b_v") Output 1 ∷ port (codes "b_r") Input 1 ∷ port (codes "b_d") Output 8 ∷ []

-- a design with the ports of the pipe, whose first is the clock of its blocks
pub record IsPipe (d : Design) : Type 0 where
  pub ports : d.ports ≡ pipe_ports
  pub clock : d.clock ≡ Some 0
  pub blocks : is_nil d.blocks ≡ false

-- `a` inward and `b` outward, of 8 bits each
abbrev pub channels : List Channel
channels = record { dir = Inward; name = codes "a"; widths = 8 ∷ [] } ∷ record { dir = Outward; name = codes "b"; widths = 8 ∷ [] } ∷ []

-- nothing is found, and the channel table is this one
abbrev pub MapIsBound : Type 0
MapIsBound = (d : Design) → IsPipe d → (map_faults d (all_said 1 (map_lines map_text)) ≡ []) × (table_of d (all_said 1 (map_lines map_text)) ≡ channels)

abbrev pub ScriptsAreRead : Type 0
ScriptsAreRead = (s : ℕ) → s ≤ LARGEST → script_faults channels (read_lines (script s)) ≡ []

abbrev pub PlansAreRead : Type 0
PlansAreRead = (s : ℕ) → plan_faults (read_lines (stalls s)) ≡ []

abbrev pub CapacitiesSuffice : Type 0
CapacitiesSuffice = (s : ℕ) → need (map content_bytes channels) ≤ capacity s
