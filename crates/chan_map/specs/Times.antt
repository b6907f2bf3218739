-- Counts of names, port by port.
use Rattle.std.specs.Prelude.{◌≡◌, ℕ, ◌+◌, ◌<◌, List, length, slice_index}
use Rattle.net_design.specs.declared.design.Port.{Port}
use Rattle.chan_map.specs.Ports.{times}
use Rattle.chan_map.specs.Reasons.{capped}

-- the words are counted at the ports that they name, up to the end of the type
pub record Adds (ports : List Port) (words : List (List ℕ)) (old new : List ℕ) : Type 0 where
  pub long : length new ≡ length old
  pub each : (k : ℕ) → k < length old → capped (slice_index new k) ≡ capped (slice_index old k + times ports words k)

-- one count for each port
pub record AreTimes (ports : List Port) (words : List (List ℕ)) (counts : List ℕ) : Type 0 where
  pub long : length counts ≡ length ports
  pub each : (k : ℕ) → k < length ports → capped (slice_index counts k) ≡ capped (times ports words k)
