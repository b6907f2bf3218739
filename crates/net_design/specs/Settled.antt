-- *Settled map*, *Next state* and the initial state of a flat design (IEEE 1364-2005: 6.1 continuous assignments, 9.7.5 `always @*`,
-- 9.9 and 9.2.2 clocked blocks, 11.4 for the cycle; that all settles between two edges is this project's profile).
use Rattle.std.specs.Prelude.{◌≡◌, ℕ, ◌^◌, ◌<◌, ◌≤◌, ◌==◌, ◌&&◌, Bool, true, false, Some, if◌then◌else◌}
use Rattle.std.specs.Prelude.{List, [], ◌∷◌, map, replicate, length, slice_index, All}
use Rattle.std.specs.List.{list_any, flat_map, enumerate_from, sum_by}
use Rattle.std.specs.Int.{bit_at}
use Rattle.net_design.specs.declared.act.Code.{Code}
use Rattle.net_design.specs.declared.act.Timing.TheVariants.{Nonblocking}
use Rattle.net_design.specs.declared.design.Net.{Net}
use Rattle.net_design.specs.declared.design.Register.{Register}
use Rattle.net_design.specs.declared.design.DesignMemory.{DesignMemory}
use Rattle.net_design.specs.declared.design.Driver.{Driver}
use Rattle.net_design.specs.declared.design.Port.{Port}
use Rattle.net_design.specs.declared.design.Direction.{Direction}
use Rattle.net_design.specs.declared.design.Direction.TheVariants.{Input, Output}
use Rattle.net_design.specs.declared.design.Design.{Design}
use Rattle.net_design.specs.declared.values.Update.{Update}
use Rattle.net_design.specs.declared.values.Values.{Values}
use Rattle.vidi_bits.specs.Number.{has}
use Rattle.net_design.specs.Sized.{IsSizedBlock}
use Rattle.net_design.specs.Bits.{BitSet}
use Rattle.net_design.specs.Updates.{apply, block_updates, run}

-- ---- nets, state and pins

abbrev pub net_width : Design → ℕ → ℕ
net_width d m = slice_index (map (λ (n : Net). n.width) d.nets) m

-- the bits of regs that the state holds
abbrev pub held : Design → BitSet
held d m k = list_any (λ (r : Register). (r.net == m) && has r.held k) d.registers

-- how many words a memory has
abbrev pub room_length : DesignMemory → ℕ
room_length a = a.room.length

abbrev pub word_count : Design → ℕ
word_count d = sum_by (λ (a : DesignMemory). a.room.length) d.memories

abbrev pub same_direction : Direction → Direction → Bool
same_direction Input Input = true
same_direction Input Output = false
same_direction Output Input = false
same_direction Output Output = true

-- the numbers of the ports of one direction, in port order: port k is net k
abbrev pub pins_of : Direction → List Port → List ℕ → List ℕ
pins_of direction [] nets = []
pins_of direction (p ∷ ports) [] = []
pins_of direction (p ∷ ports) (x ∷ nets) =
    if same_direction direction p.direction then x ∷ pins_of direction ports nets else pins_of direction ports nets

-- one number for each net, which fits it; past the last one a width is 0, and so is a number
pub record FitNets (d : Design) (numbers : List ℕ) : Type 0 where
  pub long : length numbers ≡ length d.nets
  pub each : (m : ℕ) → slice_index numbers m < 2 ^ net_width d m

-- ---- the settled map

-- v fits the nets and has what the state s holds, and the clock is 0
pub record Keeps (d : Design) (s v : Values) : Type 0 where
  pub fit : FitNets d v.nets
  pub clock : (k : ℕ) → d.clock ≡ Some k → slice_index v.nets k ≡ 0
  pub state : (m k : ℕ) → held d m k ≡ true → bit_at (slice_index v.nets m) k ≡ bit_at (slice_index s.nets m) k
  pub words : v.words ≡ s.words

-- v is settled for the state s and the numbers of the input pins: it has what inputs and state hold, and running any driver on
-- it changes nothing
pub record IsSettled (d : Design) (s : Values) (pins : List ℕ) (v : Values) : Type 0 where
  pub keeps : Keeps d s v
  pub inputs : pins_of Input d.ports v.nets ≡ pins
  pub driven : All (λ (driver : Driver). run driver.code.acts v ≡ v) d.drivers

-- ---- the next state and the initial state

-- the updates of all clocked blocks, each of which reads v alone
abbrev pub clocked : Design → Values → List Update
clocked d v = flat_map (λ (c : Code). block_updates Nonblocking c.acts v) d.blocks

-- *Next state* after s, where v is the map settled for it
abbrev pub next : Design → Values → Values → Values
next d v s = apply (clocked d v) s

-- the initial number of a net: that of its register, 0 where it has none
abbrev pub initial_number : List Register → ℕ → ℕ
initial_number [] m = 0
initial_number (r ∷ rest) m = if r.net == m then r.initial else initial_number rest m

-- registers have their initialisers, all else is 0
abbrev pub initial : Design → Values
initial d = record {
  nets = map (λ (n : ℕ × Net). initial_number d.registers n.0) (enumerate_from 0 d.nets);
  words = replicate
      (word_count d) 0;
}

-- a design that can be evaluated: its widths are at most 128, its code is sized, and its words have numbers of 64 bits
pub record IsSized (d : Design) : Type 0 where
  pub nets : All (λ (n : Net). n.width ≤ 128) d.nets
  pub drivers : All (λ (x : Driver). IsSizedBlock x.code.acts) d.drivers
  pub blocks : All (λ (c : Code). IsSizedBlock c.acts) d.blocks
  pub words : word_count d < 2 ^ 64
