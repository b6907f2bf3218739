-- The clauses of lawful designs that speak of instances, nets, memories, ports and the clock (this project's profile).
use Rattle.std.specs.Prelude.{◌≡◌, ℕ, ◌<◌, ◌≤◌, true, List, take, length, slice_get, All, Some}
use Rattle.std.specs.List.{sum_by}
use Rattle.net_design.specs.declared.design.Net.{Net}
use Rattle.net_design.specs.declared.design.DesignMemory.{DesignMemory}
use Rattle.net_design.specs.declared.design.Port.{Port}
use Rattle.net_design.specs.declared.design.Design.{Design}
use Rattle.net_code.specs.vidi_bits.Number.{IsWidth}
use Rattle.net_design.specs.Names.{AreAfterParents}
use Rattle.net_design.specs.Settled.{net_width}
use Rattle.net_design.specs.Lawful.{AreSmall, counts, is_input}

-- nets of one of n instances
abbrev pub AreNets : ℕ → List Net → Type 0
AreNets n nets = All (λ (x : Net). IsWidth x.width × (x.instance < n)) nets

-- memories of one of n instances, with words
abbrev pub AreMemories : ℕ → List DesignMemory → Type 0
AreMemories n memories = All (λ (a : DesignMemory). IsWidth a.width × (1 ≤ a.room.length) × (a.instance < n)) memories

-- the words of the memories stand one memory after the other
abbrev pub HaveRooms : List DesignMemory → Type 0
HaveRooms memories = (i : ℕ) (a : DesignMemory) → slice_get memories i ≡ Some a
    → a.room.first ≡ sum_by (λ (x : DesignMemory). x.room.length) (take i memories)

-- port k of the top is net k
abbrev pub IsPortNet : Port → Net → Type 0
IsPortNet p n = (n.name ≡ p.name) × (n.width ≡ p.width) × (n.instance ≡ 0)

abbrev pub HavePortNets : List Port → List Net → Type 0
HavePortNets ports nets = (k : ℕ) (p : Port) (n : Net) → slice_get ports k ≡ Some p → slice_get nets k ≡ Some n → IsPortNet p n

-- the clock is an input of one bit
abbrev pub HasClock : Design → Type 0
HasClock d = (k : ℕ) → d.clock ≡ Some k → (is_input d k ≡ true) × (net_width d k ≡ 1)

pub record IsFramed (d : Design) : Type 0 where
  pub small : AreSmall (counts d)
  pub top : 1 ≤ length d.instances
  pub parents : AreAfterParents d.instances
  pub nets : AreNets (length d.instances) d.nets
  pub memories : AreMemories (length d.instances) d.memories
  pub rooms : HaveRooms d.memories
  pub ports : length d.ports ≤ length d.nets
  pub port_nets : HavePortNets d.ports d.nets
  pub clock : HasClock d
