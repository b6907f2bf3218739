-- Lawful designs: those that elaboration answers (this project's profile).
use Rattle.std.specs.Prelude.{◌≡◌, ℕ, ◌+◌, ◌^◌, ◌<◌, ◌≤◌, ◌==◌, ◌&&◌, ◌⊎◌, ◌≢◌, Bool, true, false, IsTrue, nat_le, nat_lt}
use Rattle.std.specs.Prelude.{List, [], ◌∷◌, take, length, slice_index, slice_get, All, Option, None, Some}
use Rattle.std.specs.Int.{bit_at}
use Rattle.std.specs.List.{list_any, AllPairs, Contains, count_by, sum_by}
use Rattle.net_design.specs.declared.rhs.Span.{Span}
use Rattle.net_design.specs.declared.rhs.Room.{Room}
use Rattle.net_design.specs.declared.act.Act.{Act, Set}
use Rattle.net_design.specs.declared.act.Code.{Code}
use Rattle.net_design.specs.declared.act.Timing.{Timing}
use Rattle.net_design.specs.declared.act.Timing.TheVariants.{Blocking, Nonblocking}
use Rattle.net_design.specs.declared.design.Net.{Net}
use Rattle.net_design.specs.declared.design.Register.{Register}
use Rattle.net_design.specs.declared.design.DesignMemory.{DesignMemory}
use Rattle.net_design.specs.declared.design.Driver.{Driver}
use Rattle.net_design.specs.declared.design.Port.{Port}
use Rattle.net_design.specs.declared.design.Direction.TheVariants.{Input}
use Rattle.net_design.specs.declared.design.Design.{Design}
use Rattle.net_design.specs.declared.design.Counts.{Counts}
use Rattle.net_design.specs.declared.values.Values.{Values}
use Rattle.vidi_bits.specs.Number.{IsWidth, has}
use Rattle.net_design.specs.Sized.{IsBlock}
use Rattle.net_design.specs.Bits.{named, Apart, HasBits, block_adds, block_writes_words}
use Rattle.net_design.specs.Settled.{net_width, held, word_count, same_direction, FitNets}
use Rattle.net_design.specs.Names.{AreAfterParents, net_names}

-- bit k of net m is there
abbrev pub IsBit : Design → ℕ → ℕ → Type 0
IsBit d m k = k < net_width d m

-- bits of a net that is there
abbrev pub is_span : Design → Span → Bool
is_span d s = nat_lt s.net (length d.nets) && nat_le (s.low + s.width) (net_width d s.net)

-- the words of one of the memories, which have n bits or more
abbrev pub is_room : Design → Room → ℕ → Bool
is_room d r n = list_any (λ (a : DesignMemory). (a.room.first == r.first) && ((a.room.length == r.length) && nat_le n a.width)) d.memories

-- statements whose places, bits and widths are in range
abbrev pub IsInRange : Design → List Act → Type 0
IsInRange d acts = IsBlock (λ s. IsTrue (is_span d s)) (λ r n. IsTrue (is_room d r n)) acts

-- net m is an input of the top
abbrev pub is_input_port : Option Port → Bool
is_input_port None = false
is_input_port (Some p) = same_direction Input p.direction

abbrev pub is_input : Design → ℕ → Bool
is_input d m = is_input_port (slice_get d.ports m)

-- an `assign`, a wire's expression or a connection: one assignment, whose target names no bit twice
abbrev pub IsEquation : List Act → Type 0
IsEquation (Set target e ∷ []) = Apart target
IsEquation acts = ⊥

-- the code's places, bits and widths are in range, and its masks are those of its bits
pub record IsCode (d : Design) (t : Timing) (c : Code) : Type 0 where
  pub acts : IsInRange d c.acts
  pub bits : HasBits t c

-- a driver surely assigns each bit that it writes, writes no memory, and reads no bit of its own before it was surely assigned,
-- unless it is an equation
pub record IsDriver (d : Design) (driver : Driver) : Type 0 where
  pub code : IsCode d Blocking driver.code
  pub whole : (m k : ℕ) → named driver.code.writes m k ≡ true → block_adds driver.code.acts m k ≡ true
  pub no_words : block_writes_words driver.code.acts ≡ false
  pub equation : driver.always ≡ false → IsEquation driver.code.acts
  pub own : driver.always ≡ true → (m k : ℕ) → named driver.code.writes m k ≡ true → named driver.code.reads m k ≡ false

-- a clocked block writes state alone; it reads old values, also of bits that it assigned before
pub record IsClocked (d : Design) (c : Code) : Type 0 where
  pub code : IsCode d Nonblocking c
  pub held : (m k : ℕ) → named c.writes m k ≡ true → held d m k ≡ true

-- a register is a net and no input of the top, and its initial number has no bit that the state doesn't hold
pub record IsRegister (d : Design) (r : Register) : Type 0 where
  pub net : r.net < length d.nets
  pub driven : is_input d r.net ≡ false
  pub held : r.held < 2 ^ net_width d r.net
  pub initial : (k : ℕ) → has r.held k ≡ false → bit_at r.initial k ≡ 0

abbrev pub counts : Design → Counts
counts d = record {
  instances = length d.instances;
  nets = length d.nets;
  drivers = length d.drivers;
  blocks = length d.blocks;
  words =
      word_count d;
}

pub record AreSmall (c : Counts) : Type 0 where
  pub instances : c.instances < 2 ^ 32
  pub nets : c.nets < 2 ^ 32
  pub drivers : c.drivers < 2 ^ 32
  pub blocks : c.blocks < 2 ^ 32
  pub words : c.words < 2 ^ 32

pub record IsLawful (d : Design) : Type 0 where
  pub small : AreSmall (counts d)
  -- names: the top comes first, and each instance after the one that holds it
  pub top : 1 ≤ length d.instances
  pub parents : AreAfterParents d.instances
  -- no two nets have the same full name
  pub names : AllPairs (λ (a b : List (List ℕ)). a ≢ b) (net_names d)
  -- nets, memories, ports and state
  pub nets : All (λ (n : Net). IsWidth n.width × (n.instance < length d.instances)) d.nets
  pub memories : All (λ (a : DesignMemory). IsWidth a.width × (1 ≤ a.room.length) × (a.instance < length d.instances)) d.memories
  pub rooms : (i : ℕ) (a : DesignMemory) → slice_get d.memories i ≡ Some a
      → a.room.first ≡ sum_by (λ (x : DesignMemory). x.room.length) (take i d.memories)
  pub ports : length d.ports ≤ length d.nets
  pub port_nets : (k : ℕ) (p : Port) (n : Net) → slice_get d.ports k ≡ Some p → slice_get d.nets k ≡ Some n
      → (n.name ≡ p.name) × (n.width ≡ p.width) × (n.instance ≡ 0)
  pub clock : (k : ℕ) → d.clock ≡ Some k → (is_input d k ≡ true) × (net_width d k ≡ 1)
  pub registers : All (IsRegister d) d.registers
  pub registers_differ : AllPairs (λ (a b : Register). a.net ≢ b.net) d.registers
  -- code
  pub drivers : All (IsDriver d) d.drivers
  pub blocks : All (IsClocked d) d.blocks
  -- each bit of a net is an input's, or held by the state, or written by exactly one driver, and no driver writes another
  pub driven : (m k : ℕ) → IsBit d m k → is_input d m ≡ false → held d m k ≡ false
      → count_by (λ (x : Driver). named x.code.writes m k) d.drivers ≡ 1
  pub others : (m k : ℕ) → (is_input d m ≡ true) ⊎ (held d m k ≡ true) → count_by (λ (x : Driver). named x.code.writes m k) d.drivers ≡ 0

-- a state of a design: a number for each net and each word, which fits it. The bits that it doesn't hold are 0, so there is one
-- state for each choice of the bits that it holds
pub record IsState (d : Design) (s : Values) : Type 0 where
  pub nets : FitNets d s.nets
  pub rest : (m k : ℕ) → held d m k ≡ false → bit_at (slice_index s.nets m) k ≡ 0
  pub words : length s.words ≡ word_count d
  pub fit : (a : DesignMemory) (i : ℕ) → Contains d.memories a → i < a.room.length → slice_index s.words (a.room.first + i) < 2 ^ a.width
