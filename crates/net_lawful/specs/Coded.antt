-- The clauses of lawful designs that speak of code.
use Rattle.std.specs.Prelude.{◌≡◌, ℕ, true, false, All}
use Rattle.net_design.specs.declared.rhs.Room.{Room}
use Rattle.net_design.specs.declared.act.Code.{Code}
use Rattle.net_design.specs.declared.act.Timing.TheVariants.{Blocking, Nonblocking}
use Rattle.net_design.specs.declared.design.Driver.{Driver}
use Rattle.net_design.specs.declared.design.Design.{Design}
use Rattle.net_design.specs.Bits.{named, block_adds, HasBits}
use Rattle.net_design.specs.Settled.{held}
use Rattle.net_design.specs.Lawful.{is_room, IsEquation, IsDriver, IsClocked}
use Rattle.net_code.specs.declared.bit_map.BitMap.{BitMap}
use Rattle.net_code.specs.BitMap.{in_map}
use Rattle.net_lawful.specs.declared.rooms.Rooms.{Rooms}
use Rattle.net_lawful.specs.Rooms.{has_room}

-- the rooms are the design's memories
abbrev pub AreRooms : Design → Rooms → Type 0
AreRooms d rooms = (r : Room) (n : ℕ) → has_room rooms r n ≡ is_room d r n

-- the set has the bits that the state holds
abbrev pub IsHeld : Design → BitMap → Type 0
IsHeld d set = (m k : ℕ) → in_map set m k ≡ held d m k

-- each bit that code writes is surely assigned
abbrev pub IsWhole : Code → Type 0
IsWhole c = (m k : ℕ) → named c.writes m k ≡ true → block_adds c.acts m k ≡ true

-- code reads no bit that it writes
abbrev pub IsOwn : Code → Type 0
IsOwn c = (m k : ℕ) → named c.writes m k ≡ true → named c.reads m k ≡ false

-- an equation, or an `always @*` that reads no bit of its own first
pub record IsProper (x : Driver) : Type 0 where
  pub equation : x.always ≡ false → IsEquation x.code.acts
  pub own : x.always ≡ true → IsOwn x.code

-- the masks of all code are those of its bits
pub record HaveBits (d : Design) : Type 0 where
  pub drivers : All (λ (x : Driver). HasBits Blocking x.code) d.drivers
  pub blocks : All (λ (c : Code). HasBits Nonblocking c) d.blocks

pub record HasCode (d : Design) : Type 0 where
  pub drivers : All (IsDriver d) d.drivers
  pub blocks : All (IsClocked d) d.blocks
