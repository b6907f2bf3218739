-- A lawful design, and neighbours of it that aren't lawful. Its text is, with an instance u that has no nets:
--   input c;  input [1:0] d;  output [1:0] y;  reg [1:0] q = 2;  reg [1:0] t;  reg [1:0] m [0:3];
--   assign y = t;  always @* t = q;  always @(posedge c) q <= d;  always @(posedge c) m[q] <= d;
use Rattle.std.specs.Prelude.{ℕ, List, [], ◌∷◌, ◌++◌, true, false, Some}
use Rattle.net_design.specs.declared.rhs.Span.{Span}
use Rattle.net_design.specs.declared.rhs.Room.{Room}
use Rattle.net_design.specs.declared.rhs.Rhs.{Bits}
use Rattle.net_design.specs.declared.act.Place.TheVariants.{Bits as PlaceBits, Word as PlaceWord}
use Rattle.net_design.specs.declared.act.Mask.{Mask}
use Rattle.net_design.specs.declared.act.Act.{Set}
use Rattle.net_design.specs.declared.act.Code.{Code}
use Rattle.net_design.specs.declared.design.Net.{Net}
use Rattle.net_design.specs.declared.design.Driver.{Driver}
use Rattle.net_design.specs.declared.design.Port.{Port}
use Rattle.net_design.specs.declared.design.Direction.{Direction}
use Rattle.net_design.specs.declared.design.Direction.TheVariants.{Input, Output}
use Rattle.net_design.specs.declared.design.Design.{Design}

abbrev pub net_of : ℕ → ℕ → ℕ → Net
net_of instance letter width = record { instance = instance; name = letter ∷ []; width = width }

abbrev pub port_of : Direction → ℕ → ℕ → Port
port_of direction letter width = record { name = letter ∷ []; direction = direction; width = width }

-- the two bits of a net
abbrev pub pair : ℕ → Span
pair net = record { net = net; low = 0; width = 2 }

abbrev pub both_bits : ℕ → List Mask
both_bits net = record { net = net; bits = 3 } ∷ []

-- the two bits of one net become those of another
abbrev pub copies : ℕ → ℕ → Code
copies to from = record { acts = Set (PlaceBits (pair to) 2 ∷ []) (Bits (pair from)) ∷ []; writes = both_bits to; reads = both_bits from }

abbrev pub four_words : Room
four_words = record { first = 0; length = 4 }

-- a word of the memory at a place that a net has becomes the bits of another net
abbrev pub stores : ℕ → ℕ → Code
stores at from = record {
  acts = Set (PlaceWord four_words (Bits (pair at)) 0 2 2 ∷ []) (Bits (pair from)) ∷ [];
  writes = [];
  reads = both_bits at ++ both_bits from;
}

abbrev pub assigned : Driver
assigned = record { line = 1; always = false; code = copies 2 4 }

abbrev pub combined : Driver
combined = record { line = 2; always = true; code = copies 4 3 }

abbrev pub with_drivers : List Driver → Design
with_drivers drivers = record {
  instances = record { parent = 0; name = [] } ∷ record { parent = 0; name = 117 ∷ [] } ∷ [];
  nets = net_of 0 99 1 ∷ net_of 0 100 2 ∷ net_of 0 121 2 ∷ net_of 0 113 2 ∷ net_of 0 116 2 ∷ [];
  registers = record { net = 3; held = 3; initial = 2 } ∷ [];
  memories = record { instance = 0; name = 109 ∷ []; width = 2; room = four_words } ∷ [];
  drivers = drivers;
  blocks = copies 3 1 ∷ stores 3 1 ∷ [];
  ports = port_of Input 99 1 ∷ port_of Input 100 2 ∷ port_of Output 121 2 ∷ [];
  clock = Some 0;
}

abbrev pub example : Design
example = with_drivers (assigned ∷ combined ∷ [])

-- the assign stands twice
abbrev pub driven_twice : Design
driven_twice = with_drivers (assigned ∷ combined ∷ assigned ∷ [])

-- the always block isn't there
abbrev pub not_driven : Design
not_driven = with_drivers (assigned ∷ [])

-- an assign drives the register too
abbrev pub held_driven : Design
held_driven = with_drivers (assigned ∷ combined ∷ record { line = 3; always = false; code = copies 3 1 } ∷ [])

-- the register begins with a bit that the state doesn't hold
abbrev pub stray_initial : Design
stray_initial = record example { registers = record { net = 3; held = 3; initial = 6 } ∷ [] }

-- two nets have one name
abbrev pub named_twice : Design
named_twice = record example { nets = net_of 0 99 1 ∷ net_of 0 100 2 ∷ net_of 0 121 2 ∷ net_of 0 113 2 ∷ net_of 0 113 2 ∷ [] }
