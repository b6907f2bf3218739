-- The clauses of lawful designs that speak of registers.
use Rattle.std.specs.Prelude.{◌≢◌, List, All}
use Rattle.std.specs.List.{AllPairs}
use Rattle.net_design.specs.declared.design.Register.{Register}
use Rattle.net_design.specs.declared.design.Design.{Design}
use Rattle.net_design.specs.Lawful.{IsRegister}

-- no two are the same net
abbrev pub NetsDiffer : List Register → Type 0
NetsDiffer registers = AllPairs (λ (a b : Register). a.net ≢ b.net) registers

pub record HasState (d : Design) : Type 0 where
  pub registers : All (IsRegister d) d.registers
  pub differ : NetsDiffer d.registers
