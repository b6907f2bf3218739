use Rattle.std.proofs.Common.{◌≡◌, ℕ, List, take}
use Rattle.std.specs.List.{AllZip}
use Rattle.net_design.specs.declared.design.Driver.{Driver}
use Rattle.flat_parts.specs.net_code.BitMap.{in_map}
use Rattle.flat_parts.specs.State.{always_writes_bit, IsRegisterOf}
use Rattle.flat_registers.specs.Places.{plain_places}
use Rattle.flat_registers.proofs.register.registers_of.Given as goal

abbrev pub invariant-loop-reg : goal.invariant-loop-reg
invariant-loop-reg l =
    (drivers : List Driver) → ((m k : ℕ) → in_map l.written m k ≡ always_writes_bit drivers m k)
    → AllZip (IsRegisterOf drivers) (plain_places (take l.reg-index l.regs)) l.out
