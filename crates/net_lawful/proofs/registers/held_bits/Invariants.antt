use Rattle.std.proofs.Common.{◌≡◌, ℕ, ◌==◌, ◌&&◌, ◌||◌, drop}
use Rattle.std.specs.List.{list_any}
use Rattle.net_design.specs.declared.design.Register.{Register}
use Rattle.net_code.specs.vidi_bits.Number.{has}
use Rattle.net_design.specs.Settled.{held}
use Rattle.net_code.specs.BitMap.{in_map}
use Rattle.net_lawful.proofs.registers.held_bits.Given as goal

abbrev pub invariant-loop-register : goal.invariant-loop-register
invariant-loop-register l = (m k : ℕ)
    → (in_map l.set m k || list_any (λ (r : Register). (r.net == m) && has r.held k) (drop l.register-index l.register-items))
    ≡ held l.design m k
