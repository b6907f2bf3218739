use Rattle.std.proofs.Common.{◌≡◌, ◌≢◌, ℕ, ◌<◌, ◌==◌, take, slice_index_or}
use Rattle.std.specs.List.{list_any}
use Rattle.net_design.specs.declared.design.Register.{Register}
use Rattle.net_code.specs.BitMap.{in_map}
use Rattle.net_lawful.proofs.registers.nets_differ.Given as goal

abbrev pub invariant-loop-register : goal.invariant-loop-register
invariant-loop-register l = record {
  seen : (m : ℕ) → in_map l.seen m 0 ≡ list_any (λ (x : Register). x.net == m) (take l.register-index l.registers);
  differ : (i j : ℕ) (d : Register) → i < j → j < l.register-index
      → (slice_index_or l.registers i d).net ≢ (slice_index_or l.registers j d).net;
}
