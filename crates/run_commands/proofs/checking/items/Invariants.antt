use Rattle.std.proofs.Common.{◌≡◌, ℕ, ◌+◌, ◌*◌, ◌≤◌, List, length, drop}
use Rattle.std.specs.List.{sum_by}
use Rattle.vlog_tree.specs.declared.module.Module.{Module}
use Rattle.run_commands.proofs.checking.items.Given as goal

abbrev count : List Module → ℕ
count ms = sum_by (λ (m : Module). length m.items) ms

-- the items so far and those that are left, and a bound for each module
abbrev pub invariant-loop-module : goal.invariant-loop-module
invariant-loop-module l = record {
  counted : l.items + count (drop l.module-index l.file.modules) ≡ count l.file.modules;
  small : l.items ≤ l.module-index * 18446744073709551615;
}
