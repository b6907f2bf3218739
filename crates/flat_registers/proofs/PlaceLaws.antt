-- The regs of instances, as tables of names tell them.
use Rattle.std.proofs.Common.{◌≡◌, ℕ, ◌+◌, ◌++◌, List, [], ◌∷◌, length, drop, slice_get, Some, refl, ap, ◌∙◌, arith}
use Rattle.std.specs.List.{flat_map}
use Rattle.flat_parts.specs.vidi_bits.Findings.{told_if}
use Rattle.vlog_tree.specs.Tree.{ModuleOf}
use Rattle.flat_parts.specs.vlog_size.declared.scope.ScopeNet.{ScopeNet}
use Rattle.flat_parts.specs.vlog_size.declared.scope.Scope.{Scope}
use Rattle.flat_parts.specs.vlog_size.Size.{or_zero}
use Rattle.flat_parts.specs.vlog_size.Table.{Named, value_of}
use Rattle.flat_parts.specs.vlog_scope.Scope.{words_of}
use Rattle.flat_parts.specs.vlog_names.Entries.{Names, declared}
use Rattle.flat_parts.specs.vlog_names.Ports.{is_reg}
use Rattle.flat_parts.specs.vlog_driver.Next.{initials}
use Rattle.flat_parts.specs.vlog_elab.Instances.{ModuleInstance}
use Rattle.flat_parts.specs.Seats.{seats_from, seats_of}
use Rattle.flat_parts.specs.State.{regs_from, seat_regs, all_regs}
use Rattle.flat_registers.specs.Tables.{with_entries}
use Rattle.flat_registers.specs.Places.{told_reg, told_regs, regs_of}
use Rattle.flat_registers.proofs.Tables.{value_in}
use Rattle.flat_registers.proofs.Steps.{drop_split}

told_by : (m : ModuleOf ℕ) (s : Scope) (net : ℕ) (ns : List (Named ScopeNet))
    → told_regs (declared m) (with_entries [] (initials m s)) net ns ≡ regs_from m s net ns
told_by m s net [] = refl
told_by m s net (n ∷ ns) =
    let more = told_regs (declared m) (with_entries [] (initials m s)) (net + 1) ns in
    ap (λ o. told_if (is_reg (value_of (declared m) n.name)) (record { net = net; width = n.value.width; initial = or_zero o }) ++ more)
    (value_in (initials m s) n.name)
    ∙ ap (λ z. told_if (is_reg (value_of (declared m) n.name))
    (record { net = net; width = n.value.width; initial = or_zero (value_of (initials m s) n.name) }) ++ z) (told_by m s (net + 1) ns)

pub told_alike : (m : ModuleOf ℕ) (s : Scope) (names : Names) (numbers : List (Named ℕ)) (net : ℕ) (ns : List (Named ScopeNet))
    → names ≡ declared m → numbers ≡ with_entries [] (initials m s)
    → told_regs names numbers net ns ≡ regs_from m s net ns
told_alike m s names numbers net ns is are =
    ap (λ z. told_regs z numbers net ns) is ∙ ap (λ z. told_regs (declared m) z net ns) are ∙ told_by m s net ns

pub told_split : (names : Names) (numbers : List (Named ℕ)) (first : ℕ) (nets : List (Named ScopeNet)) (j : ℕ) (n : Named ScopeNet)
    → slice_get nets j ≡ Some n → told_regs names numbers (first + j) (drop j nets)
    ≡ told_reg names numbers (first + j) n ++ told_regs names numbers (first + (j + 1)) (drop (j + 1) nets)
told_split names numbers first nets j n h =
    let e : (first + j) + 1 ≡ first + (j + 1) = omega arith in
    ap (told_regs names numbers (first + j)) (drop_split nets j n h)
    ∙ ap (λ i. told_reg names numbers (first + j) n ++ told_regs names numbers i (drop (j + 1) nets)) e

regs_by : (number net word : ℕ) (is : List ModuleInstance) → flat_map seat_regs (seats_from number net word is) ≡ regs_of net is
regs_by number net word [] = refl
regs_by number net word (i ∷ is) =
    ap (λ z. regs_from i.tree i.scope net i.scope.nets ++ z)
    (regs_by (number + 1) (net + length i.scope.nets) (word + words_of i.scope.memories) is)

pub regs_of_seats : (is : List ModuleInstance) → all_regs (seats_of is) ≡ regs_of 0 is
unfolding all_regs seats_of
regs_of_seats is = regs_by 0 0 0 is
