-- Which nets are regs.
use Rattle.std.proofs.Common.{◌≡◌, ℕ, ◌+◌, ◌++◌, Bool, List, [], ◌∷◌, length, map, drop, slice_get, Some, refl, ap}
use Rattle.std.specs.List.{flat_map}
use Rattle.flat_parts.specs.vlog_size.declared.scope.ScopeNet.{ScopeNet}
use Rattle.flat_parts.specs.vlog_size.Table.{Named, value_of}
use Rattle.flat_parts.specs.vlog_scope.Scope.{words_of}
use Rattle.flat_parts.specs.vlog_names.Entries.{Names, declared}
use Rattle.flat_parts.specs.vlog_names.Ports.{is_reg}
use Rattle.flat_parts.specs.vlog_elab.Instances.{ModuleInstance}
use Rattle.flat_parts.specs.Seats.{seats_from, seats_of}
use Rattle.flat_parts.specs.Marks.{instance_marks, seat_marks, reg_marks}
use Rattle.flat_registers.proofs.Steps.{drop_split}

-- whether names that are declared so are regs
abbrev pub marks_in : Names → List (Named ScopeNet) → List Bool
marks_in names nets = map (λ (n : Named ScopeNet). is_reg (value_of names n.name)) nets

pub marks_alike : (i : ModuleInstance) (names : Names) → names ≡ declared i.tree → marks_in names i.scope.nets ≡ instance_marks i
marks_alike i names is = ap (λ z. marks_in z i.scope.nets) is

pub marks_split : (names : Names) (nets : List (Named ScopeNet)) (j : ℕ) (n : Named ScopeNet) → slice_get nets j ≡ Some n
    → marks_in names (drop j nets) ≡ (is_reg (value_of names n.name) ∷ []) ++ marks_in names (drop (j + 1) nets)
marks_split names nets j n h = ap (marks_in names) (drop_split nets j n h)

seats_marks : (number net word : ℕ) (is : List ModuleInstance)
    → flat_map seat_marks (seats_from number net word is) ≡ flat_map instance_marks is
seats_marks number net word [] = refl
seats_marks number net word (i ∷ is) =
    ap (λ z. instance_marks i ++ z) (seats_marks (number + 1) (net + length i.scope.nets) (word + words_of i.scope.memories) is)

pub marks_of_seats : (is : List ModuleInstance) → reg_marks (seats_of is) ≡ flat_map instance_marks is
unfolding reg_marks seats_of
marks_of_seats is = seats_marks 0 0 0 is
