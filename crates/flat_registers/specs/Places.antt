-- The regs of the code as plain data, and as tables of names tell them.
use Rattle.std.specs.Prelude.{◌≡◌, ℕ, ◌+◌, List, [], ◌∷◌, ◌++◌, length, map}
use Rattle.flat_parts.specs.vidi_bits.Findings.{told_if}
use Rattle.flat_parts.specs.vlog_size.declared.scope.ScopeNet.{ScopeNet}
use Rattle.flat_parts.specs.vlog_size.Size.{or_zero}
use Rattle.flat_parts.specs.vlog_size.Table.{Named, value_of}
use Rattle.flat_parts.specs.vlog_names.Entries.{Names}
use Rattle.flat_parts.specs.vlog_names.Ports.{is_reg}
use Rattle.flat_parts.specs.vlog_elab.Instances.{ModuleInstance}
use Rattle.flat_parts.specs.vidi_bits.Number.{has}
use Rattle.net_design.specs.declared.design.Driver.{Driver}
use Rattle.flat_parts.specs.State.{RegPlace, regs_from, always_writes_bit}
use Rattle.flat_registers.specs.declared.places.RegNet.{RegNet}

abbrev pub plain_place : RegNet → RegPlace
plain_place r = record { net = r.net; width = r.width; initial = r.initial }

abbrev pub plain_places : List RegNet → List RegPlace
plain_places rs = map plain_place rs

-- the reg that a net of this name and width is, which is this net of the design, where the names are declared so and have these
-- initialisers
abbrev pub reg_named : Names → List (Named ℕ) → List ℕ → ℕ → ℕ → List RegPlace
reg_named names initials name width net =
    told_if (is_reg (value_of names name)) (record { net = net; width = width; initial = or_zero (value_of initials name) })

abbrev pub told_reg : Names → List (Named ℕ) → ℕ → Named ScopeNet → List RegPlace
told_reg names initials net n = reg_named names initials n.name n.value.width net

-- those among nets, the first of which is this net of the design
abbrev pub told_regs : Names → List (Named ℕ) → ℕ → List (Named ScopeNet) → List RegPlace
told_regs names initials net [] = []
told_regs names initials net (n ∷ ns) = told_reg names initials net n ++ told_regs names initials (net + 1) ns

-- the regs of instances, the first net of which is this one
abbrev pub regs_of : ℕ → List ModuleInstance → List RegPlace
regs_of net [] = []
regs_of net (i ∷ is) = regs_from i.tree i.scope net i.scope.nets ++ regs_of (net + length i.scope.nets) is

-- these are the bits of a net that some `always @*` among the drivers may write
abbrev pub IsWrittenAt : List Driver → ℕ → ℕ → Type 0
IsWrittenAt drivers net written = (k : ℕ) → has written k ≡ always_writes_bit drivers net k
