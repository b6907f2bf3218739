-- The clock of a file and its top: the input of one bit to which the names of all clocked blocks are joined (this project's profile), and
-- its place among the ports of the top.
use Rattle.std.specs.Prelude.{◌≡◌, ℕ, ◌↔◌, List, [], ◌∷◌, position, Option, None, Some, slice_get}
use Rattle.std.specs.Str.{bytes_eq}
use Rattle.vlog_tree.specs.Tree.{PortOf, ModuleOf, FileOf}
use Rattle.flat_parts.specs.vlog_hierarchy.Outlines.{place_of, outlines_of}
use Rattle.flat_parts.specs.vlog_hierarchy.Clock.{scopes_of, clock_ports, first_port}
use Rattle.flat_parts.specs.vlog_elab.Scope.{scope_with}
use Rattle.flat_parts.specs.vlog_elab.Instances.{ModuleInstance, instances}
use Rattle.flat_parts.specs.vlog_elab.Clock.{clock_inputs}
use Rattle.flat_parts.specs.vlog_elab.Reasons.{Clear}
use Rattle.flat_parts.specs.vlog_driver.Names.{Name}
use Rattle.flat_parts.specs.vlog_driver.Settled.{IsClock}
use Rattle.flat_parts.specs.Nets.{flat_ports}
use Rattle.flat_parts.specs.Built.{IsClockPort}
use Rattle.flat_parts.specs.Laws.{IsTop}

-- the place among these 1-bit inputs of the one to which the name of the first clocked block is joined
abbrev pub joined_input : FileOf ℕ → List ℕ → List Name → Option ℕ
joined_input file name inputs =
    first_port (clock_ports file.modules (scopes_of (outlines_of file.modules) inputs (place_of file.modules name)))

-- the name at a place
abbrev pub name_at : List Name → Option ℕ → Option Name
name_at names None = None
name_at names (Some k) = slice_get names k

-- the place of the first port of this name
abbrev pub port_named : List (PortOf ℕ) → Option Name → Option ℕ
port_named ports None = None
port_named ports (Some x) = position (λ (p : PortOf ℕ). bytes_eq x p.id.name) ports

-- the same of the top, which is the first instance
abbrev pub place_in : List ModuleInstance → Option Name → Option ℕ
place_in [] name = None
place_in (i ∷ is) name = port_named i.tree.ports name

-- the name of the clock, among these 1-bit inputs
abbrev pub clock_name : FileOf ℕ → List ℕ → List Name → Option Name
clock_name file name inputs = name_at inputs (joined_input file name inputs)

-- where no reason holds, the one clock is that input
abbrev pub ClockIsInput : Type 0
ClockIsInput = (file : FileOf ℕ) (name : List ℕ) (top : ModuleOf ℕ) → Clear file name → IsTop file name top
    → (x : Name) → (clock_name file name (clock_inputs (instances file name)) ≡ Some x) ↔ IsClock file.modules top x

-- and its port is the one of that name
abbrev pub ClockIsPort : Type 0
ClockIsPort = (file : FileOf ℕ) (name : List ℕ) (top : ModuleOf ℕ) → Clear file name → IsTop file name top → (k : ℕ)
    → (port_named top.ports (clock_name file name (clock_inputs (instances file name))) ≡ Some k)
    ↔ IsClockPort file.modules top (flat_ports top (scope_with [] top)) k
