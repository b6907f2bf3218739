-- E8 as a reason against a design text: the net or memory by its full name, the bit, and the number of drivers.
use Rattle.std.specs.Prelude.{ℕ, min, List, [], ◌∷◌, ◌++◌, map, slice_get, Option, None, Some}
use Rattle.std.specs.List.{flat_map}
use Rattle.flat_parts.specs.vlog_size.Table.{Named}
use Rattle.flat_parts.specs.net_drive.declared.findings.Misdriven.{Misdriven}
use Rattle.flat_parts.specs.net_drive.declared.findings.Misdriven.TheVariants as what
use Rattle.net_design.specs.declared.act.Code.{Code}
use Rattle.net_design.specs.declared.design.Driver.{Driver}
use Rattle.flat_parts.specs.net_drive.Drive.{drive_faults}
use Rattle.flat_parts.specs.vlog_elab.declared.error.ElabError.{ElabError}
use Rattle.flat_parts.specs.vlog_elab.declared.error.ElabError.TheVariants as e
use Rattle.flat_parts.specs.vlog_elab.Instances.{ModuleInstance}
use Rattle.flat_parts.specs.vlog_driver.Names.{Name, Full}
use Rattle.flat_parts.specs.Seats.{seats_of}
use Rattle.flat_parts.specs.Nets.{flat_nets, flat_memories}
use Rattle.flat_drive.specs.Kinds.{flat_kinds}

-- ---- full names as text

-- a name in the instance at a path, the names joined by `.`
abbrev pub dotted : Full → Name → List ℕ
dotted [] name = name
dotted (x ∷ path) name = x ++ 46 ∷ dotted path name

-- of a table of the instance at a path
abbrev pub dotted_all : {V : Type 0} → Full → List (Named V) → List (List ℕ)
dotted_all path xs = map (λ x. dotted path x.name) xs

abbrev pub instance_nets : ModuleInstance → List (List ℕ)
instance_nets i = dotted_all i.path i.scope.nets

abbrev pub instance_memories : ModuleInstance → List (List ℕ)
instance_memories i = dotted_all i.path i.scope.memories

-- of the nets of all instances, and of their memories, in the order of the flat design
unfoldable pub net_texts : List ModuleInstance → List (List ℕ)
net_texts is = flat_map instance_nets is

unfoldable pub memory_texts : List ModuleInstance → List (List ℕ)
memory_texts is = flat_map instance_memories is

-- ---- the reason

-- the text at a place; each finding's place has one
abbrev pub or_empty : Option (List ℕ) → List ℕ
or_empty None = []
or_empty (Some text) = text

abbrev pub text_at : List (List ℕ) → ℕ → List ℕ
text_at texts place = or_empty (slice_get texts place)

-- more drivers than a number of 32 bits holds are answered as its largest
abbrev pub drivers_told : ℕ → ℕ
drivers_told n = min n 4294967295

abbrev pub error_of : List ModuleInstance → Misdriven → ElabError
error_of is (what.Net m bit n) = e.Drive (text_at (net_texts is) m) bit (drivers_told n)
error_of is (what.Memory i n) = e.Drive (text_at (memory_texts is) i) 0 (drivers_told n)

-- all findings in the flat design of these instances with these drivers and clocked blocks
unfoldable pub flat_findings : List ModuleInstance → List Driver → List Code → List ElabError
flat_findings is drivers blocks = map (error_of is)
    (drive_faults (flat_nets (seats_of is)) (flat_kinds (seats_of is)) (flat_memories (seats_of is)) drivers blocks)
