-- The ports in a row, each behind the direction of the one before.
use Rattle.std.proofs.Common.{◌≡◌, ℕ, List, [], ◌∷◌, ◌++◌, ◌≤◌, map, length, drop, refl, sym, ap, ◌∙◌, Option, None, Some}
use Rattle.std.proofs.lemmas.List.{append-nil, drop_all}
use Rattle.vlog_tree.specs.Tree.{PortHeadOf, PortOf}
use Rattle.vlog_tree.specs.declared.module.Direction as head
use Rattle.vlog_tree.specs.declared.module.Direction.TheVariants as heads
use Rattle.vlog_tree.specs.declared.module.Port as code
use Rattle.vlog_tree.specs.Plain.{plain_port}
use Rattle.flat_parts.specs.vlog_size.Table.{value_of}
use Rattle.flat_parts.specs.vlog_size.declared.scope.Scope.{Scope}
use Rattle.flat_parts.specs.vlog_names.declared.declaration.Declaration.{Declaration}
use Rattle.flat_parts.specs.vlog_names.declared.declaration.Declaration.TheVariants as d
use Rattle.flat_parts.specs.vlog_names.declared.declaration.Shape.{Shape}
use Rattle.flat_parts.specs.vlog_names.Entries.{entry, no_port, port_as, port_entries, shape_of}
use Rattle.net_design.specs.declared.design.Port.{Port}
use Rattle.net_design.specs.declared.design.Direction.{Direction}
use Rattle.net_design.specs.declared.design.Direction.TheVariants.{Input}
use Rattle.flat_parts.specs.vlog_driver.Next.{net_width}
use Rattle.flat_parts.specs.Nets.{direction_of, port_of}
use Rattle.flat_layout.specs.Layout.{seen, direction_after}

abbrev pub port_with : Scope → Direction → PortOf ℕ → Port
port_with s direction p = record { name = p.id.name; direction = direction; width = net_width (value_of s.nets p.id.name) }

abbrev pub ports_behind : Scope → Direction → List (PortOf ℕ) → List Port
ports_behind s before [] = []
ports_behind s before (p ∷ ps) =
    port_with s (direction_after before p.head) p ∷ ports_behind s (direction_after before p.head) ps

same_direction : (direction : head.Direction) (shape : Shape) → direction_of (d.Port direction shape) ≡ seen direction
same_direction (heads.Input wire) shape = refl
same_direction (heads.Output kind) shape = refl

direction_as : (before : Declaration) (h : Option (PortHeadOf ℕ))
    → direction_of (port_as before h) ≡ direction_after (direction_of before) h
direction_as before None = refl
direction_as before (Some h) = same_direction h.direction (shape_of h.range)

pub ports_listed : (s : Scope) (before : Declaration) (ps : List (PortOf ℕ))
    → map (port_of s) (port_entries before ps) ≡ ports_behind s (direction_of before) ps
ports_listed s before [] = refl
ports_listed s before (p ∷ ps) =
    ap (λ (l : List Port). port_of s (entry p.id.name (port_as before p.head)) ∷ l) (ports_listed s (port_as before p.head) ps)
    ∙ ap (λ (x : Direction). port_with s x p ∷ ports_behind s x ps) (direction_as before p.head)

pub all_ports : (s : Scope) (ps : List code.Port) (i : ℕ) (direction : Direction) (out : List Port) → length ps ≤ i
    → out ++ ports_behind s direction (map plain_port (drop i ps)) ≡ ports_behind s Input (map plain_port ps)
    → out ≡ map (port_of s) (port_entries no_port (map plain_port ps))
all_ports s ps i direction out past h =
    sym (append-nil out)
    ∙ (ap (λ (l : List code.Port). out ++ ports_behind s direction (map plain_port l)) (sym (drop_all i ps past))
    ∙ (h ∙ sym (ports_listed s no_port (map plain_port ps))))
