-- The port of the clock.
use Rattle.std.proofs.Common.{◌≡◌, ℕ, ◌↔◌, List, [], map, refl, sym, ap, ◌∙◌, Option, None, Some, slice_get}
use Rattle.vlog_tree.specs.Tree.{PortOf, ModuleOf, FileOf}
use Rattle.flat_parts.specs.vlog_elab.Scope.{scope_with}
use Rattle.net_design.specs.declared.design.Port.{Port}
use Rattle.flat_parts.specs.vlog_elab.Instances.{ModuleInstance, instances}
use Rattle.flat_parts.specs.vlog_elab.Clock.{clock_inputs}
use Rattle.flat_parts.specs.vlog_elab.Reasons.{Clear}
use Rattle.flat_parts.specs.vlog_driver.Names.{Name}
use Rattle.flat_parts.specs.Nets.{flat_ports}
use Rattle.flat_parts.specs.Built.{IsClockPort}
use Rattle.flat_parts.specs.Laws.{IsTop}
use Rattle.flat_parts.proofs.Lists.{in_got}
use Rattle.flat_parts.proofs.Found.{names_apart}
use Rattle.flat_parts.proofs.Listed.{first_is_top}
use Rattle.flat_clock.specs.Clock.{joined_input, name_at, port_named, place_in, clock_name, ClockIsPort}
use Rattle.flat_clock.proofs.Inputs.{flat_names, place_of_name, name_of_place}
use Rattle.flat_clock.proofs.Named.{clock_is_input}

name_placed : (ports : List (PortOf ℕ)) (o : Option Name) (k : ℕ) → port_named ports o ≡ Some k
    → (x : Name) × (o ≡ Some x) × (port_named ports (Some x) ≡ Some k)
name_placed ports None k h = absurd (cc)
name_placed ports (Some x) k h = (x, refl, h)

-- a name among the ports of the top, as the ports of the design have it
same_place : (top : ModuleOf ℕ) (k : ℕ)
    → slice_get (map (λ (p : Port). p.name) (flat_ports top (scope_with [] top))) k
    ≡ slice_get (map (λ (p : PortOf ℕ). p.id.name) top.ports) k
same_place top k = ap (λ (names : List Name). slice_get names k) (flat_names top (scope_with [] top))

port_of_place : (file : FileOf ℕ) (name : List ℕ) (top : ModuleOf ℕ) → Clear file name → IsTop file name top → (k : ℕ)
    → port_named top.ports (clock_name file name (clock_inputs (instances file name))) ≡ Some k
    → IsClockPort file.modules top (flat_ports top (scope_with [] top)) k
port_of_place file name top clear is_top k h =
    let r = name_placed top.ports (clock_name file name (clock_inputs (instances file name))) k h in
    (r.0, same_place top k ∙ name_of_place top r.0 k r.2, (clock_is_input file name top clear is_top r.0).0 r.1)

place_of_port : (file : FileOf ℕ) (name : List ℕ) (top : ModuleOf ℕ) → Clear file name → IsTop file name top → (k : ℕ)
    → IsClockPort file.modules top (flat_ports top (scope_with [] top)) k
    → port_named top.ports (clock_name file name (clock_inputs (instances file name))) ≡ Some k
place_of_port file name top clear (j, found, at) k (x, named, clock) =
    ap (port_named top.ports) ((clock_is_input file name top clear (j, found, at) x).1 clock)
    ∙ place_of_name top x k (names_apart file name clear top (in_got file.modules j top at)) (sym (same_place top k) ∙ named)

pub clock_is_port : ClockIsPort
clock_is_port file name top clear is_top k =
    (λ h. port_of_place file name top clear is_top k h, λ h. place_of_port file name top clear is_top k h)

-- what the code makes of the instances is that place
pub placed_clock : (file : FileOf ℕ) (name : List ℕ) (is : List ModuleInstance) (inputs : List Name) (port : Option ℕ) (place : Option ℕ)
    → Clear file name → is ≡ instances file name → inputs ≡ clock_inputs is → port ≡ joined_input file name inputs
    → place ≡ place_in is (name_at inputs port) → (top : ModuleOf ℕ) → IsTop file name top → (k : ℕ)
    → (place ≡ Some k) ↔ IsClockPort file.modules top (flat_ports top (scope_with [] top)) k
placed_clock file name is inputs port place clear all own joined found top is_top k =
    let law = clock_is_port file name top clear is_top k in
    let same : place ≡ port_named top.ports (clock_name file name (clock_inputs (instances file name))) =
    found
    ∙ (ap (λ (o : Option ℕ). place_in is (name_at inputs o)) joined
    ∙ (ap (λ (ns : List Name). place_in is (clock_name file name ns)) (own ∙ ap clock_inputs all)
    ∙ (ap (λ (xs : List ModuleInstance). place_in xs (clock_name file name (clock_inputs (instances file name)))) all
    ∙ ap (λ (xs : List ModuleInstance). place_in xs (clock_name file name (clock_inputs (instances file name))))
    (first_is_top file name top clear is_top).2))) in
    (λ h. law.0 (sym same ∙ h), λ h. same ∙ law.1 h)
