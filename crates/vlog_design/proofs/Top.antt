-- The top of a file whose instances there are.
use Rattle.std.proofs.Common.{◌≡◌, ◌≤◌, ◌+◌, ℕ, suc, Bool, true, false, if◌then◌else◌, List, [], ◌∷◌, length, map, Some, slice_get}
use Rattle.std.proofs.Common.{refl, ap, ◌∙◌, is_none, bytes_eq, arith}
use Rattle.std.specs.List.{flat_map}
use Rattle.vlog_tree.specs.Tree.{ModuleOf, FileOf}
use Rattle.net_order.proofs.vidi_bits_lemmas.FindingLaws.{told_none}
use Rattle.net_order.proofs.vidi_bits_lemmas.Lists.{nil_left, nil_right}
use Rattle.flat_drive.specs.vlog_size.Table.{value_of}
use Rattle.flat_drive.specs.vlog_names.declared.error.NameError.TheVariants as e
use Rattle.flat_drive.specs.vlog_names.Entries.{declared, module_entry, modules_of}
use Rattle.flat_drive.specs.vlog_names.Twice.{twice_names}
use Rattle.flat_drive.specs.vlog_names.Unknown.{unknown_module, unknown_top, unknown_names}
use Rattle.flat_drive.specs.vlog_hierarchy.Outlines.{place_from}
use Rattle.flat_clock.proofs.flat_parts_lemmas.Found.{no_names}
use Rattle.flat_drive.specs.vlog_elab.Scope.{scope_with}
use Rattle.flat_drive.specs.vlog_elab.Instances.{ModuleInstance, instances}
use Rattle.flat_drive.specs.vlog_elab.Reasons as elab
use Rattle.net_design.specs.declared.design.Port.{Port}
use Rattle.flat_drive.specs.flat_parts.Nets.{flat_ports}
use Rattle.flat_drive.specs.flat_parts.Laws.{IsTop, FirstIsTop}
use Rattle.vlog_design.specs.Parts.{FirstPorts, HasTop}

-- a module of this name stands in the list, which begins at place k
abbrev AtName : List (ModuleOf ℕ) → ℕ → List ℕ → Type 0
AtName ms k name = (j : ℕ) × (m : ModuleOf ℕ) × (place_from k ms name ≡ Some (k + j)) × (slice_get ms j ≡ Some m)

at-head : (m : ModuleOf ℕ) (ms : List (ModuleOf ℕ)) (k : ℕ) (name : List ℕ) → bytes_eq name m.name ≡ true → AtName (m ∷ ms) k name
at-head m ms k name same =
    (0, m, (ap (λ b. if b then Some k else place_from (k + 1) ms name) same ∙ ap Some (omega arith)), refl)

behind-head : (m : ModuleOf ℕ) (ms : List (ModuleOf ℕ)) (k : ℕ) (name : List ℕ) → bytes_eq name m.name ≡ false
    → AtName ms (k + 1) name → AtName (m ∷ ms) k name
behind-head m ms k name other (j, x, found, at) =
    (suc j, x, (ap (λ b. if b then Some k else place_from (k + 1) ms name) other ∙ found ∙ ap Some (omega arith)), at)

either-name : (b : Bool) (m : ModuleOf ℕ) (ms : List (ModuleOf ℕ)) (k : ℕ) (name : List ℕ) → bytes_eq name m.name ≡ b
    → is_none (if b then Some (declared m) else value_of (map module_entry ms) name) ≡ false
    → (is_none (value_of (map module_entry ms) name) ≡ false → AtName ms (k + 1) name) → AtName (m ∷ ms) k name
either-name true m ms k name same there rest = at-head m ms k name same
either-name false m ms k name same there rest = behind-head m ms k name same (rest there)

at-name : (ms : List (ModuleOf ℕ)) (k : ℕ) (name : List ℕ) → is_none (value_of (map module_entry ms) name) ≡ false → AtName ms k name
at-name [] k name there = absurd (cc)
at-name (m ∷ ms) k name there = either-name (bytes_eq name m.name) m ms k name refl there (at-name ms (k + 1) name)

top-at : (file : FileOf ℕ) (name : List ℕ) → AtName file.modules 0 name → HasTop file name
top-at file name (j, m, found, at) = (m, (j, (found ∙ ap Some (omega arith)), at))

pub has-top : (file : FileOf ℕ) (name : List ℕ) → elab.Clear file name → HasTop file name
unfolding unknown_names modules_of
has-top file name clear =
    let unknown = nil_right (twice_names file) (unknown_names file name) (no_names file name clear) in
    let known : is_none (value_of (modules_of file) name) ≡ false = told_none (is_none (value_of (modules_of file) name)) (e.Unknown name)
    (nil_left (unknown_top (modules_of file) name) (flat_map (unknown_module (modules_of file)) file.modules) unknown) in
    top-at file name (at-name file.modules 0 name known)

pub some-instance : FirstIsTop → (file : FileOf ℕ) (name : List ℕ) → elab.Clear file name → 1 ≤ length (instances file name)
some-instance first-is file name clear =
    let top = has-top file name clear in
    let first = first-is file name top.0 clear top.1 in
    rw first.2 (omega arith)

head-ports : (i j : ModuleInstance) (is js : List ModuleInstance) (ports : List Port) → i ∷ is ≡ j ∷ js → FirstPorts (i ∷ is) ports
    → ports ≡ flat_ports j.tree j.scope
head-ports i j is js ports e first =
    let same : i ≡ j = cc in
    first ∙ ap (λ (x : ModuleInstance). flat_ports x.tree x.scope) same

pub top-ports : FirstIsTop → (file : FileOf ℕ) (name : List ℕ) (m : ModuleOf ℕ) (is : List ModuleInstance) (ports : List Port)
    → elab.Clear file name → IsTop file name m → is ≡ instances file name → FirstPorts is ports
    → ports ≡ flat_ports m (scope_with [] m)
top-ports first-is file name m [] ports clear is-top e first = absurd first
top-ports first-is file name m (i ∷ rest) ports clear is-top e first =
    let f = first-is file name m clear is-top in
    head-ports i (record { path = []; place = f.0; tree = m; scope = scope_with [] m }) rest f.1 ports (e ∙ f.2) first
