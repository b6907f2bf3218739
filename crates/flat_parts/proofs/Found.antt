-- What holds where no reason against a file and its top does.
use Rattle.std.proofs.Common.{◌≡◌, ℕ, ◌≤◌, nat_lt, false, List, [], ◌++◌, map, length, ap, arith}
use Rattle.std.proofs.lemmas.List.{length-map}
use Rattle.std.proofs.lemmas.List.Elements.{All-contains, All-from_recursion}
use Rattle.std.specs.List.{Contains}
use Rattle.vlog_elab.proofs.vidi_bits_lemmas.FindingLaws.{told_none}
use Rattle.vlog_elab.proofs.vidi_bits_lemmas.Lists.{nil_left, none_mapped}
use Rattle.vlog_tree.specs.Tree.{ModuleOf, FileOf}
use Rattle.vlog_elab.specs.vlog_names.Entries.{module_entry, modules_of, declared}
use Rattle.vlog_elab.specs.vlog_names.Different.{Differ}
use Rattle.vlog_elab.specs.vlog_names.Twice.{twice_names}
use Rattle.vlog_elab.specs.vlog_names.Unknown.{unknown_names}
use Rattle.vlog_elab.proofs.vlog_names_lemmas.Different.{modules_differ, names_differ}
use Rattle.vlog_elab.specs.vlog_hierarchy.declared.error.HierarchyError.TheVariants as e
use Rattle.vlog_elab.specs.vlog_hierarchy.declared.error.HierarchyLimit.TheVariants.{Instances}
use Rattle.vlog_elab.specs.vlog_hierarchy.Outlines.{place_of, outlines_of}
use Rattle.vlog_elab.specs.vlog_hierarchy.Nodes.{Node, nodes_of, count_faults, net_faults, size_faults}
use Rattle.vlog_elab.specs.Errors.{of_name, of_hierarchy}
use Rattle.vlog_elab.specs.Instances.{instances, node_of}
use Rattle.vlog_elab.specs.Reasons.{Clear, name_findings, kind_findings, text_findings, hierarchy_findings, late_findings, size_findings}
use Rattle.vlog_elab.proofs.Same.{same_nodes}
use Rattle.vlog_elab.specs.vlog_hierarchy.declared.nodes.TheConstants.{MOST_INSTANCES}

-- E3 finds nothing, and E4 neither
pub no_names : (file : FileOf ℕ) (name : List ℕ) → Clear file name → twice_names file ++ unknown_names file name ≡ []
unfolding text_findings name_findings
no_names file name clear =
    none_mapped of_name (twice_names file ++ unknown_names file name)
    (nil_left (map of_name (twice_names file ++ unknown_names file name)) (kind_findings file) clear.0)

pub no_twice : (file : FileOf ℕ) (name : List ℕ) → Clear file name → twice_names file ≡ []
no_twice file name clear = nil_left (twice_names file) (unknown_names file name) (no_names file name clear)

pub modules_apart : (file : FileOf ℕ) (name : List ℕ) → Clear file name → Differ (map module_entry file.modules)
unfolding modules_of
modules_apart file name clear = modules_differ file (no_twice file name clear)

pub names_apart : (file : FileOf ℕ) (name : List ℕ) → Clear file name → (m : ModuleOf ℕ) → Contains file.modules m → Differ (declared m)
names_apart file name clear m listed =
    All-contains (λ (x : ModuleOf ℕ). Differ (declared x)) file.modules m
    (All-from_recursion (λ (x : ModuleOf ℕ). Differ (declared x)) file.modules (names_differ file (no_twice file name clear))) listed

few_nodes : (file : FileOf ℕ) (name : List ℕ) → Clear file name
    → count_faults (nodes_of (outlines_of file.modules) (place_of file.modules name)) ≡ []
unfolding size_findings hierarchy_findings
few_nodes file name clear =
    let ns : List Node = nodes_of (outlines_of file.modules) (place_of file.modules name) in
    let os = outlines_of file.modules in
    nil_left (count_faults ns) (net_faults os ns)
    (none_mapped of_hierarchy (size_faults os ns)
    (nil_left (map of_hierarchy (size_faults os ns)) (late_findings file name (instances file name)) clear.1.1))

not_below : (a b : ℕ) → nat_lt a b ≡ false → b ≤ a
not_below a b h = grind (arith, h)

-- E12: there are at most 4,096 instances
pub few : (file : FileOf ℕ) (name : List ℕ) → Clear file name → length (instances file name) ≤ MOST_INSTANCES
few file name clear =
    let ns : List Node = nodes_of (outlines_of file.modules) (place_of file.modules name) in
    let small : length ns ≤ MOST_INSTANCES =
    not_below MOST_INSTANCES (length ns) (told_none (nat_lt MOST_INSTANCES (length ns)) (e.TooBig Instances) (few_nodes file name clear)) in
    let same : length (map node_of (instances file name)) ≡ length ns = ap (λ (xs : List Node). length xs) (same_nodes file name) in
    omega (arith, small, same, length-map (instances file name) node_of)
