-- Why a design text with a top is refused, in the order in which the reasons are tried (this project's profile): each reason as the list
-- of all its findings, in the order in which they are answered.
use Rattle.std.specs.Prelude.{◌≡◌, ◌⊎◌, ℕ, nat_lt, List, [], ◌++◌, map, length, slice_get, None, Some}
use Rattle.std.specs.List.{flat_map, sum_by}
use Rattle.vlog_hierarchy.specs.vidi_bits.Findings.{told_if}
use Rattle.vlog_tree.specs.Tree.{ModuleOf, FileOf}
use Rattle.vlog_names.specs.Twice.{twice_names}
use Rattle.vlog_names.specs.Unknown.{unknown_names}
use Rattle.vlog_names.specs.Uses.{wrong_uses}
use Rattle.vlog_hierarchy.specs.Outlines.{Outline, place_of, outlines_of}
use Rattle.vlog_hierarchy.specs.Nested.{IsNestedAnswer}
use Rattle.vlog_hierarchy.specs.Nodes.{Node, nodes_of, size_faults}
use Rattle.vlog_hierarchy.specs.Clock.{scopes_of, clock_faults}
use Rattle.vlog_scope.specs.Scope.{words_of}
use Rattle.vlog_scope.specs.Faults.{const_faults, width_faults}
use Rattle.vlog_elab.specs.declared.error.Big.TheVariants.{Words}
use Rattle.vlog_elab.specs.declared.error.ElabError.{ElabError}
use Rattle.vlog_elab.specs.declared.error.ElabError.TheVariants as e
use Rattle.vlog_elab.specs.Errors.{of_name, of_line, of_hierarchy, of_size}
use Rattle.vlog_elab.specs.Instances.{ModuleInstance, instances}
use Rattle.vlog_elab.specs.Clock.{clock_inputs}
use Rattle.vlog_hierarchy.specs.vidi_bits.Findings.{IsFirst}
use Rattle.vlog_elab.specs.Told.{elab_told}

-- ---- over the file

-- E3, then E4 of the top, then E4 of the file
unfoldable pub name_findings : FileOf ℕ → List ℕ → List ElabError
name_findings file top = map of_name (twice_names file ++ unknown_names file top)

-- E7
unfoldable pub kind_findings : FileOf ℕ → List ElabError
kind_findings file = map of_line (wrong_uses file)

-- E3, E4 and E7
unfoldable pub text_findings : FileOf ℕ → List ℕ → List ElabError
text_findings file top = name_findings file top ++ kind_findings file

-- ---- over the modules that are the top or below it

-- E11: the name is that of the first module in the file that is the top, or is instantiated anywhere below it, and contains itself
abbrev pub IsNestedName : FileOf ℕ → List ℕ → List ℕ → Type 0
IsNestedName file top name = (k : ℕ) × (IsNestedAnswer (outlines_of file.modules) (place_of file.modules top) (Some k)
    × (slice_get (map (λ (m : ModuleOf ℕ). m.name) file.modules) k ≡ Some name))

-- no module is at fault
abbrev pub IsNotNested : FileOf ℕ → List ℕ → Type 0
IsNotNested file top = IsNestedAnswer (outlines_of file.modules) (place_of file.modules top) None

-- want of memory is free
abbrev pub NestedFinding : FileOf ℕ → List ℕ → ElabError → Type 0
NestedFinding file top (e.Nested name) = IsNestedName file top name
NestedFinding file top e.Memory = Unit {0}
NestedFinding file top error = ⊥

-- ---- over the instances

-- E12: more than 4,096 instances, then more than 65,536 nets
abbrev pub node_findings : List Outline → List Node → List ElabError
node_findings os ns = map of_hierarchy (size_faults os ns)

unfoldable pub hierarchy_findings : FileOf ℕ → List ℕ → List ElabError
hierarchy_findings file top =
    node_findings (outlines_of file.modules) (nodes_of (outlines_of file.modules) (place_of file.modules top))

-- E5 of an instance
unfoldable pub instance_consts : ModuleInstance → List ElabError
instance_consts i = map of_size (const_faults i.tree i.scope)

-- E6 of an instance
unfoldable pub instance_widths : ModuleInstance → List ElabError
instance_widths i = map of_size (width_faults i.tree i.scope)

-- the number of words of the memories of these instances
abbrev pub word_total : List ModuleInstance → ℕ
word_total is = sum_by (λ (i : ModuleInstance). words_of i.scope.memories) is

-- E12: more than 1,048,576 words
unfoldable pub word_findings : List ModuleInstance → List ElabError
word_findings is = told_if (nat_lt 1048576 (word_total is)) (e.TooBig Words)

-- E5 of all instances, then E6 of all instances, then E12 of their words
unfoldable pub instance_findings : List ModuleInstance → List ElabError
instance_findings is = flat_map instance_consts is ++ (flat_map instance_widths is ++ word_findings is)

-- E13, where the top has these input ports of one bit
abbrev pub clock_faults_of : FileOf ℕ → List ℕ → List (List ℕ) → List ElabError
clock_faults_of file top inputs = map of_hierarchy
    (clock_faults file.modules (length inputs) (scopes_of (outlines_of file.modules) inputs (place_of file.modules top)))

-- E13, where these are the instances
unfoldable pub clock_findings : FileOf ℕ → List ℕ → List ModuleInstance → List ElabError
clock_findings file top is = clock_faults_of file top (clock_inputs is)

-- E5, E6, E12 of words and E13, where these are the instances
unfoldable pub late_findings : FileOf ℕ → List ℕ → List ModuleInstance → List ElabError
late_findings file top is = instance_findings is ++ clock_findings file top is

-- E12 of instances and nets, E5, E6, E12 of words and E13
unfoldable pub size_findings : FileOf ℕ → List ℕ → List ElabError
size_findings file top = hierarchy_findings file top ++ late_findings file top (instances file top)

-- ---- all reasons

-- a reason of this stage; or there is none in it, and it is a reason of a later one
abbrev pub Then : (ElabError → Type 0) → Type 0 → (ElabError → Type 0) → ElabError → Type 0
Then here clear later error = here error ⊎ (clear × later error)

-- E11, then the findings over the instances
abbrev pub RefusedLater : FileOf ℕ → List ℕ → ElabError → Type 0
RefusedLater file top error = Then (NestedFinding file top) (IsNotNested file top) (IsFirst elab_told (size_findings file top)) error

abbrev pub ClearLater : FileOf ℕ → List ℕ → Type 0
ClearLater file top = IsNotNested file top × (size_findings file top ≡ [])

-- the first reason, in the order E3, E4, E7, E11, E12 of instances and nets, E5, E6, E12 of words, E13
abbrev pub Refused : FileOf ℕ → List ℕ → ElabError → Type 0
Refused file top error = Then (IsFirst elab_told (text_findings file top)) (text_findings file top ≡ []) (RefusedLater file top) error

-- no reason holds
abbrev pub Clear : FileOf ℕ → List ℕ → Type 0
Clear file top = (text_findings file top ≡ []) × ClearLater file top
