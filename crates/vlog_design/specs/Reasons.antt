-- Why a file with a top is refused: the reasons over the text and the instances, and then those over what the items drive (this project's
-- profile).
use Rattle.std.specs.Prelude.{◌≡◌, ℕ, List, [], ◌++◌}
use Rattle.std.specs.List.{flat_map}
use Rattle.vlog_tree.specs.Tree.{FileOf}
use Rattle.flat_drive.specs.vlog_elab.declared.error.ElabError.{ElabError}
use Rattle.flat_drive.specs.vlog_elab.Instances.{ModuleInstance, instances}
use Rattle.net_order.specs.vidi_bits.Findings.{IsFirst}
use Rattle.flat_drive.specs.vlog_elab.Told.{elab_told}
use Rattle.flat_drive.specs.vlog_elab.Reasons as elab
use Rattle.flat_drive.specs.vlog_elab.Reasons.{Then}
use Rattle.flat_drive.specs.flat_parts.Seats.{seats_of}
use Rattle.flat_drivers.specs.Latches.{instance_latches}
use Rattle.flat_drive.specs.Findings.{drive_findings}

-- E9 of all instances, then E8
abbrev pub code_findings_of : List ModuleInstance → List ElabError
code_findings_of is = flat_map instance_latches is ++ drive_findings (seats_of is)

unfoldable pub code_findings : FileOf ℕ → List ℕ → List ElabError
code_findings file top = code_findings_of (instances file top)

-- the first reason, in the order E3, E4, E7, E11, E12 of instances and nets, E5, E6, E12 of words, E13, E9, E8
abbrev pub Refused : FileOf ℕ → List ℕ → ElabError → Type 0
Refused file top error = Then (elab.Refused file top) (elab.Clear file top) (IsFirst elab_told (code_findings file top)) error

-- no reason holds
abbrev pub Clear : FileOf ℕ → List ℕ → Type 0
Clear file top = elab.Clear file top × (code_findings file top ≡ [])
