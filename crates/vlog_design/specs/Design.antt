-- The flat design of a file and its top.
use Rattle.std.specs.Prelude.{ℕ, List, length}
use Rattle.std.specs.List.{sum_by}
use Rattle.vlog_tree.specs.Tree.{ModuleOf, FileOf}
use Rattle.net_design.specs.declared.design.Counts.{Counts}
use Rattle.net_design.specs.declared.design.Design.{Design}
use Rattle.net_design.specs.Lawful.{IsLawful}
use Rattle.flat_drive.specs.vlog_elab.Instances.{ModuleInstance, instances}
use Rattle.flat_drive.specs.vlog_elab.Reasons.{word_total}
use Rattle.flat_drive.specs.flat_parts.Seats.{Seat, seats_of}
use Rattle.flat_drive.specs.flat_parts.Drivers.{all_duties, all_blocks}
use Rattle.flat_drive.specs.flat_parts.Built.{IsBuilt}
use Rattle.flat_drive.specs.flat_parts.Meaning.{Means}
use Rattle.flat_drive.specs.flat_parts.Laws.{IsTop}

-- a lawful design with the parts of the file's instances, which means what the file means
pub record IsDesignOf (file : FileOf ℕ) (name : List ℕ) (d : Design) : Type 0 where
  pub top : ModuleOf ℕ
  pub named : IsTop file name top
  pub built : IsBuilt file.modules top (instances file name) d
  pub means : Means file.modules top d
  pub lawful : IsLawful d

abbrev pub counts_of : List ModuleInstance → List Seat → Counts
counts_of is xs = record {
  instances = length is;
  nets = sum_by (λ (i : ModuleInstance). length i.scope.nets) is;
  drivers = length (all_duties xs);
  blocks = length (all_blocks xs);
  words = word_total is;
}

-- how much a file with this top has: instances, nets, drivers, clocked blocks and words of memories
unfoldable pub file_counts : FileOf ℕ → List ℕ → Counts
file_counts file top = counts_of (instances file top) (seats_of (instances file top))
