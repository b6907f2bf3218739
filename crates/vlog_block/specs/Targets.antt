-- *Targets*: what an assignment to a target of the trees changes (IEEE 1364-2005, 5.2 and 9.2; this project's profile), as a list of
-- updates from the target's first part to its last. v has the numbers at which indexes are read.
use Rattle.std.specs.Prelude.{ℕ, ◌/◌, ◌^◌, List, [], ◌++◌, Option, None, Some}
use Rattle.vlog_tree.specs.Tree.{RefOf, RefWith, IndexOf, NoIndex, Index, LastOf, NoLast, Last, IndexSel}
use Rattle.vlog_tree.specs.Tree.{TargetOf, RefTarget, ConcatTarget, TargetsOf, NoTargets, MoreTargets}
use Rattle.vlog_size.specs.Names.{Readable}
use Rattle.vlog_size.specs.Size.{sizes_of_target, sizes_of_targets, total_width, const_width}
use Rattle.net_design.specs.declared.rhs.Room.{Room}
use Rattle.net_design.specs.declared.values.Values.{Values}
use Rattle.net_design.specs.declared.values.Target as design
use Rattle.net_design.specs.declared.values.Target.TheVariants as designs
use Rattle.net_design.specs.declared.values.Update.{Update}
use Rattle.net_design.specs.Updates.{part_updates, word_updates}
use Rattle.vlog_block.specs.declared.source.Source.{Source}
use Rattle.vlog_block.specs.declared.source.Source.TheVariants.{Constant, Net, Memory, Nothing}
use Rattle.vlog_block.specs.Sources.{source_of}
use Rattle.vlog_block.specs.Value.{picked, first_index, lowest}

-- the width of a target (5.4.1)
abbrev pub target_width : Readable → TargetOf ℕ → ℕ
target_width r t = (sizes_of_target r t).width

abbrev pub targets_width : Readable → TargetsOf ℕ → ℕ
targets_width r ts = total_width (sizes_of_targets r ts)

-- how many bits of the number a memory takes whose index stands in a lone bracket
abbrev pub lone_taken : Readable → LastOf ℕ → ℕ → ℕ
lone_taken r (Last (IndexSel i)) n = n
lone_taken r last n = picked r last n

-- how many bits of the number a name with its brackets takes
abbrev pub taken : Readable → Source → IndexOf ℕ → LastOf ℕ → ℕ
taken r (Constant c) index last = const_width c
taken r (Net span) index last = picked r last span.width
taken r (Memory room n) (Index i) last = picked r last n
taken r (Memory room n) NoIndex last = lone_taken r last n
taken r Nothing index last = 0

-- ---- one name with its brackets gets the number x

-- a vector of n bits, or what the last bracket picks of it from the place `low` on: bits past its end aren't written (5.2.1)
abbrev pub vector_updates : Readable → ℕ → LastOf ℕ → Option ℕ → ℕ → design.Target → List Update
vector_updates r n last None x to = part_updates to 0 n 0 n x
vector_updates r n last (Some low) x to = part_updates to 0 n low (picked r last n) x

-- a memory's word of n bits, whose index stands in a lone bracket; a word that isn't there isn't written (5.2.2)
abbrev pub lone_updates : Readable → Room → ℕ → LastOf ℕ → Option ℕ → ℕ → List Update
lone_updates r room n (Last (IndexSel i)) (Some k) x = word_updates room k (vector_updates r n NoLast None x)
lone_updates r room n _ _ x = []

-- a net; a memory's word, whose index stands in the first of two brackets, or in a lone one. Nothing else can be written.
abbrev pub source_updates : Readable → Source → Option ℕ → LastOf ℕ → Option ℕ → ℕ → List Update
source_updates r (Net span) index last low x = vector_updates r span.width last low x (designs.Net span.net)
source_updates r (Memory room n) (Some i) last low x = word_updates room i (vector_updates r n last low x)
source_updates r (Memory room n) None last low x = lone_updates r room n last low x
source_updates r (Constant c) index last low x = []
source_updates r Nothing index last low x = []

abbrev pub ref_updates : Readable → Values → RefOf ℕ → ℕ → List Update
ref_updates r v (RefWith id index last) x = source_updates r (source_of r id.name) (first_index r v index) last (lowest r v last) x

-- ---- a target gets the number x, of whose bits the first part takes the highest

abbrev mutual
  pub target_updates : Readable → Values → TargetOf ℕ → ℕ → List Update
  target_updates r v (RefTarget ref) x = ref_updates r v ref x
  target_updates r v (ConcatTarget line ts) x = targets_updates r v ts x

  pub targets_updates : Readable → Values → TargetsOf ℕ → ℕ → List Update
  targets_updates r v NoTargets x = []
  targets_updates r v (MoreTargets t ts) x = target_updates r v t (x / 2 ^ targets_width r ts) ++ targets_updates r v ts x
