use Rattle.std.proofs.Common.{◌≡◌, ℕ, List, subst, sym}
use Rattle.flat_drive.specs.flat_parts.Instances.{HaveOwnPaths, AreDeclaredIn}
use Rattle.vlog_tree.specs.Tree.{FileOf}
use Rattle.vlog_tree.specs.Plain.{plain}
use Rattle.flat_drive.specs.vlog_size.Table.{Named}
use Rattle.flat_drive.specs.vlog_names.Entries.{Names, modules_of}
use Rattle.flat_drive.specs.vlog_elab.Instances.{ModuleInstance, instances}
use Rattle.flat_drive.specs.vlog_elab.Plain.{plain_instances}
use Rattle.flat_drivers.specs.Seated.{AreFaultlessInstances}
use Rattle.vlog_design.proofs.Found.{no-consts, no-widths}
use Rattle.vlog_design.proofs.whole.designed.Goals as goal

declared-in : (file : FileOf ℕ) (top : List ℕ) (modules : List (Named Names)) (is : List ModuleInstance) → modules ≡ modules_of file
    → is ≡ instances file top → AreDeclaredIn (modules_of file) (instances file top) → AreDeclaredIn modules is
declared-in file top modules is m l h =
    subst (λ ms. AreDeclaredIn ms is) (sym m) (subst (AreDeclaredIn (modules_of file)) (sym l) h)

pub checked_code-requires-clause-paths : goal.checked_code-requires-clause-paths
checked_code-requires-clause-paths c = subst HaveOwnPaths (sym c.requires.listed)
    (c.instances_are_paths.ensures.differ (plain c.args.file.now) c.args.top.now c.requires.clear)

pub checked_code-requires-clause-names : goal.checked_code-requires-clause-names
checked_code-requires-clause-names c =
    declared-in (plain c.args.file.now) c.args.top.now c.args.modules.now (plain_instances c.args.list.now) c.requires.modules
    c.requires.listed (c.instances_are_declared.ensures (plain c.args.file.now) c.args.top.now)

pub design_of-requires-clause-names : goal.design_of-requires-clause-names
design_of-requires-clause-names c =
    declared-in (plain c.args.file.now) c.args.top.now c.args.modules.now (plain_instances c.args.list.now) c.requires.modules
    c.requires.listed (c.instances_are_declared.ensures (plain c.args.file.now) c.args.top.now)

pub checked_code-requires-clause-faultless : goal.checked_code-requires-clause-faultless
checked_code-requires-clause-faultless c = subst AreFaultlessInstances (sym c.requires.listed)
    (c.instances_are_faultless.ensures (plain c.args.file.now) c.args.top.now
    (no-consts (plain c.args.file.now) c.args.top.now c.requires.clear)
    (no-widths (plain c.args.file.now) c.args.top.now c.requires.clear))
