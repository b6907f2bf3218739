-- Two flat designs of one file.
use Rattle.std.specs.Prelude.{ℕ, List}
use Rattle.vlog_tree.specs.Tree.{ModuleOf}
use Rattle.net_design.specs.declared.design.Design.{Design}
use Rattle.net_design.specs.Lawful.{IsLawful}
use Rattle.vidi_commands.specs.vlog_elab.Instances.{ModuleInstance}
use Rattle.vidi_commands.specs.flat_parts.Built.{IsBuilt}
use Rattle.vidi_commands.specs.run_model.Alike.{AreAlike}

-- lawful designs that have the parts of one file's instances are alike
abbrev pub BuiltAlike : Type 0
BuiltAlike = (file : List (ModuleOf ℕ)) (top : ModuleOf ℕ) (is : List ModuleInstance) (d e : Design) → IsBuilt file top is d
    → IsBuilt file top is e → IsLawful d → IsLawful e → AreAlike d e
