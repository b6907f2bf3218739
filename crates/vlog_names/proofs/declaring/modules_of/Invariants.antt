use Rattle.std.proofs.Common.{◌≡◌, ◌++◌, [], drop, map}
use Rattle.vlog_tree.specs.Plain.{plain_module}
use Rattle.vlog_names.specs.Entries.{module_entry}
use Rattle.vlog_names.specs.Twice.{twice_modules}
use Rattle.vlog_names.proofs.declaring.modules_of.Given as goal

abbrev pub invariant-loop-module : goal.invariant-loop-module
invariant-loop-module l =
    let rest = map plain_module (drop l.module-index l.file.modules) in
    let all = map plain_module l.file.modules in
    record {
      told : twice_modules l.modules rest ≡ twice_modules [] all;
      kept : l.modules ++ map module_entry rest ≡ map module_entry all;
    }
