use Rattle.std.proofs.Common.{◌≡◌, ◌++◌, drop, map}
use Rattle.vlog_tree.specs.Plain.{plain_parameter}
use Rattle.vlog_names.specs.Entries.{parameter_entry}
use Rattle.vlog_names.specs.Twice.{twice_among}
use Rattle.vlog_names.proofs.declaring.declare_parameters.Given as goal

abbrev pub invariant-loop-parameter : goal.invariant-loop-parameter
invariant-loop-parameter l =
    let rest = map parameter_entry (map plain_parameter (drop l.parameter-index l.parameters)) in
    let all = map parameter_entry (map plain_parameter l.parameters) in
    record {
      told : twice_among l.names rest ≡ twice_among l.initial.names all;
      kept : l.names ++ rest ≡ l.initial.names ++ all;
    }
