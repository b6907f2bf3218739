use Rattle.std.proofs.Common.{◌≡◌, ◌++◌, drop, map}
use Rattle.vlog_tree.specs.Plain.{plain_named}
use Rattle.vlog_names.specs.Entries.{value_entry}
use Rattle.vlog_names.specs.Twice.{twice_among}
use Rattle.vlog_names.proofs.declaring.declare_named.Given as goal

abbrev pub invariant-loop-value : goal.invariant-loop-value
invariant-loop-value l =
    let rest = map (value_entry l.what) (map plain_named (drop l.value-index l.values)) in
    let all = map (value_entry l.what) (map plain_named l.values) in
    record {
      told : twice_among l.names rest ≡ twice_among l.initial.names all;
      kept : l.names ++ rest ≡ l.initial.names ++ all;
    }
