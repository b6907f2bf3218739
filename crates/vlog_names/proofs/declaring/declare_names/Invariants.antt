use Rattle.std.proofs.Common.{◌≡◌, ◌++◌, drop, map}
use Rattle.vlog_tree.specs.Plain.{plain_ident}
use Rattle.vlog_names.specs.Entries.{ident_entry}
use Rattle.vlog_names.specs.Twice.{twice_among}
use Rattle.vlog_names.proofs.declaring.declare_names.Given as goal

abbrev pub invariant-loop-ident : goal.invariant-loop-ident
invariant-loop-ident l =
    let rest = map (ident_entry l.what) (map plain_ident (drop l.ident-index l.idents)) in
    let all = map (ident_entry l.what) (map plain_ident l.idents) in
    record {
      told : twice_among l.names rest ≡ twice_among l.initial.names all;
      kept : l.names ++ rest ≡ l.initial.names ++ all;
    }
