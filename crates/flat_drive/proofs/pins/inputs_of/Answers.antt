use Rattle.std.proofs.Common.{◌≡◌, List, true, map, ap, ◌∙◌}
use Rattle.std.proofs.lemmas.Result.{IfOk-weaker}
use Rattle.std.specs.List.{list_any}
use Rattle.std.specs.Str.{bytes_eq}
use Rattle.vlog_tree.specs.Plain.{plain_port, plain_module}
use Rattle.vlog_tree.specs.declared.module.Port.{Port}
use Rattle.flat_parts.specs.vlog_driver.Names.{Name}
use Rattle.flat_drive.specs.Marked.{IsInputTable, inputs_after, is_listed}
use Rattle.flat_drive.proofs.Inputs.{table_right}
use Rattle.flat_drive.proofs.pins.inputs_of.Goals as goal

pub returns : goal.returns
returns c =
    let m = plain_module c.args.tree.now in
    IfOk-weaker c.inputs_among.result
    (λ inputs. (name : Name) → is_listed inputs name ≡ list_any (bytes_eq name) (inputs_after true (map plain_port c.as_slice.result.now)))
    (λ inputs. IsInputTable m inputs)
    (λ inputs h. table_right m inputs (λ name.
    h name ∙ ap (λ (ps : List Port). list_any (bytes_eq name) (inputs_after true (map plain_port ps))) c.as_slice.ensures))
    c.inputs_among.ensures
