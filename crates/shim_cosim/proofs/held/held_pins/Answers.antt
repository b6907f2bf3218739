use Rattle.std.proofs.Common.{◌∙◌, ◌++◌, ◌∷◌, [], List, ℕ, ap, map}
use Rattle.vlog_tree.specs.declared.module.Module.{Module}
use Rattle.vlog_tree.specs.Plain.{plain_module}
use Rattle.shim_gen.specs.shim_trees.Wrapped.{ports_in, module_named}
use Rattle.shim_cosim.proofs.Tables.{held_are}
use Rattle.shim_cosim.proofs.held.held_pins.Goals as goal

pub returns : goal.returns
returns c =
    held_are c.args.map.now c.args.resets c.in_ok-push_all_held.ensures
    (c.in_ok-push.ensures.ok ∙ ap (λ (xs : List ℕ). xs ++ 0 ∷ []) c.new-pins.ensures) c.in_ok-numbers.ensures
    (c.ports_of-ports.ensures
    ∙ ap (λ (modules : List Module). ports_in (module_named (map plain_module modules) c.as_slice-2.result.now)) c.as_slice.ensures
    ∙ ap (λ (name : List ℕ). ports_in (module_named (map plain_module c.args.file.now.modules) name)) c.as_slice-2.ensures)
