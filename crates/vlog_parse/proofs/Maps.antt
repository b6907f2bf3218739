-- Lists as plain data, one item longer.
use Rattle.std.proofs.Common.{◌≡◌, List, [], ◌∷◌, ◌++◌, map}
use Rattle.vlog_tree.specs.Plain.{plain_item, plain_module}
use Rattle.vlog_tree.specs.declared.module.Item.{Item}
use Rattle.vlog_tree.specs.declared.module.Module.{Module}
use Rattle.vlog_item.proofs.vlog_expr_lemmas.Maps.{map_snoc}

pub items_snoc : (xs : List Item) (x : Item) → map plain_item (xs ++ x ∷ []) ≡ map plain_item xs ++ plain_item x ∷ []
items_snoc = map_snoc plain_item

pub modules_snoc : (xs : List Module) (x : Module) → map plain_module (xs ++ x ∷ []) ≡ map plain_module xs ++ plain_module x ∷ []
modules_snoc = map_snoc plain_module
