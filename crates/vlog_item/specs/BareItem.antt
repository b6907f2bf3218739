-- Items without their lines.
use Rattle.vlog_tree.specs.Tree.{RangeOf, NamedValueOf, RegTailOf, Reg1Of, AssignOf, EventOf, ItemOf}
use Rattle.vlog_tree.specs.Tree.{ConnOf}
use Rattle.vlog_tree.specs.Lines.{no_mark, map_range, map_named, map_tail, map_reg, map_assign, map_event, map_item}
use Rattle.vlog_tree.specs.Lines.{map_conn}

abbrev pub bare_range : {A : Type 0} → RangeOf A → RangeOf (Unit {0})
bare_range x = map_range no_mark x

abbrev pub bare_named : {A : Type 0} → NamedValueOf A → NamedValueOf (Unit {0})
bare_named x = map_named no_mark x

abbrev pub bare_tail : {A : Type 0} → RegTailOf A → RegTailOf (Unit {0})
bare_tail x = map_tail no_mark x

abbrev pub bare_reg : {A : Type 0} → Reg1Of A → Reg1Of (Unit {0})
bare_reg x = map_reg no_mark x

abbrev pub bare_assign : {A : Type 0} → AssignOf A → AssignOf (Unit {0})
bare_assign x = map_assign no_mark x

abbrev pub bare_event : {A : Type 0} → EventOf A → EventOf (Unit {0})
bare_event x = map_event no_mark x

abbrev pub bare_conn : {A : Type 0} → ConnOf A → ConnOf (Unit {0})
bare_conn x = map_conn no_mark x

abbrev pub bare_item : {A : Type 0} → ItemOf A → ItemOf (Unit {0})
bare_item x = map_item no_mark x
