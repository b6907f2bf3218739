-- Modules and files without their lines.
use Rattle.vlog_tree.specs.Tree.{PortHeadOf, PortOf, ModuleOf}
use Rattle.vlog_tree.specs.Tree.{ParameterHeadOf, ParameterOf}
use Rattle.vlog_tree.specs.Lines.{no_mark, map_head, map_port}
use Rattle.vlog_tree.specs.Lines.{map_module, map_parameter_head, map_parameter}

abbrev pub bare_parameter_head : {A : Type 0} → ParameterHeadOf A → ParameterHeadOf (Unit {0})
bare_parameter_head x = map_parameter_head no_mark x

abbrev pub bare_parameter : {A : Type 0} → ParameterOf A → ParameterOf (Unit {0})
bare_parameter x = map_parameter no_mark x

abbrev pub bare_head : {A : Type 0} → PortHeadOf A → PortHeadOf (Unit {0})
bare_head x = map_head no_mark x

abbrev pub bare_port : {A : Type 0} → PortOf A → PortOf (Unit {0})
bare_port x = map_port no_mark x

abbrev pub bare_module : {A : Type 0} → ModuleOf A → ModuleOf (Unit {0})
bare_module x = map_module no_mark x
