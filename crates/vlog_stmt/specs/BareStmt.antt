-- Statements without their lines.
use Rattle.vlog_tree.specs.Tree.{StmtOf, BodyOf, ElseOf, StmtsOf, ArmOf, ArmsOf}
use Rattle.vlog_tree.specs.Lines.{no_mark, map_stmt, map_body, map_else, map_stmts, map_arm, map_arms}

abbrev pub bare_stmt : {A : Type 0} → StmtOf A → StmtOf (Unit {0})
bare_stmt x = map_stmt no_mark x

abbrev pub bare_body : {A : Type 0} → BodyOf A → BodyOf (Unit {0})
bare_body x = map_body no_mark x

abbrev pub bare_else : {A : Type 0} → ElseOf A → ElseOf (Unit {0})
bare_else x = map_else no_mark x

abbrev pub bare_stmts : {A : Type 0} → StmtsOf A → StmtsOf (Unit {0})
bare_stmts x = map_stmts no_mark x

abbrev pub bare_arm : {A : Type 0} → ArmOf A → ArmOf (Unit {0})
bare_arm x = map_arm no_mark x

abbrev pub bare_arms : {A : Type 0} → ArmsOf A → ArmsOf (Unit {0})
bare_arms x = map_arms no_mark x
