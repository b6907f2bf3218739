use Rattle.std.proofs.Common.{ap, subst, ◌∙◌}
use Rattle.net_design.proofs.Rows.{sized_branch}
use Rattle.net_instr.specs.Expressions.{IsThere, HasRoom}
use Rattle.net_instr.specs.Statements.{act_code, IsActThere}
use Rattle.net_instr.proofs.RowCode.{code_branch}
use Rattle.net_instr.proofs.statements.see_choice.Goals as goal

pub returns-clause-code : goal.returns-clause-code
returns-clause-code c = λ a widths words o h. ap (act_code widths words o) h
    ∙ code_branch widths words o c.args.guards.now c.args.otherwise.now

pub returns-clause-sized : goal.returns-clause-sized
returns-clause-sized c = λ a widths words h s. sized_branch (IsThere widths words)
    (HasRoom widths words) c.args.guards.now c.args.otherwise.now
    (subst (IsActThere widths words) h s)
