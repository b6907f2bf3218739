use Rattle.std.proofs.Common.{◌^◌, ap, sym, subst, ◌∙◌}
use Rattle.net_design.specs.Sized.{IsShort, IsCountable, IsAct}
use Rattle.net_code.specs.Moved.{moved_act}
use Rattle.net_design.proofs.Rows.{sized_branch, branch_sized}
use Rattle.net_code.proofs.MovedRows.{moved_branch}
use Rattle.net_code.proofs.moved.see_moved.Goals as goal

pub returns-clause-near : goal.returns-clause-near
returns-clause-near c = λ a h. (
  (λ s. sized_branch (IsShort (2 ^ 32)) (IsCountable (2 ^ 32)) c.args.guards.now c.args.otherwise.now
      (subst (IsAct (IsShort (2 ^ 32)) (IsCountable (2 ^ 32))) h s)),
  (λ s. subst (IsAct (IsShort (2 ^ 32)) (IsCountable (2 ^ 32))) (sym h)
      (branch_sized (IsShort (2 ^ 32)) (IsCountable (2 ^ 32)) c.args.guards.now c.args.otherwise.now s.0 s.1)),
)

pub returns-clause-moved : goal.returns-clause-moved
returns-clause-moved c = λ net word a h. ap (moved_act net word) h ∙ moved_branch net word c.args.guards.now c.args.otherwise.now
