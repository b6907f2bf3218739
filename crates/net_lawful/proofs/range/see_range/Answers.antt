use Rattle.std.proofs.Common.{subst, sym}
use Rattle.net_design.specs.declared.act.Act.{Act}
use Rattle.net_lawful.specs.Rooms.{IsSpan, IsRoom, IsActIn}
use Rattle.net_design.proofs.Rows.{sized_branch, branch_sized}
use Rattle.net_lawful.proofs.range.see_range.Goals as goal

pub returns : goal.returns
returns c = λ a d rooms h. (
  (λ x. sized_branch (IsSpan d) (IsRoom rooms) c.args.guards.now c.args.otherwise.now (subst (λ (y : Act). IsActIn d rooms y) h x)),
  (λ x. subst (λ (y : Act). IsActIn d rooms y) (sym h)
      (branch_sized (IsSpan d) (IsRoom rooms) c.args.guards.now c.args.otherwise.now x.0 x.1)),
)
