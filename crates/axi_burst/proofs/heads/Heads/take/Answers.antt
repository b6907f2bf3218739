use Rattle.std.proofs.Common.{ap, cond, eqb, ◌∙◌, sym}
use Rattle.axi_burst.specs.HeadTable.{head_in}
use Rattle.axi_burst.proofs.HeadTable.{taken-none, taken-some}
use Rattle.axi_burst.proofs.heads.Heads.take.Goals as goal

pub returns-in_default : goal.returns-in_default
returns-in_default c = taken-none c.args.self.now c.args.id (sym c.head.ensures ∙ c.in_default.is)

pub returns : goal.returns
returns c =
    taken-some c.args.self.now c.set.new.self c.args.id c.in-Some.m (sym c.in-Some.ensures)
    (λ q. c.in_ok-set.ensures.heads q
    ∙ ap (λ x. cond (eqb q c.args.id) x (head_in c.args.self.now.heads.entries q)) c.behind-next.ensures) c.in_ok-set.ensures.next
