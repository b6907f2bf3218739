use Rattle.std.proofs.Common.{◌∙◌, ap, ℕ, max}
use Rattle.vlog_size.specs.Operators.{is_wide}
use Rattle.vlog_size.specs.Size.{of_sign}
use Rattle.vlog_size.proofs.Reaches.{lawfully, unary_made, sign_value}
use Rattle.vlog_size.proofs.evaluated.sign_at.Goals as goal

pub returns : goal.returns
returns c = λ A s.
    c.reached.ensures (of_sign c.args.line c.args.op A) (c.sign_facts-facts.ensures A s.facts)
    (λ h k. sign_value (is_wide c.args.op) c.args.op c.args.wide c.args.a.now A c.unary_at-n.result s
    (c.unary_at-n.ensures
    ∙ ap (λ (w : ℕ). lawfully (unary_made c.args.op c.args.a.now.value) (max w c.args.a.now.facts.width)) c.operand_reach-reach.ensures)
    h k)
