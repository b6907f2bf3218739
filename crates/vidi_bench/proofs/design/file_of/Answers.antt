use Rattle.std.proofs.Common.{inr}
use Rattle.vidi_bench.specs.Design.{IsNoText, IsNoTree}
use Rattle.vidi_answer.proofs.Chain.{all-as}
use Rattle.vidi_bench.proofs.design.file_of.Goals as goal

pub returns-in-Ok-clause-refused : goal.returns-in-Ok-clause-refused
returns-in-Ok-clause-refused c =
    all-as (IsNoTree c.in-Ok.tokens) (IsNoText c.args.text.now) c.tree_of.result
    (λ a x is. inr (c.in-Ok.tokens, c.in-Ok.ensures.answer, is)) c.tree_of.ensures.refused
