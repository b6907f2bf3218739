use Rattle.std.proofs.Common.{ap, ◌∙◌}
use Rattle.net_design.specs.Bits.{writes_words}
use Rattle.net_lawful.proofs.WordRows.{branch_words}
use Rattle.net_lawful.proofs.words.see_words.Goals as goal

pub returns : goal.returns
returns c = λ a h. ap (λ x. writes_words x) h ∙ branch_words c.args.guards.now c.args.otherwise.now
