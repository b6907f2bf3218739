use Rattle.flat_layout.proofs.Counted.{nets_counted, words_counted}
use Rattle.flat_layout.proofs.laws.parts_are_counted.Goals as goal

pub returns-clause-nets : goal.returns-clause-nets
returns-clause-nets c = nets_counted

pub returns-clause-words : goal.returns-clause-words
returns-clause-words c = words_counted
