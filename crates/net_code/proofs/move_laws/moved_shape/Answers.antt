use Rattle.net_code.proofs.MovedBits.{block_words_moved, apart_moved}
use Rattle.net_code.proofs.move_laws.moved_shape.Goals as goal

pub returns-clause-words : goal.returns-clause-words
returns-clause-words c = block_words_moved

pub returns-clause-apart : goal.returns-clause-apart
returns-clause-apart c = apart_moved
