use Rattle.std.proofs.Common.{IsTrue}
use Rattle.net_code.specs.Moved.{moved_span, moved_room}
use Rattle.net_code.proofs.MovedSizes.{block_in}
use Rattle.net_code.proofs.move_laws.moved_is_sized.Goals as goal

pub returns : goal.returns
returns c = λ net word p r acts h.
    block_in net word (λ s. IsTrue (p (moved_span net word s))) (λ s. IsTrue (p s)) (λ x n. IsTrue (r (moved_room net word x) n))
    (λ x n. IsTrue (r x n)) (λ s g. g) (λ x n g. g) acts h
