use Rattle.flat_parts.proofs.Next.{next_alike}
use Rattle.flat_parts.proofs.Initial.{initial_alike}
use Rattle.flat_parts.proofs.laws.state_alike.Goals as goal

pub returns-clause-next : goal.returns-clause-next
returns-clause-next c = next_alike

pub returns-clause-initial : goal.returns-clause-initial
returns-clause-initial c = initial_alike
