use Rattle.trace_edit.proofs.Alternating.{stories-alternate}
use Rattle.trace_edit.proofs.laws.stories_alternate.Goals as goal

pub returns : goal.returns
returns c = stories-alternate
