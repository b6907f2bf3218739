use Rattle.trace_code.specs.Counted.{counted}
use Rattle.trace_code.proofs.Walking.{tag-tells}
use Rattle.trace_code.proofs.walk.is_end.Goals as goal

pub returns : goal.returns
returns c t p at = tag-tells t p c.args.head.now.sizes.items c.args.rest.now (counted c.args.tally.now) at
