use Rattle.trace_code.specs.Counted.{counted}
use Rattle.trace_code.proofs.Walking.{over-if, over-only}
use Rattle.trace_code.proofs.cursor.Cursor.at_end.Goals as goal

pub returns : goal.returns
returns c t j s =
    let k = c.args.self.now in
    let clock = counted k.clock in
    let says = c.is_end.ensures t s.0.place s.0.at in (
      λ r. over-if t k.kind k.channel j k.head.sizes.items k.rest.now clock s.0 (says.0 r),
      λ l. says.1 (over-only t k.kind k.channel j k.head.sizes.items k.rest.now clock s.0 l),
    )
