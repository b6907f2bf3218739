use Rattle.std.proofs.Common.{◌∙◌}
use Rattle.trace_code.specs.Counted.{counted}
use Rattle.trace_code.proofs.Walking.{epoch-is}
use Rattle.trace_code.proofs.cursor.Cursor.epoch.Goals as goal

pub returns : goal.returns
returns c t j p packet s is =
    let k = c.args.self.now in
    c.epoch.ensures ∙ epoch-is t k.kind k.channel j k.head.sizes.items k.rest.now (counted k.clock) s.0 p packet is
