use Rattle.std.proofs.Common.{◌∙◌, arith}
use Rattle.trace_code.specs.Counted.{counted}
use Rattle.trace_code.proofs.Tallying.{tallied-long}
use Rattle.trace_code.proofs.Walking.{clock-long, need-is}
use Rattle.trace_code.proofs.cursor.Cursor.need.Goals as goal

pub get-requires : goal.get-requires
get-requires c =
    let k = c.args.self.now in
    let s = c.requires.2.0 in
    let long = clock-long c.requires.0 s.place k.head.sizes.items k.rest.now (counted k.clock) s.at in
    let same = tallied-long k.clock.clock k.clock.ends k.clock.times in
    let l = c.requires.3 in
    omega (arith, long, same, l)

pub returns : goal.returns
returns c t j p packet s l is =
    let k = c.args.self.now in
    c.get.ensures ∙ need-is t k.kind k.channel j k.head.sizes.items k.rest.now (counted k.clock) s.0
    c.args.channel p packet l is
