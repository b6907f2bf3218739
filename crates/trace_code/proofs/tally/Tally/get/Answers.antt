use Rattle.std.proofs.Common.{◌≡◌, ◌*◌, sym, ◌∙◌, arith}
use Rattle.std.specs.Int.{bit_at}
use Rattle.trace_code.proofs.Tallying.{tallied-at, times-off, times-on}
use Rattle.trace_code.proofs.tally.Tally.get.Goals as goal
use Rattle.trace_code.proofs.tally.Tally.get.Goals.{then-names, else-names}

pub returns : goal.returns
returns c =
    let k = c.args.self.now in
    let last : c.if-names.result ≡ k.times * bit_at k.ends c.args.c = elim c.if-names.branch [
      | then-names w ↦ w.result-is ∙ times-on k.times k.ends c.args.c (sym c.names.ensures ∙ w.if-names.true)
      | else-names w ↦ w.result-is ∙ times-off k.times k.ends c.args.c (sym c.names.ensures ∙ w.if-names.false)
    ] in
    let first = c.get.ensures in
    omega (arith, first, last, tallied-at k.clock k.ends k.times c.args.c c.requires)
