use Rattle.std.proofs.Common.{arith}
use Rattle.axi_burst.specs.declared.transfers.Address.{Address}
use Rattle.axi_burst.proofs.LastBeats.{beats-more, last-more}
use Rattle.axi_burst.proofs.responses.last_beats.Goals as goal

pub loop-a-preserved : goal.loop-a-preserved
loop-a-preserved c =
    let i = c.loop-a.a-index in
    let asks = c.args.asks.now in
    let none : Address = record { id = 0; addr = 0; beats = 0; size = 0; burst = 0; at = 0 } in
    let more = beats-more asks i none c.loop-a-test.true in
    let each = c.requires.each i none c.loop-a-test.true in
    let sum = c.loop-a.invariant.sum in
    let bound = c.loop-a.invariant.bound in
    let most = each.most in
    let less = c.saturating_sub.ensures in
    record {
      sum = omega (arith, more, sum);
      bound = omega (arith, bound, most);
      lasts = last-more asks i _ _ _ c.loop-a.invariant.lasts c.in_ok-push.ensures.items (omega (arith, less, more, sum));
    }
