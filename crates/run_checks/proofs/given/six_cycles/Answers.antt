use Rattle.std.proofs.Common.{All, ◌+◌, length, ap, sym, subst, ◌∙◌}
use Rattle.std.proofs.lemmas.List.{length_push}
use Rattle.std.proofs.lemmas.List.Elements.{All-push}
use Rattle.run_checks.specs.Given.{IsSend}
use Rattle.run_checks.proofs.given.six_cycles.Goals as goal

pub loop-cycle-preserved : goal.loop-cycle-preserved
loop-cycle-preserved c =
    let inv = c.loop-cycle.invariant in
    let more = c.in_ok-push.ensures.ok in
    record {
      count = ap length more ∙ length_push c.loop-cycle.list c.in_ok-offers.offers ∙ ap (λ n. n + 1) inv.count;
      sends = subst (All IsSend) (sym more) (All-push IsSend c.loop-cycle.list c.in_ok-offers.offers inv.sends c.in_ok-offers.ensures);
    }
