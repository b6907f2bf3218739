use Rattle.std.proofs.Common.{◌∙◌, ◌-◌, ap, refl, cond, eqb, leb, get_or, arith}
use Rattle.axi_burst.specs.declared.transfers.Address.{Address}
use Rattle.axi_burst.specs.Bursts.{burst_of}
use Rattle.axi_burst.specs.Counted.{count_in}
use Rattle.axi_burst.proofs.DoneLaws.{bursts-on, done-here, left-on}
use Rattle.axi_burst.proofs.grouping.push_bursts.Goals as goal

pub loop-a-init : goal.loop-a-init
loop-a-init c = record { left = λ q. (let e = c.in_ok-left.ensures q in omega (arith, e)); bursts = refl }

pub loop-a-preserved : goal.loop-a-preserved
loop-a-preserved c =
    let write = c.args.write in
    let asks = c.args.asks.now in
    let answers = c.args.answers.now in
    let i = c.loop-a.a-index in
    let l = c.loop-a-test.true in
    let none : Address = record { id = 0; addr = 0; beats = 0; size = 0; burst = 0; at = 0 } in
    let a : Address = get_or asks i none in
    let here = done-here write asks answers i none l (count_in c.loop-a.left.numbers.entries a.id) (c.requires.each i none l).least
    (c.loop-a.invariant.left a.id) in
    let done = c.in_ok-done.ensures.there ∙ ap (λ n. leb n (count_in c.loop-a.left.numbers.entries a.id)) c.needed.ensures ∙ here in
    record {
      left = λ q. left-on write asks answers i none l q (count_in c.loop-a.left.numbers.entries q) (count_in c.take.new.self.numbers.entries q)
          (c.loop-a.invariant.left q)
          (c.in_ok-done.ensures.left q ∙ ap (λ n. count_in c.loop-a.left.numbers.entries q - cond (eqb q a.id) n 0) c.needed.ensures);
      bursts = bursts-on write asks answers i none l c.loop-a.bursts c.push.new.self _ _ c.loop-a.invariant.bursts (ap (burst_of write a) done)
          c.in_ok-push.ensures.ok;
    }
