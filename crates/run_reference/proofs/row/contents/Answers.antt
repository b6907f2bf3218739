use Rattle.std.proofs.Common.{◌++◌, ap, sym, ◌∙◌, append_assoc, drop, ◌+◌, arith}
use Rattle.net_design.specs.Pins.{outputs}
use Rattle.run_model.specs.Building.{content_here, joined}
use Rattle.run_reference.proofs.BlockLemmas.{joined-more}
use Rattle.run_reference.proofs.row.contents.Goals as goal

pub loop-c-preserved : goal.loop-c-preserved
loop-c-preserved g c =
    let f = content_here c.args.map.now c.args.offers.now (outputs (g.B.Block.design c.args.block.now)
    (g.B.Block.shown c.args.block.now)) in
    let cs = c.args.map.now.channels in
    ap (λ xs. xs ++ joined f (c.loop-c.c + 1) (drop (c.loop-c.c + 1) cs)) c.in_ok-push_content.ensures
    ∙ append_assoc c.loop-c.out (f c.loop-c.c) (joined f (c.loop-c.c + 1) (drop (c.loop-c.c + 1) cs))
    ∙ ap (λ xs. c.loop-c.out ++ xs) (sym (joined-more f c.loop-c.c cs (omega (arith, c.loop-c-test.true, c.len-c-end.ensures))))
    ∙ c.loop-c.invariant
