use Rattle.std.proofs.Common.{ℕ, ◌<◌, ◌^◌, sym, subst}
use Rattle.net_design.specs.Pins.{outputs}
use Rattle.run_model.specs.Building.{ready_at}
use Rattle.run_model.proofs.Contents.{mask-below}
use Rattle.run_reference.proofs.row.readies.Goals as goal

pub with_bit-mask-requires-clause-below : goal.with_bit-mask-requires-clause-below
with_bit-mask-requires-clause-below g c = subst (λ (n : ℕ). n < 2 ^ c.loop-c.c) (sym c.loop-c.invariant)
    (mask-below (ready_at c.args.map.now c.args.offers.now (outputs (g.B.Block.design c.args.block.now)
    (g.B.Block.shown c.args.block.now))) c.loop-c.c)
