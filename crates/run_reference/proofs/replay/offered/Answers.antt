use Rattle.std.proofs.Common.{ℕ, ◌<◌, ◌^◌, sym, subst}
use Rattle.run_model.proofs.Contents.{mask-below}
use Rattle.run_reference.specs.Feed.{is_offered}
use Rattle.run_reference.proofs.replay.offered.Goals as goal

pub with_bit-mask-requires-clause-below : goal.with_bit-mask-requires-clause-below
with_bit-mask-requires-clause-below c = subst (λ (n : ℕ). n < 2 ^ c.loop-c.c) (sym c.loop-c.invariant)
    (mask-below (is_offered c.args.channels.now c.args.packets.now c.args.rows.now c.args.kind) c.loop-c.c)
