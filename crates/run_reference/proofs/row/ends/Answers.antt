use Rattle.std.proofs.Common.{ℕ, ◌<◌, ◌^◌, ◌&&◌, sym, subst}
use Rattle.run_model.specs.vidi_bits.Number.{has}
use Rattle.run_model.proofs.Contents.{mask-below}
use Rattle.run_reference.proofs.row.ends.Goals as goal

pub with_bit-mask-requires-clause-below : goal.with_bit-mask-requires-clause-below
with_bit-mask-requires-clause-below c = subst (λ (n : ℕ). n < 2 ^ c.loop-c.c) (sym c.loop-c.invariant)
    (mask-below (λ k. (has c.args.valids k && has c.args.gates k) && has c.args.readies k) c.loop-c.c)
