use Rattle.std.proofs.Common.{ℕ, ◌<◌, ◌^◌, ◌&&◌, not, length, sym, subst}
use Rattle.run_model.specs.vidi_bits.Number.{has}
use Rattle.run_model.specs.trace_model.Row.{flies_after, row_before}
use Rattle.run_model.proofs.Contents.{mask-below}
use Rattle.run_reference.proofs.row.starts.Goals as goal

pub with_bit-mask-requires-clause-below : goal.with_bit-mask-requires-clause-below
with_bit-mask-requires-clause-below c = subst (λ (n : ℕ). n < 2 ^ c.loop-c.c) (sym c.loop-c.invariant)
    (mask-below (λ k. (has c.args.valids k && has c.args.gates k)
    && not (flies_after (row_before c.args.before.now (length c.args.before.now)) k)) c.loop-c.c)
