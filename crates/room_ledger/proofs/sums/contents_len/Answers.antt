use Rattle.std.proofs.Common.{◌≡◌, ℕ, cond, get_or, sym, ap, ◌∙◌, arith}
use Rattle.trace_model.specs.vidi_bits.Number.{has}
use Rattle.room_ledger.proofs.Totals.{total-read, total-within}
use Rattle.room_ledger.proofs.sums.contents_len.Goals as goal
use Rattle.room_ledger.proofs.sums.contents_len.Goals.{then-names, else-names}

pub overflow_add-total : goal.overflow_add-total
overflow_add-total c =
    let f : ℕ × ℕ → ℕ = λ d. cond (has c.args.starts d.0) d.1 0 in
    let one : c.if-names.total ≡ f (c.loop-c.c, get_or c.args.sizes.now c.loop-c.c 0) = elim c.if-names.branch [
      | then-names w ↦ w.total-is ∙ ap (λ b. cond b (get_or c.args.sizes.now c.loop-c.c 0) 0) (sym (sym c.names.ensures ∙ w.if-names.true))
      | else-names w ↦ w.total-is ∙ ap (λ b. cond b (get_or c.args.sizes.now c.loop-c.c 0) 0) (sym (sym c.names.ensures ∙ w.if-names.false))
    ] in
    omega (arith, total-within f c.args.sizes.now c.loop-c.c c.loop-c-test.true)

pub loop-c-preserved : goal.loop-c-preserved
loop-c-preserved c =
    let f : ℕ × ℕ → ℕ = λ d. cond (has c.args.starts d.0) d.1 0 in
    let one : c.if-names.total ≡ f (c.loop-c.c, get_or c.args.sizes.now c.loop-c.c 0) = elim c.if-names.branch [
      | then-names w ↦ w.total-is ∙ ap (λ b. cond b (get_or c.args.sizes.now c.loop-c.c 0) 0) (sym (sym c.names.ensures ∙ w.if-names.true))
      | else-names w ↦ w.total-is ∙ ap (λ b. cond b (get_or c.args.sizes.now c.loop-c.c 0) 0) (sym (sym c.names.ensures ∙ w.if-names.false))
    ] in
    omega (arith, total-read f c.args.sizes.now c.loop-c.c c.loop-c-test.true)
