use Rattle.std.proofs.Common.{◌≡◌, ℕ, get_or, arith, rules}
use Rattle.trace_model.specs.vidi_bits.Number.{has}
use Rattle.room_ledger.specs.Reservation.{reservation}
use Rattle.room_ledger.proofs.Totals.{total-read, total-within}
use Rattle.room_ledger.proofs.Reserving.{reserved-need}
use Rattle.room_ledger.proofs.sums.reserved.Goals as goal

pub overflow_add-total : goal.overflow_add-total
overflow_add-total c =
    let f : ℕ × ℕ → ℕ = reservation c.args.head (has c.args.gates) (has c.args.flying) in
    let one : c.reservation-total.result ≡ f (c.loop-c.c, get_or c.args.sizes.now c.loop-c.c 0) = search rules in
    omega (
      arith,
      total-within f c.args.sizes.now c.loop-c.c c.loop-c-test.true,
      reserved-need c.args.head (has c.args.gates)
          (has c.args.flying) 0 c.args.sizes.now,
    )

pub loop-c-preserved : goal.loop-c-preserved
loop-c-preserved c =
    let f : ℕ × ℕ → ℕ = reservation c.args.head (has c.args.gates) (has c.args.flying) in
    let one : c.reservation-total.result ≡ f (c.loop-c.c, get_or c.args.sizes.now c.loop-c.c 0) = search rules in
    omega (arith, total-read f c.args.sizes.now c.loop-c.c c.loop-c-test.true)
