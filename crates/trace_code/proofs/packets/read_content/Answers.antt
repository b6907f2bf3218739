use Rattle.std.proofs.Common.{sym}
use Rattle.std.proofs.lemmas.Result.{err_from_is_err_and}
use Rattle.trace_code.specs.Reading.{with_front}
use Rattle.trace_code.specs.PacketReading.{numbers_at}
use Rattle.trace_code.proofs.PacketLoop.{fault-fails, number_goes_on, number_ends, number_is_done}
use Rattle.trace_code.proofs.packets.read_content.Goals as goal

pub returns-in_err-number : goal.returns-in_err-number
returns-in_err-number c =
    let p = err_from_is_err_and c.from_residual.result c.from_residual.ensures.1 in
    let fault = c.in_err-number.ensures in
    let none = sym (rw fault.ok_part at c.read_number.ensures) in
    rw (p.1, p.2) (number_ends c.in_err-number.field-0.0 c.loop-width.numbers.items c.args.widths.now c.loop-width.width-index
    c.loop-width.rest.now (with_front c.args.numbers.now.items (numbers_at c.args.widths.now c.args.bytes.now)) c.loop-width-test.true
    (fault-fails c.in_err-number.field-0.0 c.read_number.result _ fault.value fault.ok_part none) c.loop-width.invariant)

pub loop-width-preserved : goal.loop-width-preserved
loop-width-preserved c =
    rw c.in_ok-push.ensures.items (number_goes_on c.loop-width.numbers.items c.args.widths.now c.loop-width.width-index
    c.loop-width.rest.now c.in_ok-number.number c.in_ok-number.after.now
    (with_front c.args.numbers.now.items (numbers_at c.args.widths.now c.args.bytes.now)) c.loop-width-test.true
    (sym (rw c.in_ok-number.ensures.ok_part at c.read_number.ensures)) c.loop-width.invariant)

pub returns : goal.returns
returns c = number_is_done c.loop-width.numbers.items c.args.widths.now c.loop-width.width-index c.loop-width.rest.now
    (with_front c.args.numbers.now.items (numbers_at c.args.widths.now c.args.bytes.now)) c.loop-width-test.false c.loop-width.invariant
