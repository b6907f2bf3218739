use Rattle.std.proofs.Common.{arith, ap, length}
use Rattle.std.proofs.lemmas.List.{length-drop}
use Rattle.std.proofs.lemmas.List.Sums.{sum_by_more_le}
use Rattle.vec_clock.specs.trace_model.Channel.{byte_count}
use Rattle.trace_code.proofs.walk.number_of.Goals as goal

pub split_at-requires-2 : goal.split_at-requires-2
split_at-requires-2 c =
    let s = sum_by_more_le byte_count c.args.widths.now c.args.port 0 c.requires.port in
    let a = c.numbers_len.ensures.value in
    let b = c.byte_count.ensures in
    let d = ap length c.split_at.ensures.back in
    let e = length-drop c.numbers_len.result c.args.bytes.now in
    let l = c.requires.long in
    omega (arith, s, a, b, d, e, l)
