use Rattle.std.proofs.Common.{◌≡◌, ◌≤◌, ◌*◌, take, sum_by}
use Rattle.vec_clock.specs.trace_model.Channel.{byte_count}
use Rattle.trace_code.proofs.number.numbers_len.Given as goal

abbrev pub invariant-loop-width : goal.invariant-loop-width
invariant-loop-width l = record {
  value : l.total ≡ sum_by byte_count (take l.width-index l.widths);
  small : l.total ≤ 32 * l.width-index;
}
