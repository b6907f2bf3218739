use Rattle.std.proofs.Common.{◌≡◌, ◌+◌, ◌≤◌, length, drop, sum_by}
use Rattle.vec_clock.specs.trace_model.Channel.{byte_count}
use Rattle.trace_code.specs.Encoding.{number_bytes}
use Rattle.trace_code.specs.Writing.{overwritten}
use Rattle.trace_code.proofs.writing.write_content.Given as goal

abbrev pub invariant-loop-width : goal.invariant-loop-width
invariant-loop-width l = record {
  bytes : overwritten l.buf l.place (number_bytes (drop (length l.yielded) l.widths) (drop (length l.yielded) l.content))
      ≡ overwritten l.fn.buf l.at (number_bytes l.widths l.content);
  place : l.place + length (number_bytes (drop (length l.yielded) l.widths) (drop (length l.yielded) l.content)) ≡ l.at
      + length (number_bytes l.widths l.content);
  room : l.place + sum_by byte_count (drop (length l.yielded) l.widths) ≤ length l.buf;
}
