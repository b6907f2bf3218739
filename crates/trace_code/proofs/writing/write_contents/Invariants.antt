use Rattle.std.proofs.Common.{◌≡◌, ◌+◌, ◌≤◌, length, drop, sum_by}
use Rattle.vec_clock.specs.trace_model.Channel.{byte_count}
use Rattle.vec_clock.specs.trace_model.Packet.{widths_under}
use Rattle.trace_code.specs.Encoding.{number_bytes}
use Rattle.trace_code.specs.Writing.{overwritten, picked}
use Rattle.trace_code.proofs.PacketLoop.{widths_from}
use Rattle.trace_code.proofs.writing.write_contents.Given as goal

abbrev pub invariant-loop-c : goal.invariant-loop-c
invariant-loop-c l = record {
  bytes : overwritten l.buf l.place (number_bytes (widths_from l.c l.starts (drop l.c l.channels))
      (picked l.listed l.starts l.c (drop l.c l.channels) l.rest)) ≡ overwritten l.fn.buf l.at
      (number_bytes (widths_under l.starts l.channels) (picked l.listed l.starts 0 l.channels l.contents));
  place : l.place + length (number_bytes (widths_from l.c l.starts (drop l.c l.channels))
      (picked l.listed l.starts l.c (drop l.c l.channels) l.rest)) ≡ l.at
      + length (number_bytes (widths_under l.starts l.channels) (picked l.listed l.starts 0 l.channels l.contents));
  room : l.place + sum_by byte_count (widths_from l.c l.starts (drop l.c l.channels)) ≤ length l.buf;
  one_each : length (widths_from l.c l.listed (drop l.c l.channels)) ≤ length l.rest;
}
