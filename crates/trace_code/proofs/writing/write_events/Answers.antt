use Rattle.std.proofs.Common.{length, ◌+◌, ap, ◌∙◌, arith}
use Rattle.vec_clock.specs.trace_model.Length.{mask_len}
use Rattle.vec_clock.specs.trace_model.Packet.{widths_under}
use Rattle.trace_code.specs.Encoding.{number_bytes}
use Rattle.trace_code.specs.Writing.{overwritten, picked}
use Rattle.trace_code.proofs.NumberLaws.{length-low}
use Rattle.trace_code.proofs.Picking.{number_bytes-length}
use Rattle.trace_code.proofs.RowBytes.{picked-length, parts-written}
use Rattle.trace_code.proofs.writing.write_events.Goals as goal

pub write_mask-started-requires-clause-room : goal.write_mask-started-requires-clause-room
write_mask-started-requires-clause-room c =
    omega (
      arith,
      c.write_at-tagged.ensures.place,
      ap length c.tag_bytes.ensures,
      c.requires.room,
      c.write_at-tagged.auto.buf,
      length-low 0
          (mask_len (length c.args.channels.now)) c.args.events.starts,
    )

pub write_mask-ended-requires-clause-room : goal.write_mask-ended-requires-clause-room
write_mask-ended-requires-clause-room c =
    omega (
      arith,
      c.write_at-tagged.ensures.place,
      ap length c.tag_bytes.ensures,
      c.write_mask-started.ensures.place,
      c.requires.room,
      c.write_at-tagged.auto.buf,
      c.write_mask-started.auto.buf,
      length-low 0 (mask_len (length c.args.channels.now)) c.args.events.starts,
      length-low 0
          (mask_len (length c.args.channels.now)) c.args.events.ends,
    )

pub write_contents-requires-clause-room : goal.write_contents-requires-clause-room
write_contents-requires-clause-room c =
    omega (
      arith,
      c.write_at-tagged.ensures.place,
      ap length c.tag_bytes.ensures,
      c.write_mask-started.ensures.place,
      c.write_mask-ended.ensures.place,
      c.requires.room,
      c.write_at-tagged.auto.buf,
      c.write_mask-started.auto.buf,
      c.write_mask-ended.auto.buf,
      length-low 0
          (mask_len (length c.args.channels.now)) c.args.events.starts,
      length-low 0 (mask_len (length c.args.channels.now)) c.args.events.ends,
    )

pub returns-clause-bytes : goal.returns-clause-bytes
returns-clause-bytes c =
    let numbers = picked c.args.listed c.args.events.starts 0 c.args.channels.now c.args.contents.now in
    let size = number_bytes-length (widths_under c.args.events.starts c.args.channels.now) numbers
    (picked-length c.args.listed c.args.events.starts 0 c.args.channels.now c.args.contents.now c.requires.some c.requires.one_each) in
    (parts-written c.args.events.gap (length c.args.channels.now) c.args.events.starts c.args.events.ends
    (number_bytes (widths_under c.args.events.starts c.args.channels.now) numbers) c.args.buf.now c.write_at-tagged.new.buf
    c.write_mask-started.new.buf c.write_mask-ended.new.buf c.write_contents.new.buf c.write_at-tagged.result c.write_mask-started.result
    c.write_mask-ended.result c.write_contents.result
    (record {
      room = omega (
        arith,
        size,
        c.requires.room,
        length-low 0 (mask_len (length c.args.channels.now)) c.args.events.starts,
        length-low 0
            (mask_len (length c.args.channels.now)) c.args.events.ends,
      );
      tag = c.write_at-tagged.ensures.bytes ∙ ap (overwritten c.args.buf.now 0) c.tag_bytes.ensures;
      tag-place = c.write_at-tagged.ensures.place ∙ ap (λ bs. 0 + length bs) c.tag_bytes.ensures;
      starts = c.write_mask-started.ensures.bytes;
      starts-place = c.write_mask-started.ensures.place;
      ends = c.write_mask-ended.ensures.bytes;
      ends-place = c.write_mask-ended.ensures.place;
      contents = c.write_contents.ensures.bytes;
      b-long = c.write_at-tagged.auto.buf;
      b'-long = c.write_mask-started.auto.buf ∙ c.write_at-tagged.auto.buf;
    })
    c.write_contents.ensures.place).0
