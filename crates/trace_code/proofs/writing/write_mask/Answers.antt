use Rattle.std.proofs.Common.{◌+◌, length, ap, ◌∙◌}
use Rattle.trace_code.specs.Writing.{overwritten}
use Rattle.trace_code.proofs.Overwriting.{low-piece}
use Rattle.trace_code.proofs.writing.write_mask.Goals as goal

pub write_at-requires : goal.write_at-requires
write_at-requires c = rw (low-piece c.args.channels c.args.mask c.div_ceil.result c.to_le_bytes-bytes.result c.requires.few
    c.div_ceil.ensures c.to_le_bytes-bytes.ensures) c.requires.room

pub returns-clause-bytes : goal.returns-clause-bytes
returns-clause-bytes c = c.write_at.ensures.bytes ∙ ap (overwritten c.args.buf.now c.args.at)
    (low-piece c.args.channels c.args.mask c.div_ceil.result c.to_le_bytes-bytes.result c.requires.few c.div_ceil.ensures
    c.to_le_bytes-bytes.ensures)

pub returns-clause-place : goal.returns-clause-place
returns-clause-place c = c.write_at.ensures.place ∙ ap (λ bs. c.args.at + length bs)
    (low-piece c.args.channels c.args.mask c.div_ceil.result c.to_le_bytes-bytes.result c.requires.few c.div_ceil.ensures
    c.to_le_bytes-bytes.ensures)
