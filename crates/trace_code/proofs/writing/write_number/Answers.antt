use Rattle.std.proofs.Common.{◌-◌, take, drop, ap, ◌∙◌, arith}
use Rattle.vec_clock.specs.trace_model.Channel.{byte_count}
use Rattle.trace_code.specs.Writing.{overwritten}
use Rattle.trace_code.proofs.Overwriting.{high-piece}
use Rattle.trace_code.proofs.writing.write_number.Goals as goal

pub returns-clause-bytes : goal.returns-clause-bytes
returns-clause-bytes c =
    c.write_at.ensures.bytes
    ∙ ap (λ k. overwritten c.args.buf.now c.args.at (take (16 - (16 - k)) (drop (16 - k) c.to_be_bytes-bytes.result))) c.byte_count.ensures
    ∙ ap (overwritten c.args.buf.now c.args.at) (high-piece (byte_count c.args.width) c.args.number c.to_be_bytes-bytes.result (omega arith)
    c.to_be_bytes-bytes.ensures)
