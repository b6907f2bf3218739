use Rattle.std.proofs.Common.{◌≡◌, ◌+◌, ◌∷◌, ◌++◌, length, drop, sym, ap, ◌∙◌, arith}
use Rattle.trace_code.specs.Encoding.{gap_bytes}
use Rattle.trace_code.specs.Writing.{overwritten}
use Rattle.trace_code.proofs.Overwriting.{over-front}
use Rattle.trace_code.proofs.writing.write_reset.Goals as goal

pub write_at-requires : goal.write_at-requires
write_at-requires c = omega (arith, c.requires.room, ap length c.tag_bytes.ensures)

pub returns-clause-bytes : goal.returns-clause-bytes
returns-clause-bytes c channels =
    let buf = c.args.buf.now in
    let place : c.write_at.result ≡ 3 = c.write_at.ensures.place ∙ ap (λ bs. 0 + length bs) c.tag_bytes.ensures in
    c.write_at.ensures.bytes ∙ ap (overwritten buf 0) c.tag_bytes.ensures ∙ over-front buf (2 ∷ gap_bytes c.args.gap)
    ∙ ap (λ k. (2 ∷ gap_bytes c.args.gap) ++ drop k buf) (sym place)

pub returns-clause-len : goal.returns-clause-len
returns-clause-len c = c.write_at.ensures.place ∙ ap (λ bs. 0 + length bs) c.tag_bytes.ensures
