use Rattle.std.proofs.Common.{◌≡◌, ◌+◌, ◌++◌, ◌∷◌, [], length, ◌∙◌, arith}
use Rattle.std.proofs.lemmas.List.{length_push}
use Rattle.std.proofs.lemmas.Slice.Zip.{zip_turn}
use Rattle.trace_code.proofs.Overwriting.{number-written}
use Rattle.trace_code.proofs.writing.write_content.Goals as goal

pub loop-width-preserved : goal.loop-width-preserved
loop-width-preserved c =
    let turn = zip_turn c.args.widths.now c.args.content.now c.loop-width.yielded _ _ c.next.new.self _ (cc) (cc) c.loop-width.yielded_by
    (c.in-Some.width, c.in-Some.number) c.in-Some.is c.next.ensures.steps in
    let n = length c.loop-width.yielded in
    let w = number-written c.args.widths.now c.args.content.now c.loop-width.buf c.write_number-place.new.buf n c.loop-width.place
    c.write_number-place.result c.in-Some.width.now c.in-Some.number.now turn.0 turn.1 (turn.2 0) (turn.3 0) c.loop-width.invariant.room
    c.write_number-place.ensures.bytes c.write_number-place.ensures.place in
    let more : length (c.loop-width.yielded ++ (c.in-Some.width, c.in-Some.number) ∷ []) ≡ n
    + 1 = omega (arith, length_push c.loop-width.yielded (c.in-Some.width, c.in-Some.number)) in
    rw more (record {
      bytes = w.bytes-are ∙ c.loop-width.invariant.bytes;
      place = w.place-is ∙ c.loop-width.invariant.place;
      room = omega (arith, w.room, c.loop-width.invariant.room);
    })
