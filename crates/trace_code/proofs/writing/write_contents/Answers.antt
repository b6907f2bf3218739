use Rattle.std.proofs.Common.{◌≡◌, true, false, ◌∙◌, sym, ⊎_elim, arith}
use Rattle.std.proofs.lemmas.Bool.{cases_Bool, false≢true}
use Rattle.vec_clock.specs.vidi_bits.Number.{has}
use Rattle.trace_code.proofs.Picking.{skipped, written}
use Rattle.trace_code.proofs.writing.write_contents.Goals as goal

pub loop-c-preserved-then-not-names : goal.loop-c-preserved-then-not-names
loop-c-preserved-then-not-names c =
    let unlisted : has c.args.listed c.loop-c.c ≡ false = sym c.names.ensures ∙ c.if-not-names.true in
    let none : has c.args.starts c.loop-c.c ≡ false = ⊎_elim (λ (t : has c.args.starts c.loop-c.c ≡ true). absurd
    (false≢true (sym unlisted ∙ c.requires.some c.loop-c.c t))) (λ (f : has c.args.starts c.loop-c.c ≡ false). f)
    (cases_Bool (has c.args.starts c.loop-c.c)) in
    let w = skipped c.args.listed c.args.starts c.args.channels.now c.loop-c.c c.loop-c.place c.index-channels-c.result c.loop-c.buf
    c.loop-c.rest.now c.loop-c-test.true c.index-channels-c.is unlisted none c.loop-c.invariant.one_each in
    record {
      bytes = w.bytes-are ∙ c.loop-c.invariant.bytes;
      place = w.place-is ∙ c.loop-c.invariant.place;
      room = omega (arith, w.room, c.loop-c.invariant.room);
      one_each = w.one_each;
    }

pub loop-c-preserved : goal.loop-c-preserved
loop-c-preserved c =
    let bytes = rw (c.names-starting.ensures, c.as_slice.ensures) at c.write_start-place.ensures.bytes in
    let place = rw (c.names-starting.ensures, c.as_slice.ensures) at c.write_start-place.ensures.place in
    let w = written c.args.listed c.args.starts c.args.channels.now c.loop-c.c c.loop-c.place c.write_start-place.result
    c.index-channels-c.result c.loop-c.buf c.write_start-place.new.buf c.loop-c.rest.now c.split_at.result.0.now c.split_at.result.1.now
    c.loop-c-test.true c.index-channels-c.is (sym c.names.ensures ∙ c.if-not-names.false) c.loop-c.invariant.one_each
    c.loop-c.invariant.room (rw c.len.ensures at c.split_at.ensures.front) (rw c.len.ensures at c.split_at.ensures.back) bytes place in
    record {
      bytes = w.bytes-are ∙ c.loop-c.invariant.bytes;
      place = w.place-is ∙ c.loop-c.invariant.place;
      room = omega (arith, w.room, c.loop-c.invariant.room);
      one_each = w.one_each;
    }
