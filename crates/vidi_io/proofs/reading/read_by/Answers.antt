use Rattle.std.proofs.Common.{ℕ, ◌∙◌, arith, rules}
use Rattle.std.proofs.lemmas.List.{length-take}
use Rattle.vidi_io.proofs.Fronts.{read-more}
use Rattle.vidi_io.proofs.reading.read_by.Goals as goal

pub loop-got-preserved : goal.loop-got-preserved
loop-got-preserved g c = record {
  read = read-more (g.S.Shelf.files c.args.shelf.now) (g.S.Shelf.files c.loop-got.shelf) c.args.name.now c.loop-got.bytes.items _
      c.fetch.new.buf c.len.result c.in-Ok.got c.loop-got.invariant.files (cc) (search rules) c.loop-got.invariant.read
      c.in-Ok.ensures.bytes (omega (arith, c.in-Ok.ensures.within));
  files = c.fetch.ensures.files ∙ c.loop-got.invariant.files;
  starts = c.fetch.ensures.starts ∙ c.loop-got.invariant.starts;
  counts = search rules;
  within = omega (arith, c.in_ok-extend_from_slice.ensures.len, c.in-Ok.ensures.within, length-take {A = ℕ});
}
