use Rattle.std.proofs.Common.{ℕ, List, refl, subst}
use Rattle.wave_text.specs.Wave.{FitsRow}
use Rattle.wave_text.proofs.Fits.{all-more, all-whole}
use Rattle.wave_text.proofs.lawful.all_fit.Goals as goal

pub loop-row-preserved : goal.loop-row-preserved
loop-row-preserved c = all-more (FitsRow c.args.nets.now) c.args.rows.now c.loop-row.row-index c.row-item.result c.loop-row-test.true c.row-item.is
    c.loop-row.invariant
    (subst (λ (x : List ℕ). FitsRow c.args.nets.now x) c.as_slice.ensures (c.fits_row.ensures.0 c.if-not-fits_row.false))

pub returns : goal.returns
returns c = (
  λ yes. all-whole (FitsRow c.args.nets.now) c.args.rows.now c.loop-row.row-index c.loop-row-test.false c.loop-row.invariant,
  λ all. refl,
)
