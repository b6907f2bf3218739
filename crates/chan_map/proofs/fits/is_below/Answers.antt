use Rattle.std.proofs.Math.Facts.{Fits-lt-pow}
use Rattle.std.proofs.lemmas.Bool.{eqb-true, eq-eqb, le-leb}
use Rattle.trace_model.proofs.ContentsLemmas.{below-wide, below-from_shift, shift-from_below}
use Rattle.chan_map.proofs.fits.is_below.Goals as goal

pub returns-then-width-ge128 : goal.returns-then-width-ge128
returns-then-width-ge128 c = (
  λ _. below-wide _ _
      (Fits-lt-pow c.ranges.number) c.if-width-ge128.true,
  λ _. le-leb _ _ c.if-width-ge128.true,
)

pub returns-else-width-ge128 : goal.returns-else-width-ge128
returns-else-width-ge128 c = (λ h. below-from_shift _ _ (eqb-true _ _ h), λ l. eq-eqb _ _ (shift-from_below _ _ l))
