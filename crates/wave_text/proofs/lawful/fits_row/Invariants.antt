use Rattle.wave_text.proofs.Fits.{FitBelow}
use Rattle.wave_text.proofs.lawful.fits_row.Given as goal

abbrev pub invariant-loop-n : goal.invariant-loop-n
invariant-loop-n l = FitBelow l.n l.nets l.row
