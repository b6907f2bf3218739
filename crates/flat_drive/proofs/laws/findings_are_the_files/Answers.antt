use Rattle.flat_drive.proofs.Told.{all_told}
use Rattle.flat_drive.proofs.laws.findings_are_the_files.Goals as goal

pub returns : goal.returns
returns c = λ is drivers blocks h k. all_told is drivers blocks h k
