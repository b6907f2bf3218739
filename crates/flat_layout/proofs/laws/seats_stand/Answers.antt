use Rattle.flat_layout.proofs.Standing.{seats_stand}
use Rattle.flat_layout.proofs.laws.seats_stand.Goals as goal

pub returns : goal.returns
returns c = seats_stand
