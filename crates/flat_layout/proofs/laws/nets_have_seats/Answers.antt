use Rattle.flat_layout.proofs.Places.{have_seats, have_one_seat, are_those}
use Rattle.flat_layout.proofs.laws.nets_have_seats.Goals as goal

pub returns-clause-seats : goal.returns-clause-seats
returns-clause-seats c = have_seats

pub returns-clause-one : goal.returns-clause-one
returns-clause-one c = have_one_seat

pub returns-clause-those : goal.returns-clause-those
returns-clause-those c = are_those
