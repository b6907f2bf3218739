use Rattle.net_words.proofs.runs.fits.Goals as goal
use Rattle.net_words.proofs.PinLaws.{settled_fits}

pub returns : goal.returns
returns c =
    λ t. settled_fits c.args.design.now c.requires c.args.state.now c.args.settled.now c.args.pins.now (c.in_ok-is_one.ensures.0 t)
