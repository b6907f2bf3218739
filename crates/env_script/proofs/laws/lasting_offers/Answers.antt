use Rattle.env_script.proofs.Lasting.{lasting-offers}
use Rattle.env_script.proofs.laws.lasting_offers.Goals as goal

pub returns : goal.returns
returns c = lasting-offers
