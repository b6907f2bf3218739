-- What the environment of a design of two channels offers in a cycle.
use Rattle.run_reference.specs.trace_model.declared.row.Offers.{Offers}
use Rattle.run_reference.specs.trace_model.Row.{AreOffers}
use Rattle.run_reference.specs.run_model.Offers.{AreZeroWhileDown}
use Rattle.sample_designs.specs.Stage.{stage_channels}

-- offers that a run and a shell of a stage take
pub record IsSend (offers : Offers) : Type 0 where
  pub fit : AreOffers stage_channels offers
  pub zeros : AreZeroWhileDown stage_channels offers
