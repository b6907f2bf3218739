-- What follows for the offers of an environment, and for those of a script.
use Rattle.std.specs.Prelude.{ℕ, List}
use Rattle.run_model.specs.trace_model.declared.channel.Channel.{Channel}
use Rattle.run_model.specs.trace_model.declared.row.Row.{Row}
use Rattle.run_model.specs.Laws.{OffersFit, OffersStay}
use Rattle.env_script.specs.declared.script.Script.{Script}
use Rattle.env_script.specs.Fits.{FitsChannels}
use Rattle.env_script.specs.Offer.{Offer}
use Rattle.env_script.specs.ScriptOffer.{script_offer}
use Rattle.env_script.specs.Offered.{offers_after, AreLasting}

-- as the offers of a run they are of the channels, and stay until they are taken
abbrev pub LastingOffers : Type 0
LastingOffers = (channels : List Channel) (offer : List Row → ℕ → Offer) → AreLasting channels offer
    → OffersFit channels (offers_after channels offer) × OffersStay channels (offers_after channels offer)

-- a script's offers are such
abbrev pub ScriptLasts : Type 0
ScriptLasts = (channels : List Channel) (script : Script) → FitsChannels channels script → AreLasting channels (script_offer script)
