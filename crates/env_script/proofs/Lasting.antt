-- The offers of an environment, and of a script, last.
use Rattle.std.proofs.Common.{◌≡◌, ℕ, List, [], ◌∷◌, ◌++◌, append_assoc, sym, subst}
use Rattle.run_model.specs.trace_model.declared.channel.Channel.{Channel}
use Rattle.run_model.specs.trace_model.declared.row.Row.{Row}
use Rattle.run_model.specs.Laws.{OffersFit, OffersStay}
use Rattle.env_script.specs.Offer.{Offer}
use Rattle.env_script.proofs.Kept.{all_fit, stays_on}
use Rattle.env_script.specs.Laws.{LastingOffers, ScriptLasts}
use Rattle.env_script.specs.Offered.{offers_after, AreLasting}
use Rattle.env_script.proofs.OfferLaws.{are-offers, carries-each, stays-offered}

pub offers-fit : (channels : List Channel) (offer : List Row → ℕ → Offer) → AreLasting channels offer
    → OffersFit channels (offers_after channels offer)
offers-fit channels offer lasting before are = are-offers channels (offer before) (lasting.fits before)

pub offers-stay : (channels : List Channel) (offer : List Row → ℕ → Offer) → AreLasting channels offer
    → OffersStay channels (offers_after channels offer)
offers-stay channels offer lasting before row are carries c x at dir up unended =
    stays-offered channels (offer before) (offer (before ++ row ∷ [])) (lasting.fits before) (lasting.fits (before ++ row ∷ [])) c x at up
    (λ was. lasting.stays before row c (carries-each channels (offer before) (lasting.fits before) row carries) was unended)

-- so it is behind some rows
pub lasting-behind : (channels : List Channel) (offer : List Row → ℕ → Offer) → AreLasting channels offer → (past : List Row)
    → AreLasting channels (λ before. offer (past ++ before))
lasting-behind channels offer lasting past = record {
  fits = λ rows. lasting.fits (past ++ rows);
  stays = λ rows row c carries was unended. subst (λ (rs : List Row). offer rs c ≡ offer (past ++ rows) c)
      (append_assoc past rows (row ∷ [])) (lasting.stays (past ++ rows) row c carries was unended);
}

pub lasting-offers : LastingOffers
lasting-offers channels offer lasting = (offers-fit channels offer lasting, offers-stay channels offer lasting)

pub script-lasts : ScriptLasts
script-lasts channels script fits = record {
  fits = λ rows c x at. all_fit channels script rows c x fits at;
  stays = λ rows row c carries up unended. stays_on script rows row c up unended;
}
