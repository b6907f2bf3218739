-- The offers of an environment fit their channels, and a row that carries them carries each channel's offer.
use Rattle.std.proofs.Common.{◌≡◌, ℕ, zero, suc, true, false, cond, List, Some}
use Rattle.std.proofs.Common.{length, get_or, replicate, slice_get, ⊎_elim, refl, ap, sym, subst, ◌∙◌}
use Rattle.std.proofs.lemmas.Bool.{cases_Bool, cond-true, cond-false}
use Rattle.std.proofs.lemmas.Option.{slice_get_within}
use Rattle.env_script.proofs.Numbers.{zeros}
use Rattle.run_model.specs.vidi_bits.Number.{has}
use Rattle.run_model.specs.trace_model.declared.channel.Channel.{Channel}
use Rattle.run_model.specs.trace_model.declared.channel.Dir.{Dir}
use Rattle.run_model.specs.trace_model.declared.channel.Dir.TheVariants.{Inward, Outward}
use Rattle.run_model.specs.trace_model.declared.row.Offers.{Offers}
use Rattle.run_model.specs.trace_model.declared.row.Row.{Row}
use Rattle.run_model.specs.trace_model.Packet.{Fit, widths_of}
use Rattle.run_model.specs.trace_model.Row.{content_at, AreOffers}
use Rattle.run_model.specs.Offers.{no_content, offered_content, CarriesOn, Carries, AreZeroWhileDown}
use Rattle.run_model.proofs.Contents.{has-mask, mask-below, fit-joined, content-joined, fit-zeros}
use Rattle.env_script.specs.Offer.{Offer}
use Rattle.env_script.specs.Offer as Each
use Rattle.env_script.specs.Offered.{numbers_on, offers_on, AllFit}

-- ---- the numbers of a content

pub zero-at : (n i : ℕ) → get_or (zeros n) i 0 ≡ 0
zero-at zero i = refl
zero-at (suc n) zero = refl
zero-at (suc n) (suc i) = zero-at n i

module _ (channels : List Channel) (offer : ℕ → Offer) (fits : AllFit channels offer) where
  abbrev offers : Offers
  offers = offers_on channels offer

  widths-at : (c : ℕ) (x : Channel) → slice_get channels c ≡ Some x → widths_of (slice_get channels c) ≡ x.widths
  widths-at c x at = ap widths_of at

  up-numbers : (c : ℕ) → (offer c).valid ≡ true → numbers_on channels offer c ≡ (offer c).content
  up-numbers c up = cond-true (offer c).valid (offer c).content (no_content channels c) up

  down-numbers : (c : ℕ) → (offer c).valid ≡ false → numbers_on channels offer c ≡ no_content channels c
  down-numbers c down = cond-false (offer c).valid (offer c).content (no_content channels c) down

  numbers-fit : (c : ℕ) (x : Channel) → slice_get channels c ≡ Some x → Fit x.widths (numbers_on channels offer c)
  numbers-fit c x at = ⊎_elim
      (λ (up : (offer c).valid ≡ true). subst (Fit x.widths) (sym (up-numbers c up)) ((fits c x at).inward up).1)
      (λ (down : (offer c).valid ≡ false). subst (Fit x.widths)
      (sym (down-numbers c down ∙ ap (λ ws. replicate (length ws) 0) (widths-at c x at))) (fit-zeros x.widths))
      (cases_Bool (offer c).valid)

  pub are-offers : AreOffers channels offers
  are-offers = record {
    valids = mask-below (λ c. (offer c).valid) (length channels);
    readies = mask-below (λ c. (offer c).ready) (length channels);
    contents = fit-joined (numbers_on channels offer) channels numbers-fit;
  }

  content-is : (c : ℕ) (x : Channel) → slice_get channels c ≡ Some x → content_at channels offers.contents c ≡ numbers_on channels offer c
  content-is c x at = content-joined (numbers_on channels offer) channels numbers-fit c x at

  valid-is : (c : ℕ) (x : Channel) → slice_get channels c ≡ Some x → has offers.valids c ≡ (offer c).valid
  valid-is c x at = has-mask (λ k. (offer k).valid) (length channels) c (slice_get_within channels c x at)

  ready-is : (c : ℕ) (x : Channel) → slice_get channels c ≡ Some x → has offers.readies c ≡ (offer c).ready
  ready-is c x at = has-mask (λ k. (offer k).ready) (length channels) c (slice_get_within channels c x at)

  pub are-zero : AreZeroWhileDown channels offers
  are-zero c x at dir down = content-is c x at ∙ down-numbers c (sym (valid-is c x at) ∙ down)

  -- ---- rows that carry them
  inward : (row : Row) (c : ℕ) (dir : Dir) → dir ≡ Inward → CarriesOn channels offers row c dir
      → (has row.valids c ≡ has offers.valids c) × (content_at channels row.contents c ≡ offered_content channels offers c)
  inward row c Inward d h = h
  inward row c Outward d h = absurd (cc)

  outward : (row : Row) (c : ℕ) (dir : Dir) → dir ≡ Outward → CarriesOn channels offers row c dir
      → has row.readies c ≡ has offers.readies c
  outward row c Inward d h = absurd (cc)
  outward row c Outward d h = h

  content-of : (c : ℕ) (x : Channel) (port : ℕ) → slice_get channels c ≡ Some x
      → get_or (offered_content channels offers c) port 0 ≡ get_or (offer c).content port 0
  content-of c x port at = ⊎_elim
      (λ (up : (offer c).valid ≡ true).
      ap (λ xs. get_or xs port 0) (cond-true (has offers.valids c) _ _ (valid-is c x at ∙ up) ∙ content-is c x at ∙ up-numbers c up))
      (λ (down : (offer c).valid ≡ false).
      ap (λ xs. get_or xs port 0) (cond-false (has offers.valids c) _ _ (valid-is c x at ∙ down))
      ∙ zero-at (length (widths_of (slice_get channels c))) port
      ∙ sym (ap (λ xs. get_or xs port 0) ((fits c x at).empty down)))
      (cases_Bool (offer c).valid)

  pub carries-each : (row : Row) → Carries channels offers row → Each.Carries channels offer row
  carries-each row carries = record {
    valids = λ c x at dir. (inward row c x.dir dir (carries c x at)).0 ∙ valid-is c x at;
    contents = λ c x at dir port. ap (λ xs. get_or xs port 0) (inward row c x.dir dir (carries c x at)).1 ∙ content-of c x port at;
    readies = λ c x at dir. outward row c x.dir dir (carries c x at) ∙ ready-is c x at;
  }

-- ---- offers that stay
-- where a channel's offer is the same, so are its valid and its numbers
pub stays-offered : (channels : List Channel) (old new : ℕ → Offer) → AllFit channels old → AllFit channels new
    → (c : ℕ) (x : Channel) → slice_get channels c ≡ Some x → has (offers_on channels old).valids c ≡ true
    → ((old c).valid ≡ true → new c ≡ old c)
    → (has (offers_on channels new).valids c ≡ true)
    × (content_at channels (offers_on channels new).contents c ≡ content_at channels (offers_on channels old).contents c)
stays-offered channels old new fo fn c x at up stay =
    let was : (old c).valid ≡ true = sym (valid-is channels old fo c x at) ∙ up in
    let same = stay was in (
      valid-is channels new fn c x at ∙ ap (λ (o : Offer). o.valid) same ∙ was,
      content-is channels new fn c x at
          ∙ ap (λ (o : Offer). cond o.valid o.content (no_content channels c)) same
          ∙ sym (content-is channels old fo c x at),
    )
