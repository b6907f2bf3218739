-- What an environment offers on its channels, as the offers of a run (AMBA AXI4 IHI 0022, A3.2.1).
use Rattle.std.specs.Prelude.{◌≡◌, ℕ, true, false, if◌then◌else◌, List, [], ◌∷◌, ◌++◌, Some, length, map, slice_get, slice_index}
use Rattle.std.specs.List.{range_with_len}
use Rattle.run_model.specs.trace_model.declared.channel.Channel.{Channel}
use Rattle.run_model.specs.trace_model.declared.row.Offers.{Offers}
use Rattle.run_model.specs.trace_model.declared.row.Row.{Row}
use Rattle.run_model.specs.trace_model.Row.{completes}
use Rattle.run_model.specs.Building.{joined, mask_of}
use Rattle.run_model.specs.Offers.{no_content}
use Rattle.env_script.specs.Offer.{Offer, Carries, FitsOffer}

-- the numbers on channel c: the content that is offered, else 0 for each port
abbrev pub numbers_on : List Channel → (ℕ → Offer) → ℕ → List ℕ
numbers_on channels offer c = if (offer c).valid then (offer c).content else no_content channels c

-- what is offered on each channel: bit c of a mask is channel c
abbrev pub offers_on : List Channel → (ℕ → Offer) → Offers
offers_on channels offer = record {
  valids = mask_of (λ c. (offer c).valid) (length channels);
  readies = mask_of (λ c. (offer c).ready) (length channels);
  contents = joined (numbers_on channels offer) 0 channels;
}

-- what is offered after the rows before
abbrev pub offers_after : List Channel → (List Row → ℕ → Offer) → List Row → Offers
offers_after channels offer before = offers_on channels (offer before)

-- each channel's offer is one that it may have
abbrev pub AllFit : List Channel → (ℕ → Offer) → Type 0
AllFit channels offer = (c : ℕ) (x : Channel) → slice_get channels c ≡ Some x → FitsOffer x (offer c)

-- what any environment keeps to: each offer fits its channel, and a valid with its content stays until it is taken (A3.2.1)
pub record AreLasting (channels : List Channel) (offer : List Row → ℕ → Offer) : Type 0 where
  pub fits : (rows : List Row) → AllFit channels (offer rows)
  pub stays : (rows : List Row) (row : Row) (c : ℕ) → Carries channels (offer rows) row → (offer rows c).valid ≡ true → completes row c ≡ false
      → offer (rows ++ row ∷ []) c ≡ offer rows c

-- the numbers of n ports, port by port; a port without a number has 0
abbrev pub port_numbers : ℕ → List ℕ → List ℕ
port_numbers n content = map (λ port. slice_index content port) (range_with_len 0 n)
