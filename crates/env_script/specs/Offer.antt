-- What an environment offers on a channel in a cycle, and rows that carry it (AMBA AXI4 IHI 0022, A3.2.1).
use Rattle.std.specs.Prelude.{◌≡◌, ℕ, Bool, true, false, List, [], Some, slice_get, slice_index}
use Rattle.run_model.specs.vidi_bits.Number.{has}
use Rattle.run_model.specs.trace_model.declared.channel.Channel.{Channel}
use Rattle.run_model.specs.trace_model.declared.channel.Dir.TheVariants.{Inward, Outward}
use Rattle.run_model.specs.trace_model.declared.row.Row.{Row}
use Rattle.run_model.specs.trace_model.Packet.{Fit}
use Rattle.run_model.specs.trace_model.Row.{content_at, completes}

-- a valid with its content, one number for each port, or a ready; a port without a number has 0
pub record Offer : Type 0 where
  pub valid : Bool
  pub content : List ℕ
  pub ready : Bool

abbrev pub nothing : Offer
nothing = record { valid = false; content = []; ready = false }

-- an offer that a channel may have: a valid on an inward one, with a content that fits, or a ready on an outward one
pub record FitsOffer (channel : Channel) (offer : Offer) : Type 0 where
  pub inward : offer.valid ≡ true → (channel.dir ≡ Inward) × Fit channel.widths offer.content
  pub outward : offer.ready ≡ true → channel.dir ≡ Outward
  pub empty : offer.valid ≡ false → offer.content ≡ []

-- a row carries what is offered: on inward channels the valids and the number on each port, on outward ones the readies
pub record Carries (channels : List Channel) (offer : ℕ → Offer) (row : Row) : Type 0 where
  pub valids : (c : ℕ) (channel : Channel) → slice_get channels c ≡ Some channel → channel.dir ≡ Inward
      → has row.valids c ≡ (offer c).valid
  pub contents : (c : ℕ) (channel : Channel) → slice_get channels c ≡ Some channel → channel.dir ≡ Inward
      → (port : ℕ) → slice_index (content_at channels row.contents c) port ≡ slice_index (offer c).content port
  pub readies : (c : ℕ) (channel : Channel) → slice_get channels c ≡ Some channel → channel.dir ≡ Outward
      → has row.readies c ≡ (offer c).ready

-- the row's ends are exactly its channels with valid, gate and ready
abbrev pub EndsAreCompletions : Row → Type 0
EndsAreCompletions row = (c : ℕ) → has row.ends c ≡ completes row c
