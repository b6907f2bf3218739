-- The environment's part of a row: what it offers.
use Rattle.std.specs.Prelude.{◌≡◌, ℕ, if◌then◌else◌, List, Some, length, replicate, slice_get, false}
use Rattle.chan_map.specs.vidi_bits.Number.{has}
use Rattle.chan_map.specs.trace_model.declared.channel.Channel.{Channel}
use Rattle.chan_map.specs.trace_model.declared.channel.Dir.{Dir}
use Rattle.chan_map.specs.trace_model.declared.channel.Dir.TheVariants.{Inward, Outward}
use Rattle.chan_map.specs.trace_model.declared.row.Offers.{Offers}
use Rattle.chan_map.specs.trace_model.declared.row.Row.{Row}
use Rattle.chan_map.specs.trace_model.Packet.{widths_of}
use Rattle.chan_map.specs.trace_model.Row.{content_at}

-- the content of channel c while its source has valid down: 0 for each port
abbrev pub no_content : List Channel → ℕ → List ℕ
no_content channels c = replicate (length (widths_of (slice_get channels c))) 0

abbrev pub offered_content : List Channel → Offers → ℕ → List ℕ
offered_content channels offers c = if has offers.valids c then content_at channels offers.contents c else no_content channels c

-- Inward: the row has the valid that is offered, and its content, 0 while the valid is down. Outward: it has the ready.
abbrev pub CarriesOn : List Channel → Offers → Row → ℕ → Dir → Type 0
CarriesOn channels offers row c Inward =
    (has row.valids c ≡ has offers.valids c) × (content_at channels row.contents c ≡ offered_content channels offers c)
CarriesOn channels offers row c Outward = has row.readies c ≡ has offers.readies c

-- the row has what is offered
abbrev pub Carries : List Channel → Offers → Row → Type 0
Carries channels offers row = (c : ℕ) (channel : Channel) → slice_get channels c ≡ Some channel
    → CarriesOn channels offers row c channel.dir

-- an inward channel's offered content is 0 while its offered valid is down
abbrev pub AreZeroWhileDown : List Channel → Offers → Type 0
AreZeroWhileDown channels offers = (c : ℕ) (x : Channel) → slice_get channels c ≡ Some x → x.dir ≡ Inward
    → has offers.valids c ≡ false → content_at channels offers.contents c ≡ no_content channels c
