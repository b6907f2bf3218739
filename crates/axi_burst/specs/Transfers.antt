-- The completed transactions of a channel, and what they say by the places of an AXI file (AMBA AXI4 IHI 0022, A3.4).
use Rattle.std.specs.Prelude.{ℕ, ◌^◌, ◌+◌, ◌==◌, ◌<◌, List, map, Option, None, Some, slice_index}
use Rattle.std.specs.List.{filter, zip, enumerate_from}
use Rattle.trace_model.specs.declared.event.Kind.TheVariants.{End}
use Rattle.trace_model.specs.declared.packet.Packet.{Packet}
use Rattle.trace_model.specs.declared.trace.Trace.{Trace}
use Rattle.trace_model.specs.Packet.{does}
use Rattle.trace_model.specs.Recording.{recorded}
use Rattle.axi_burst.specs.declared.axi.AddressPorts.{AddressPorts}
use Rattle.axi_burst.specs.declared.transfers.Address.{Address}
use Rattle.axi_burst.specs.declared.transfers.Beat.{Beat}

-- a transaction with its completion: its content, and the packet of its completion
pub record Transfer : Type 0 where
  pub content : List ℕ
  pub at : ℕ

-- the packets in which a channel completes, the first having number n
abbrev pub end_places_from : ℕ → ℕ → List Packet → List ℕ
end_places_from c n packets = map (λ (x : ℕ × Packet). x.0) (filter (λ (x : ℕ × Packet). does End c x.1) (enumerate_from n packets))

abbrev pub end_places : ℕ → List Packet → List ℕ
end_places c packets = end_places_from c 0 packets

-- those of channel c in order: the j-th start beside the j-th completion, as long as both are there
abbrev pub transfers : Trace → ℕ → List Transfer
transfers t c = map (λ (x : List ℕ × ℕ). record { content = x.0; at = x.1 }) (zip (recorded t.channels t.packets c) (end_places c t.packets))

-- the number at a place, or what `none` counts as
abbrev pub field : ℕ → Option ℕ → List ℕ → ℕ
field default None content = default
field default (Some place) content = slice_index content place

-- ---- an address: a burst of so many beats of so many bytes
abbrev pub size_of : ℕ → Option ℕ → List ℕ → ℕ
size_of beat None content = beat
size_of beat (Some place) content = 2 ^ slice_index content place

abbrev pub address : ℕ → AddressPorts → Transfer → Address
address beat ports x = record {
  id = field 0 ports.id x.content;
  addr = slice_index x.content ports.addr;
  beats = field 0 ports.len x.content + 1;
  size = size_of beat ports.size x.content;
  burst = field 1 ports.burst x.content;
  at = x.at;
}

abbrev pub addresses : ℕ → AddressPorts → Trace → List Address
addresses beat ports t = map (address beat ports) (transfers t ports.channel)

-- ---- a beat of data, or a response: its ID, whether it shows LAST, and its packet
abbrev pub beat_of : Option ℕ → Option ℕ → Transfer → Beat
beat_of id last x = record { id = field 0 id x.content; last = field 1 last x.content == 1; at = x.at }

abbrev pub beats : Option ℕ → Option ℕ → Trace → ℕ → List Beat
beats id last t c = map (beat_of id last) (transfers t c)

-- ---- how code finds them: what begins, and then where it completes
abbrev pub begun_address : ℕ → AddressPorts → List ℕ → Address
begun_address beat ports content = address beat ports (record { content = content; at = 0 })

abbrev pub begun_beat : Option ℕ → Option ℕ → List ℕ → Beat
begun_beat id last content = beat_of id last (record { content = content; at = 0 })

abbrev pub address_to : Address × ℕ → Address
address_to x = record x.0 { at = x.1 }

abbrev pub beat_to : Beat × ℕ → Beat
beat_to x = record x.0 { at = x.1 }

-- the numbers of an address are as small as their ports are narrow
pub record FitsAddress (ports : AddressPorts) (content : List ℕ) : Type 0 where
  pub len : field 0 ports.len content < 2 ^ 8
  pub size : field 0 ports.size content < 2 ^ 3
  pub addr : slice_index content ports.addr < 2 ^ 64
