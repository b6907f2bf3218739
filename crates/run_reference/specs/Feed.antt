-- What a replay offers after its rows, in the manner of the code.
use Rattle.std.specs.Prelude.{ℕ, ◌&&◌, Bool, not, if◌then◌else◌, List, Option, Some, None, length, slice_get, is_some}
use Rattle.run_model.specs.trace_model.declared.channel.Channel.{Channel}
use Rattle.run_model.specs.trace_model.declared.event.Event.{Event}
use Rattle.run_model.specs.trace_model.declared.event.Kind.{Kind}
use Rattle.run_model.specs.trace_model.declared.event.Kind.TheVariants.{Start, End}
use Rattle.run_model.specs.trace_model.declared.packet.Packet.{Packet}
use Rattle.run_model.specs.trace_model.declared.row.Offers.{Offers}
use Rattle.run_model.specs.trace_model.declared.row.Row.{Row}
use Rattle.run_model.specs.trace_model.Clock.{clock}
use Rattle.run_model.specs.trace_model.Packet.{content_of}
use Rattle.run_model.specs.vidi_bits.Findings.{is_nil}
use Rattle.run_model.specs.Building.{mask_of, joined}
use Rattle.run_model.specs.declared.held.Held.{Held}
use Rattle.run_model.specs.Held.{awaits, event, is_held, packet_place}
use Rattle.run_model.specs.Offers.{no_content}
use Rattle.run_model.specs.Replay.{done}

-- the place, where the completions in the rows cover its clock
abbrev pub if_covered : List Channel → List Packet → List Row → Option ℕ → Option ℕ
if_covered channels packets rows None = None
if_covered channels packets rows (Some p) = if is_nil (awaits channels (done rows) (clock packets p)) then Some p else None

-- the packet in which the next start, or completion, of channel c is recorded, where its clock is covered
abbrev pub covered_place : List Channel → List Packet → List Row → Kind → ℕ → Option ℕ
covered_place channels packets rows kind c = if_covered channels packets rows (packet_place packets (event c kind (done rows c)))

abbrev pub is_offered : List Channel → List Packet → List Row → Kind → ℕ → Bool
is_offered channels packets rows kind c = is_some (covered_place channels packets rows kind c)

-- the content that a packet records of channel c, 0 for each port where there is none
abbrev pub packet_content : List Channel → ℕ → Option Packet → List ℕ
packet_content channels c None = no_content channels c
packet_content channels c (Some packet) = content_of channels packet c

abbrev pub content_in : List Channel → List Packet → ℕ → Option ℕ → List ℕ
content_in channels packets c None = no_content channels c
content_in channels packets c (Some p) = packet_content channels c (slice_get packets p)

abbrev pub feed : List Channel → List Packet → List Row → Offers
feed channels packets rows = record {
  valids = mask_of (is_offered channels packets rows Start) (length channels);
  readies = mask_of (is_offered channels packets rows End) (length channels);
  contents = joined (λ c. content_in channels packets c (covered_place channels packets rows Start c)) 0 channels;
}

-- an event that is recorded and isn't one of those held back
abbrev pub is_waiting : List Held → List Packet → Event → Bool
is_waiting helds packets e = is_some (packet_place packets e) && not (is_held helds e)
