-- Reading the packets of an old trace, in the manner of `Reading` of trace_code.
use Rattle.std.specs.Prelude.{◌≡◌, ◌≢◌, ℕ, ◌==◌, List, [], ◌∷◌, ◌++◌, length, Option, Some, None, if◌then◌else◌, All}
use Rattle.std.specs.List.{flat_map}
use Rattle.trace_code.specs.trace_model.declared.channel.Channel.{Channel}
use Rattle.trace_code.specs.trace_model.declared.packet.Packet.{Packet}
use Rattle.trace_code.specs.trace_model.Packet.{plain_packet, widths_under}
use Rattle.trace_code.specs.trace_model.Trace.{Alternates}
use Rattle.trace_code.specs.Reading.{◌>>=◌}
use Rattle.trace_code.specs.PacketReading.{masks_at, numbers_at}
use Rattle.trace_v2.specs.Old.{IsOldPacket, old_packet_bytes}

-- the byte of a packet
unfoldable pub old_tag_at : List ℕ → Option (List ℕ)
old_tag_at [] = None
old_tag_at (b ∷ rest) = if b == 1 then Some rest else None

unfoldable pub old_packet_at : List Channel → List ℕ → Option (Packet × List ℕ)
old_packet_at channels bytes = do
  rest ← old_tag_at bytes
  masks ← masks_at (length channels) rest
  contents ← numbers_at (widths_under masks.0 channels) masks.2
  Some (plain_packet masks.0 masks.1 contents.0, contents.1)

-- the bytes are these packets, each lawful after those before it, and a rest that begins with none that is lawful after them
pub record AreAllOld (channels : List Channel) (bytes : List ℕ) (packets : List Packet) (rest : List ℕ) : Type 0 where
  pub each : All (IsOldPacket channels) packets
  pub alternate : Alternates packets
  pub parts : bytes ≡ flat_map (old_packet_bytes channels) packets ++ rest
  pub last : (p : Packet) (after : List ℕ) → IsOldPacket channels p → Alternates (packets ++ p ∷ [])
      → rest ≢ old_packet_bytes channels p ++ after
