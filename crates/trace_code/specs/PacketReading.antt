-- Reading the packets of a trace, in the manner of `Reading`.
use Rattle.std.specs.Prelude.{◌≡◌, ◌≢◌, ℕ, ◌+◌, ◌*◌, ◌^◌, ◌==◌, Bool, true, false, List, [], ◌∷◌, ◌++◌, length, take, drop, Option, Some, None, nat_lt}
use Rattle.std.specs.Prelude.{if◌then◌else◌, All}
use Rattle.std.specs.List.{flat_map, fold}
use Rattle.vec_clock.specs.trace_model.declared.channel.Channel.{Channel}
use Rattle.vec_clock.specs.trace_model.declared.packet.Packet.{Packet}
use Rattle.vec_clock.specs.trace_model.Channel.{byte_count}
use Rattle.vec_clock.specs.trace_model.Packet.{is_bare, IsPacket, widths_under}
use Rattle.vec_clock.specs.trace_model.Recording.{reset_packet}
use Rattle.vec_clock.specs.trace_model.Trace.{AlternateThroughout}
use Rattle.vec_clock.specs.trace_model.Length.{mask_len}
use Rattle.trace_code.specs.Encoding.{packet_bytes}
use Rattle.trace_code.specs.Reading.{◌>>=◌}

-- the number in bytes, the lowest first
abbrev pub low_value : List ℕ → ℕ
low_value [] = 0
low_value (b ∷ bs) = b + 256 * low_value bs

-- the number in bytes, the highest first
unfoldable pub high_value : List ℕ → ℕ
high_value bytes = fold (λ high b. high * 256 + b) 0 bytes

-- the value of the first len bytes, where it is below the limit
unfoldable pub sized_at : (List ℕ → ℕ) → ℕ → ℕ → List ℕ → Option (ℕ × List ℕ)
sized_at value len limit bytes = if nat_lt (length bytes) len then None
    else (if nat_lt (value (take len bytes)) limit then Some (value (take len bytes), drop len bytes) else None)

-- the mask of n channels
abbrev pub mask_at : ℕ → List ℕ → Option (ℕ × List ℕ)
mask_at n bytes = sized_at low_value (mask_len n) (2 ^ n) bytes

-- a number of this width in bits
abbrev pub number_at : ℕ → List ℕ → Option (ℕ × List ℕ)
number_at width bytes = sized_at high_value (byte_count width) (2 ^ width) bytes

-- a number of each width
unfoldable pub numbers_at : List ℕ → List ℕ → Option (List ℕ × List ℕ)
numbers_at [] bytes = Some ([], bytes)
numbers_at (width ∷ widths) bytes = do
  first ← number_at width bytes
  others ← numbers_at widths first.1
  Some (first.0 ∷ others.0, others.1)

-- the byte of a packet: whether it is a reset
unfoldable pub tag_at : List ℕ → Option (Bool × List ℕ)
tag_at [] = None
tag_at (b ∷ rest) = if b == 1 then Some (false, rest) else (if b == 2 then Some (true, rest) else None)

-- the gap
unfoldable pub gap_at : List ℕ → Option (ℕ × List ℕ)
gap_at [] = None
gap_at (high ∷ []) = None
gap_at (high ∷ low ∷ rest) = Some (256 * high + low, rest)

-- the starts and the ends, of which there are some
unfoldable pub masks_at : ℕ → List ℕ → Option (ℕ × ℕ × List ℕ)
masks_at n bytes = do
  starts ← mask_at n bytes
  ends ← mask_at n starts.1
  if is_bare starts.0 ends.0 then None else Some (starts.0, ends.0, ends.1)

-- what a packet with events has behind its gap
unfoldable pub events_at : List Channel → ℕ → List ℕ → Option (Packet × List ℕ)
events_at channels gap bytes = do
  masks ← masks_at (length channels) bytes
  contents ← numbers_at (widths_under masks.0 channels) masks.2
  Some (record { gap = gap; reset = false; starts = masks.0; ends = masks.1; contents = contents.0 }, contents.1)

unfoldable pub packet_at : List Channel → List ℕ → Option (Packet × List ℕ)
packet_at channels bytes = do
  tag ← tag_at bytes
  gap ← gap_at tag.1
  if tag.0 then Some (reset_packet gap.0, gap.1) else events_at channels gap.0 gap.1

-- the bytes are these packets, each lawful after those before it, and a rest that begins with none that is lawful after them
pub record AreAll (channels : List Channel) (bytes : List ℕ) (packets : List Packet) (rest : List ℕ) : Type 0 where
  pub each : All (IsPacket channels) packets
  pub alternate : AlternateThroughout packets
  pub parts : bytes ≡ flat_map (packet_bytes channels) packets ++ rest
  pub last : (p : Packet) (after : List ℕ) → IsPacket channels p → AlternateThroughout (packets ++ p ∷ [])
      → rest ≢ packet_bytes channels p ++ after
