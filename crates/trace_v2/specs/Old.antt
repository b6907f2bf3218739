-- *Encoding* of version 1: the bytes of an old trace as a concatenation (this project's profile). All numbers are big-endian.
--
--   VIDITRC1 | channel count | channels | packets | 00, packet count (4 bytes)
--   a packet: 01 | start mask | end mask | contents of the starting channels
--
-- Channels, masks, contents and the end are spelled as they are today.
use Rattle.std.specs.Prelude.{◌≡◌, ◌≢◌, ℕ, ◌<◌, ◌≤◌, ◌^◌, Bool, false, List, ◌∷◌, ◌++◌, length, codes, All, nat_eq, sum_by}
use Rattle.std.specs.List.{AllPairs, flat_map, starts_with}
use Rattle.trace_code.specs.trace_model.declared.channel.Channel.{Channel}
use Rattle.trace_code.specs.trace_model.declared.packet.Packet.{Packet}
use Rattle.trace_code.specs.trace_model.declared.trace.Trace.{Trace}
use Rattle.trace_code.specs.trace_model.Channel.{content_bytes, IsChannel}
use Rattle.trace_code.specs.trace_model.Packet.{widths_under, IsPacket}
use Rattle.trace_code.specs.trace_model.Trace.{IsWellFormed}
use Rattle.trace_code.specs.Encoding.{table_bytes, mask_bytes, number_bytes, end_mark}
use Rattle.trace_v2.specs.declared.header.TheConstants.{MOST_OLD_CHANNELS, MOST_OLD_CONTENT_BYTES}

abbrev pub old_magic : List ℕ
old_magic = codes "VIDITRC1"

-- the bytes begin as those of an old trace do
abbrev pub begins_old : List ℕ → Bool
begins_old bytes = starts_with nat_eq bytes old_magic

abbrev pub old_header_bytes : List Channel → List ℕ
old_header_bytes channels = table_bytes old_magic channels

abbrev pub old_packet_bytes : List Channel → Packet → List ℕ
old_packet_bytes channels p = 1 ∷ (mask_bytes (length channels) p.starts
    ++ (mask_bytes (length channels) p.ends ++ number_bytes (widths_under p.starts channels) p.contents))

abbrev pub old_encode : Trace → List ℕ
old_encode t = old_header_bytes t.channels ++ (flat_map (old_packet_bytes t.channels) t.packets ++ end_mark (length t.packets))

-- a lawful table of version 1: 1 to 32 channels, whose names differ, with at most 1,024 content bytes in all
pub record IsOldTable (channels : List Channel) : Type 0 where
  pub some : 1 ≤ length channels
  pub few : length channels ≤ MOST_OLD_CHANNELS
  pub each : All IsChannel channels
  pub differ : AllPairs (λ (a b : Channel). a.name ≢ b.name) channels
  pub content : sum_by content_bytes channels ≤ MOST_OLD_CONTENT_BYTES

-- version 1 has neither gaps nor resets
abbrev pub IsPlain : Packet → Type 0
IsPlain p = (p.gap ≡ 0) × (p.reset ≡ false)

abbrev pub IsOldPacket : List Channel → Packet → Type 0
IsOldPacket channels p = IsPacket channels p × IsPlain p

abbrev pub IsOld : Trace → Type 0
IsOld t = All IsPlain t.packets

-- the traces that have an encoding of version 1
pub record HasOldEncoding (t : Trace) : Type 0 where
  pub table : IsOldTable t.channels
  pub old : IsOld t
  pub well_formed : IsWellFormed t
  pub few : length t.packets < 2 ^ 32

-- the bytes are the old encoding of t
abbrev pub EncodesOld : Trace → List ℕ → Type 0
EncodesOld t bytes = HasOldEncoding t × (old_encode t ≡ bytes)
