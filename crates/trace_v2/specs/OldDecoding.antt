-- What `decode_v1` and `salvage_v1` answer for these bytes, as `Decoding` and `Salvage` of trace_code say it of today's version.
use Rattle.std.specs.Prelude.{◌≡◌, ◌≢◌, ℕ, ◌+◌, ◌≤◌, ◌⊎◌, List, ◌++◌, length, Result, Ok, Err, All}
use Rattle.std.specs.List.{flat_map}
use Rattle.trace_code.specs.declared.error.CodeError.{CodeError}
use Rattle.trace_code.specs.declared.error.CodeError.TheVariants.{BadTrace, Memory}
use Rattle.trace_code.specs.trace_model.declared.channel.Channel.{Channel}
use Rattle.trace_code.specs.trace_model.declared.packet.Packet.{Packet}
use Rattle.trace_code.specs.trace_model.declared.trace.Trace.{Trace}
use Rattle.trace_code.specs.trace_model.Trace.{Alternates}
use Rattle.trace_v2.specs.Old.{IsOldTable, IsOldPacket, old_header_bytes, old_packet_bytes, EncodesOld}

-- the bytes are a lawful header, these packets, each whole and lawful after those before it, and a rest
pub record SplitsOld (bytes : List ℕ) (channels : List Channel) (packets : List Packet) (rest : List ℕ) : Type 0 where
  pub table : IsOldTable channels
  pub each : All (IsOldPacket channels) packets
  pub alternate : Alternates packets
  pub parts : bytes ≡ old_header_bytes channels ++ (flat_map (old_packet_bytes channels) packets ++ rest)

-- there is no longer list of such packets
pub record SplitsOldLongest (bytes : List ℕ) (channels : List Channel) (packets : List Packet) (rest : List ℕ) : Type 0 where
  pub splits : SplitsOld bytes channels packets rest
  pub most : (more : List Packet) (left : List ℕ) → SplitsOld bytes channels more left → length more ≤ length packets

abbrev pub HasNoOldHeader : List ℕ → Type 0
HasNoOldHeader bytes = (channels : List Channel) (rest : List ℕ) → IsOldTable channels → bytes ≢ old_header_bytes channels ++ rest

-- behind the header and the longest list of packets
pub record IsBehindOldPackets (bytes : List ℕ) (at : ℕ) : Type 0 where
  pub channels : List Channel
  pub packets : List Packet
  pub rest : List ℕ
  pub longest : SplitsOldLongest bytes channels packets rest
  pub place : at ≡ length (old_header_bytes channels) + length (flat_map (old_packet_bytes channels) packets)

-- The place of a fault: the length of the header and of the whole lawful packets before it, 0 where the header is at fault.
abbrev pub IsOldFaultAt : List ℕ → ℕ → Type 0
IsOldFaultAt bytes at = (HasNoOldHeader bytes × (at ≡ 0)) ⊎ IsBehindOldPackets bytes at

abbrev pub DecodesOld : List ℕ → Result Trace CodeError → Type 0
DecodesOld bytes (Ok t) = EncodesOld t bytes
DecodesOld bytes (Err (BadTrace at)) = IsOldFaultAt bytes at × ((t : Trace) → ¬ EncodesOld t bytes)
DecodesOld bytes (Err Memory) = Unit {0}

-- the header that begins the bytes, and the longest list of whole lawful packets behind it
abbrev pub SalvagesOld : List ℕ → Result Trace CodeError → Type 0
SalvagesOld bytes (Ok t) = (rest : List ℕ) × SplitsOldLongest bytes t.channels t.packets rest
SalvagesOld bytes (Err (BadTrace at)) = HasNoOldHeader bytes × (at ≡ 0)
SalvagesOld bytes (Err Memory) = Unit {0}

-- no bytes have two readings
abbrev pub OneOldReading : Type 0
OneOldReading = (bytes : List ℕ) (t u : Trace) → EncodesOld t bytes → EncodesOld u bytes → t ≡ u

-- a fault has one place
abbrev pub OneOldPlace : Type 0
OneOldPlace = (bytes : List ℕ) (a b : ℕ) → IsOldFaultAt bytes a → IsOldFaultAt bytes b → a ≡ b

-- no bytes are salvaged in two ways, unless memory runs out
abbrev pub OneOldSalvage : Type 0
OneOldSalvage = (bytes : List ℕ) (a b : Result Trace CodeError) → SalvagesOld bytes a → SalvagesOld bytes b
    → (a ≡ Err Memory) ⊎ (b ≡ Err Memory) ⊎ (a ≡ b)
