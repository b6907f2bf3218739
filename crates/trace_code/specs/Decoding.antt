-- What `decode` answers for these bytes: the trace that they encode, or the place of the fault.
use Rattle.std.specs.Prelude.{◌≡◌, ◌≢◌, ℕ, ◌+◌, ◌≤◌, ◌⊎◌, List, ◌++◌, length, Result, Ok, Err, All}
use Rattle.std.specs.List.{flat_map}
use Rattle.vec_clock.specs.trace_model.declared.channel.Channel.{Channel}
use Rattle.vec_clock.specs.trace_model.declared.packet.Packet.{Packet}
use Rattle.vec_clock.specs.trace_model.declared.trace.Trace.{Trace}
use Rattle.vec_clock.specs.trace_model.Channel.{IsTable}
use Rattle.vec_clock.specs.trace_model.Packet.{IsPacket}
use Rattle.vec_clock.specs.trace_model.Trace.{AlternateThroughout}
use Rattle.trace_code.specs.declared.error.CodeError.{CodeError}
use Rattle.trace_code.specs.declared.error.CodeError.TheVariants.{BadTrace, Memory}
use Rattle.trace_code.specs.Encoding.{header_bytes, packet_bytes, Encodes, HasEncoding, encode}

-- the bytes are a lawful header, these packets, each whole and lawful after those before it, and a rest
pub record Splits (bytes : List ℕ) (channels : List Channel) (packets : List Packet) (rest : List ℕ) : Type 0 where
  pub table : IsTable channels
  pub each : All (IsPacket channels) packets
  pub alternate : AlternateThroughout packets
  pub parts : bytes ≡ header_bytes channels ++ (flat_map (packet_bytes channels) packets ++ rest)

-- there is no longer list of such packets
pub record SplitsLongest (bytes : List ℕ) (channels : List Channel) (packets : List Packet) (rest : List ℕ) : Type 0 where
  pub splits : Splits bytes channels packets rest
  pub most : (more : List Packet) (left : List ℕ) → Splits bytes channels more left → length more ≤ length packets

abbrev pub HasNoHeader : List ℕ → Type 0
HasNoHeader bytes = (channels : List Channel) (rest : List ℕ) → IsTable channels → bytes ≢ header_bytes channels ++ rest

-- behind the header and the longest list of packets
pub record IsBehindPackets (bytes : List ℕ) (at : ℕ) : Type 0 where
  pub channels : List Channel
  pub packets : List Packet
  pub rest : List ℕ
  pub longest : SplitsLongest bytes channels packets rest
  pub place : at ≡ length (header_bytes channels) + length (flat_map (packet_bytes channels) packets)

-- The place of a fault: the length of the header and of the whole lawful packets before it, 0 where the header is at fault.
abbrev pub IsFaultAt : List ℕ → ℕ → Type 0
IsFaultAt bytes at = (HasNoHeader bytes × (at ≡ 0)) ⊎ IsBehindPackets bytes at

abbrev pub Decodes : List ℕ → Result Trace CodeError → Type 0
Decodes bytes (Ok t) = Encodes t bytes
Decodes bytes (Err (BadTrace at)) = IsFaultAt bytes at × ((t : Trace) → ¬ Encodes t bytes)
Decodes bytes (Err Memory) = Unit {0}

-- no bytes have two readings
abbrev pub OneReading : Type 0
OneReading = (bytes : List ℕ) (t u : Trace) → Encodes t bytes → Encodes u bytes → t ≡ u

-- a fault has one place
abbrev pub OnePlace : Type 0
OnePlace = (bytes : List ℕ) (a b : ℕ) → IsFaultAt bytes a → IsFaultAt bytes b → a ≡ b

-- what is encoded decodes to itself, unless memory runs out
abbrev pub ReadsBack : Type 0
ReadsBack = (t : Trace) (result : Result Trace CodeError) → HasEncoding t → Decodes (encode t) result → (result ≡ Ok t)
    ⊎ (result ≡ Err Memory)
