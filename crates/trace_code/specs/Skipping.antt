-- Passing over the packets of a trace, in the manner of `PacketReading`.
use Rattle.std.specs.Prelude.{◌≡◌, ℕ, Bool, List, [], ◌∷◌, ◌++◌, Option, Some, None}
use Rattle.vec_clock.specs.trace_model.declared.channel.Channel.{Channel}
use Rattle.vec_clock.specs.trace_model.declared.packet.Packet.{Packet}
use Rattle.vec_clock.specs.trace_model.Packet.{IsPacket}
use Rattle.vec_clock.specs.trace_model.Epoch.{since_reset}
use Rattle.vec_clock.specs.trace_model.Trace.{AlternateThroughout, InFlight}
use Rattle.trace_code.specs.Encoding.{packet_bytes}

-- What a function returned, completed by what it didn't keep, is what reading gives.
abbrev pub Passes : {X Y A : Type 0} → (X → Y → A) → Option Y → Option A → Type 0
Passes {X} made (Some y) read = (x : X) × (read ≡ Some (made x y))
Passes made None read = read ≡ None

-- a packet of which the gap and the contents weren't kept
abbrev pub packet_with : ℕ × List ℕ → Bool → ℕ → ℕ → Packet
packet_with others reset starts ends = record { gap = others.0; reset = reset; starts = starts; ends = ends; contents = others.1 }

-- a packet at the front of the bytes that is lawful after packets that leave `flying` in flight, and leaves `after`
pub record Follows (channels : List Channel) (bytes : List ℕ) (flying after : ℕ) (rest : List ℕ) : Type 0 where
  pub packet : Packet
  pub lawful : IsPacket channels packet
  pub parts : bytes ≡ packet_bytes channels packet ++ rest
  pub goes_on : (ps : List Packet) → AlternateThroughout ps → InFlight (since_reset ps) flying → AlternateThroughout (ps ++ packet ∷ [])
      × InFlight (since_reset (ps ++ packet ∷ [])) after
