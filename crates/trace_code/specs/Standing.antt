-- Where a reader stands among the packets of a trace.
use Rattle.std.specs.Prelude.{◌≡◌, ℕ, ◌<◌, ◌≤◌, Bool, List, ◌++◌, length, drop, take, map}
use Rattle.std.specs.List.{flat_map}
use Rattle.vec_clock.specs.trace_model.declared.event.Kind.{Kind}
use Rattle.vec_clock.specs.trace_model.declared.packet.Packet.{Packet}
use Rattle.vec_clock.specs.trace_model.declared.trace.Trace.{Trace}
use Rattle.vec_clock.specs.trace_model.Channel.{content_bytes}
use Rattle.vec_clock.specs.trace_model.Counting.{IsNth}
use Rattle.vec_clock.specs.trace_model.Packet.{does, count}
use Rattle.trace_code.specs.Encoding.{HasEncoding, packet_bytes, end_mark}
use Rattle.trace_code.specs.Counted.{Counted, counts_of}
use Rattle.trace_code.specs.Heads.{IsHead}

-- the bytes of a trace from packet p on
abbrev pub bytes_from : Trace → ℕ → List ℕ
bytes_from t p = flat_map (packet_bytes t.channels) (drop p t.packets) ++ end_mark (length t.packets)

-- packet p, or the end, stands at the front of the bytes; the counts are those before packet p
pub record IsAt (t : Trace) (p : ℕ) (sizes rest : List ℕ) (counts : Counted) : Type 0 where
  pub encoding : HasEncoding t
  pub sizes_are : sizes ≡ map content_bytes t.channels
  pub within : p ≤ length t.packets
  pub parts : rest ≡ bytes_from t p
  pub counts_are : counts ≡ counts_of (length t.channels) (take p t.packets)

-- event j of this kind on channel c stands there, in the packet with this head, or the end where there is none
pub record StandsAt (t : Trace) (kind : Kind) (c j : ℕ) (sizes rest : List ℕ) (counts : Counted) (reset : Bool) (starts ends : ℕ)
    : Type 0 where
  pub place : ℕ
  pub at : IsAt t place sizes rest counts
  pub before : count kind c (take place t.packets) ≡ j
  pub next : place < length t.packets → (packet : Packet) × IsNth (does kind c) t.packets j place packet
  pub head : place < length t.packets → IsHead (length sizes) reset starts ends rest
