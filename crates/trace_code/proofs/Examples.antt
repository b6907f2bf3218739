-- *Encoding* computes to the bytes of worked examples.
use Rattle.std.proofs.Common.{◌≡◌, ℕ, List, [], ◌∷◌, ◌++◌, refl}
use Rattle.std.specs.Prelude.{codes}
use Rattle.std.specs.List.{flat_map}
use Rattle.vec_clock.specs.trace_model.declared.channel.Channel.{Channel}
use Rattle.vec_clock.specs.trace_model.declared.channel.Dir.TheVariants.{Inward, Outward}
use Rattle.vec_clock.specs.trace_model.declared.packet.Packet.{Packet}
use Rattle.vec_clock.specs.trace_model.Packet.{plain_packet}
use Rattle.vec_clock.specs.trace_model.Recording.{after_gap, reset_packet}
use Rattle.vec_clock.specs.trace_model.declared.trace.Trace.{Trace}
use Rattle.vec_clock.proofs.trace_model_lemmas.Examples.{pass}
use Rattle.trace_code.specs.Encoding.{encode, packet_bytes}

packet : ℕ → ℕ → List ℕ → Packet
packet starts ends contents = plain_packet starts ends contents

trace : List Packet → Trace
trace packets = record { channels = pass; packets = packets }

-- its header: VIDITRC2, two channels, and for each direction, name and width
header : List ℕ
header = 0x56 ∷ 0x49 ∷ 0x44 ∷ 0x49 ∷ 0x54 ∷ 0x52 ∷ 0x43 ∷ 0x32 ∷ 0x02 ∷ 0x00 ∷ 0x01 ∷ 0x61 ∷ 0x01 ∷ 0x08 ∷ 0x01 ∷ 0x01 ∷ 0x62 ∷ 0x01 ∷ 0x08
    ∷ []

-- nothing was sent
no_send : encode (trace []) ≡ header ++ 0 ∷ 0 ∷ 0 ∷ 0 ∷ 0 ∷ []
unfolding trace header
no_send = refl

-- 5 goes through
one_send : encode (trace (packet 1 1 (5 ∷ []) ∷ packet 2 2 (5 ∷ []) ∷ []))
    ≡ header ++ 1 ∷ 0 ∷ 0 ∷ 1 ∷ 1 ∷ 5 ∷ 1 ∷ 0 ∷ 0 ∷ 2 ∷ 2 ∷ 5 ∷ 0 ∷ 0 ∷ 0 ∷ 0 ∷ 2 ∷ []
unfolding trace header packet
one_send = refl

-- 5 and then 6 go through
two_sends : encode (trace (packet 1 1 (5 ∷ []) ∷ packet 3 2 (6 ∷ 5 ∷ []) ∷ packet 0 1 [] ∷ packet 2 2 (6 ∷ []) ∷ []))
    ≡ header ++ 1 ∷ 0 ∷ 0 ∷ 1 ∷ 1 ∷ 5 ∷ 1 ∷ 0 ∷ 0 ∷ 3 ∷ 2 ∷ 6 ∷ 5 ∷ 1 ∷ 0 ∷ 0 ∷ 0 ∷ 1 ∷ 1 ∷ 0 ∷ 0 ∷ 2 ∷ 2 ∷ 6 ∷ 0 ∷ 0 ∷ 0 ∷ 0 ∷ 4 ∷ []
unfolding trace header packet
two_sends = refl

-- a reset between them, one cycle and then none behind it
between : List ℕ
between = 1 ∷ 0 ∷ 0 ∷ 1 ∷ 1 ∷ 5 ∷ 2 ∷ 0 ∷ 0 ∷ 1 ∷ 0 ∷ 1 ∷ 1 ∷ 1 ∷ 6 ∷ 1 ∷ 0 ∷ 0 ∷ 2 ∷ 2 ∷ 6 ∷ 0 ∷ 0 ∷ 0 ∷ 0 ∷ 4 ∷ []

reset_between : encode (trace (packet 1 1 (5 ∷ []) ∷ reset_packet 0 ∷ after_gap 1 (packet 1 1 (6 ∷ [])) ∷ packet 2 2 (6 ∷ []) ∷ []))
    ≡ header ++ between
unfolding trace header packet between
reset_between = refl

-- a gap of 511 cycles
long_gap : packet_bytes pass (reset_packet 511) ≡ 2 ∷ 1 ∷ 255 ∷ []
long_gap = refl

-- registers behind AXI4-Lite channels
regs : List Channel
regs = record { dir = Inward; name = codes "aw"; widths = 32 ∷ [] }
    ∷ record { dir = Inward; name = codes "w"; widths = 32 ∷ 4 ∷ [] }
    ∷ record { dir = Outward; name = codes "b"; widths = 2 ∷ [] }
    ∷ record { dir = Inward; name = codes "ar"; widths = 32 ∷ [] }
    ∷ record { dir = Outward; name = codes "r"; widths = 32 ∷ 2 ∷ [] }
    ∷ []

-- a write of 1000 at 0, its response, a read at 0 and what it gives
regs_rounds : flat_map (packet_bytes regs) (packet 3 3 (0 ∷ 1000 ∷ 15 ∷ []) ∷ packet 4 4 (0 ∷ []) ∷ packet 8 8 (0 ∷ [])
    ∷ packet 16 16 (1000 ∷ 0 ∷ []) ∷ [])
    ≡ 1 ∷ 0 ∷ 0 ∷ 3 ∷ 3 ∷ 0 ∷ 0 ∷ 0 ∷ 0 ∷ 0 ∷ 0 ∷ 3 ∷ 0xe8 ∷ 0x0f ∷ 1 ∷ 0 ∷ 0 ∷ 4 ∷ 4 ∷ 0 ∷ 1 ∷ 0 ∷ 0 ∷ 8 ∷ 8 ∷ 0 ∷ 0 ∷ 0 ∷ 0 ∷ 1
    ∷ 0 ∷ 0 ∷ 16 ∷ 16 ∷ 0 ∷ 0 ∷ 3 ∷ 0xe8 ∷ 0 ∷ []
unfolding regs packet
regs_rounds = refl
