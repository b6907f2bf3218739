-- Packets without a reset.
use Rattle.std.specs.Prelude.{◌≡◌, List}
use Rattle.vec_clock.specs.trace_model.declared.packet.Packet.{Packet}
use Rattle.vec_clock.specs.trace_model.Epoch.{resets}

-- none of these packets is a reset
abbrev pub HasNoReset : List Packet → Type 0
HasNoReset packets = resets packets ≡ 0
