-- The epochs of a trace, and where their events stand among those of the whole trace.
use Rattle.std.specs.Prelude.{ℕ, zero, suc, List, [], ◌∷◌, if◌then◌else◌}
use Rattle.trace_code.specs.trace_model.declared.packet.Packet.{Packet}
use Rattle.trace_code.specs.trace_model.Epoch.{epoch, resets}

-- n epochs, from epoch e on
abbrev pub epochs_from : ℕ → ℕ → List Packet → List (List Packet)
epochs_from e zero packets = []
epochs_from e (suc n) packets = epoch e packets ∷ epochs_from (suc e) n packets

-- all of them: one more than there are resets
abbrev pub epochs : List Packet → List (List Packet)
epochs packets = epochs_from 0 (suc (resets packets)) packets

-- the packets before epoch e, of which the last is the reset in front of it
abbrev pub before_epoch : ℕ → List Packet → List Packet
before_epoch zero packets = []
before_epoch (suc e) [] = []
before_epoch (suc e) (p ∷ packets) = p ∷ (if p.reset then before_epoch e packets else before_epoch (suc e) packets)
