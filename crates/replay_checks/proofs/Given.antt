-- What the tests give: traces whose channels are a map's.
use Rattle.std.proofs.Common.{◌≡◌, ℕ, List, All, sym, subst}
use Rattle.run_reference.specs.trace_model.declared.channel.Channel.{Channel}
use Rattle.run_reference.specs.trace_model.declared.trace.Trace.{Trace}
use Rattle.run_reference.specs.trace_model.Packet.{IsPacket}
use Rattle.replay_run.specs.trace_code.Encoding.{Encodes, HasEncoding}

pub packets_fit : (t : Trace) (channels : List Channel) → HasEncoding t → channels ≡ t.channels → All (IsPacket channels) t.packets
packets_fit t channels e same = subst (λ (cs : List Channel). All (IsPacket cs) t.packets) (sym same) e.well_formed.packets

pub trace_given : (t : Trace) (channels : List Channel) (bytes : List ℕ) → Encodes t bytes → channels ≡ t.channels
    → (u : Trace) × Encodes u bytes × (u.channels ≡ channels)
trace_given t channels bytes e same = (t, e, sym same)
