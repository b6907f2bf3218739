use Rattle.std.proofs.Common.{◌≡◌, drop}
use Rattle.std.specs.Prelude.{slice_get}
use Rattle.run_model.specs.trace_model.Packet.{does}
use Rattle.run_model.specs.Held.{packet_place, places_from}
use Rattle.run_reference.proofs.waiting.packet_place.Given as goal

abbrev pub invariant-loop-place : goal.invariant-loop-place
invariant-loop-place l = slice_get (places_from (does l.event.kind l.event.channel) l.place (drop l.place l.packets)) l.left
    ≡ packet_place l.packets l.event
