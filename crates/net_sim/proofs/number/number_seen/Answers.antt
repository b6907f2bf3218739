use Rattle.std.proofs.Common.{slice_index, ap, sym, ◌∙◌}
use Rattle.net_instr.proofs.InPlaceLaws.{seen_at}
use Rattle.net_sim.proofs.number.number_seen.Goals as goal

pub returns : goal.returns
returns c =
    c.number_at.ensures ∙ ap (slice_index c.args.slots.now) c.place_of_slot.ensures
    ∙ sym (seen_at c.args.places.now c.args.slots.now c.args.i c.requires)
