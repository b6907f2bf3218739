use Rattle.std.proofs.Common.{◌≡◌, drop}
use Rattle.shim_trees.specs.Pieces.{each}
use Rattle.shim_trees.specs.Links.{link}
use Rattle.shim_gen.specs.Labels.{text_at}
use Rattle.shim_gen.specs.Tables.{with_entries}
use Rattle.shim_gen.proofs.links.add_content_links.Given as goal

abbrev pub invariant-loop-i : goal.invariant-loop-i
invariant-loop-i l =
    with_entries l.nets (each (λ i pin. link pin (text_at l.label i)) l.i (drop l.i l.pins))
    ≡ with_entries l.initial.nets (each (λ i pin. link pin (text_at l.label i)) 0 l.pins)
