use Rattle.std.proofs.Common.{◌≡◌, drop, map}
use Rattle.shim_trees.specs.chan_map.declared.pins.Tie.{Tie}
use Rattle.shim_trees.specs.Links.{tied_link}
use Rattle.shim_gen.specs.Tables.{with_entries}
use Rattle.shim_gen.proofs.links.add_tie_links.Given as goal

abbrev pub invariant-loop-tie : goal.invariant-loop-tie
invariant-loop-tie l =
    with_entries l.nets (map (λ (t : Tie). tied_link t.pin) (drop l.tie-index l.ties))
    ≡ with_entries l.initial.nets (map (λ (t : Tie). tied_link t.pin) l.ties)
