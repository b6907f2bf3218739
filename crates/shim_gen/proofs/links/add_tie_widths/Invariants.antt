use Rattle.std.proofs.Common.{◌≡◌, drop, map}
use Rattle.shim_trees.specs.Links.{tie_width}
use Rattle.shim_gen.specs.Tables.{with_entries}
use Rattle.shim_gen.proofs.links.add_tie_widths.Given as goal

abbrev pub invariant-loop-tie : goal.invariant-loop-tie
invariant-loop-tie l = with_entries l.widths (map tie_width (drop l.tie-index l.ties)) ≡ with_entries l.initial.widths (map tie_width l.ties)
