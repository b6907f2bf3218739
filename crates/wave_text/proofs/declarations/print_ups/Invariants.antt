use Rattle.std.proofs.Common.{◌≡◌, ℕ, List, ◌++◌, length}
use Rattle.wave_text.specs.Names.{path_of}
use Rattle.wave_text.specs.Text.{ups, text_of}
use Rattle.wave_text.proofs.declarations.print_ups.Given as goal

abbrev pub decreases-loop-inside : goal.decreases-loop-inside
decreases-loop-inside g l = length l.rest

abbrev pub invariant-loop-inside : goal.invariant-loop-inside
invariant-loop-inside g l = (done : List ℕ) × g.P.Page.went l.initial.page l.page done
    × (done ++ text_of (ups (length (path_of l.rest))) ≡ text_of (ups (length (path_of l.name))))
