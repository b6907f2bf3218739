use Rattle.std.proofs.Common.{◌≡◌, ℕ, List, ◌++◌, length, map}
use Rattle.wave_text.specs.Names.{path_of}
use Rattle.wave_text.specs.Text.{scope_line, text_of}
use Rattle.wave_text.proofs.declarations.print_scopes.Given as goal

abbrev pub decreases-loop-part : goal.decreases-loop-part
decreases-loop-part g l = length l.rest

abbrev pub invariant-loop-part : goal.invariant-loop-part
invariant-loop-part g l = (done : List ℕ) × g.P.Page.went l.initial.page l.page done
    × (done ++ text_of (map scope_line (path_of l.rest)) ≡ text_of (map scope_line (path_of l.name)))
