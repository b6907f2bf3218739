use Rattle.std.proofs.Common.{◌≡◌, ℕ, List, [], ◌++◌, drop}
use Rattle.wave_text.specs.Names.{path_of}
use Rattle.wave_text.specs.Text.{net_lines, text_of}
use Rattle.wave_text.proofs.declarations.print_nets.Given as goal

abbrev pub invariant-loop-n : goal.invariant-loop-n
invariant-loop-n g l = (done : List ℕ) × g.P.Page.went l.initial.page l.page done
    × (done ++ text_of (net_lines (path_of l.at) l.n (drop l.n l.nets)) ≡ text_of (net_lines [] 0 l.nets))
