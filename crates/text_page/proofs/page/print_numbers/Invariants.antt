use Rattle.std.proofs.Common.{◌∷◌, take}
use Rattle.std.specs.List.{flat_map}
use Rattle.text_page.proofs.page.print_numbers.Given as goal

abbrev pub invariant-loop-number : goal.invariant-loop-number
invariant-loop-number g l = g.P.Page.went l.initial.page l.page (flat_map (λ x. 32 ∷ g.I.Integer.text x) (take l.number-index l.numbers))
