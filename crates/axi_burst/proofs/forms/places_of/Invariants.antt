use Rattle.std.proofs.Common.{◌≡◌, ◌++◌, ℕ, List, Option, drop}
use Rattle.std.specs.Option.{option_map}
use Rattle.axi_burst.specs.Forms.{places_of}
use Rattle.axi_burst.proofs.forms.places_of.Given as goal

abbrev pub invariant-loop-word : goal.invariant-loop-word
invariant-loop-word l = places_of l.words ≡ option_map (λ (ps : List (Option ℕ)). l.places ++ ps) (places_of (drop l.word-index l.words))
