use Rattle.std.proofs.Common.{◌≡◌, ◌++◌, ℕ, List, drop}
use Rattle.std.specs.Option.{option_map}
use Rattle.axi_burst.specs.Forms.{numbers_of}
use Rattle.axi_burst.proofs.forms.numbers_of.Given as goal

abbrev pub invariant-loop-word : goal.invariant-loop-word
invariant-loop-word l = numbers_of l.words ≡ option_map (λ (ns : List ℕ). l.numbers ++ ns) (numbers_of (drop l.word-index l.words))
