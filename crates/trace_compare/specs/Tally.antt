-- What a `Tally` stands for.
use Rattle.std.specs.Prelude.{◌≡◌, Bool, List}
use Rattle.trace_compare.specs.declared.tally.Tally.{Tally}
use Rattle.trace_compare.specs.Findings.{marked, first_marked}

-- it has taken events with these marks
pub record IsTally (marks : List Bool) (t : Tally) : Type 0 where
  pub before : t.before ≡ first_marked marks
  pub marked : t.marked ≡ marked marks
