use Rattle.std.proofs.Common.{ap, ℕ, Some}
use Rattle.vlog_size.specs.Size.{joined}
use Rattle.vlog_size.proofs.evaluated.none_gathered.Goals as goal

pub returns : goal.returns
returns c = λ all. record {
  parts = c.no_parts-parts.ensures.rest all;
  number = λ t. ap (λ (n : ℕ). joined n (Some 0) all) c.no_parts-parts.ensures.sum;
}
