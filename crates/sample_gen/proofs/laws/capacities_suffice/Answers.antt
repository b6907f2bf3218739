use Rattle.std.proofs.Common.{ℕ, ◌+◌, ◌%◌, ◌≤◌, arith}
use Rattle.sample_gen.proofs.laws.capacities_suffice.Goals as goal

enough : (s : ℕ) → 22 ≤ 22 + s % 32
enough s = omega arith

pub returns : goal.returns
returns c = enough
