use Rattle.std.proofs.Common.{◌≡◌, ℕ, [], length, get_or}
use Rattle.env_script.proofs.gathered.no_steps.Given as goal

abbrev pub invariant-loop : goal.invariant-loop
invariant-loop l = record {
  count : length l.lists ≡ l.counter;
  none : (c : ℕ) → get_or l.lists c [] ≡ [];
}
