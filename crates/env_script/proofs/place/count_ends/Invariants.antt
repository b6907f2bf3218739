use Rattle.std.proofs.Common.{◌≡◌, ◌+◌, ◌<◌, ◌≤◌, ℕ, get_or, cond}
use Rattle.run_model.specs.vidi_bits.Number.{has}
use Rattle.env_script.proofs.place.count_ends.Given as goal

abbrev pub invariant-loop-c : goal.invariant-loop-c
invariant-loop-c l = record {
  counted : (k : ℕ) → k < l.c → get_or l.done k 0 ≡ get_or l.initial.done k 0 + cond (has l.ends k) 1 0;
  rest : (k : ℕ) → l.c ≤ k → get_or l.done k 0 ≡ get_or l.initial.done k 0;
}
