use Rattle.std.proofs.Common.{◌≡◌, ◌<◌, ◌*◌, ◌%◌, ◌^◌, ℕ, length, get_or}
use Rattle.chan_replayer.proofs.needs.own_places.Given as goal

abbrev pub invariant-loop-c : goal.invariant-loop-c
invariant-loop-c l = record {
  long : length l.places ≡ l.c;
  many : length l.users ≡ l.c;
  places : (p : ℕ) → p < l.c → get_or l.places p 0 ≡ p;
  users : (p : ℕ) → p < l.c → get_or l.users p 0 ≡ 1 * 2 ^ p % 2 ^ 128;
}
