use Rattle.std.proofs.Common.{◌≡◌, ℕ, ◌<◌, length, slice_index}
use Rattle.net_instr.proofs.places.where_they_stand.Given as goal

abbrev pub invariant-loop-net : goal.invariant-loop-net
invariant-loop-net l = record {
  long : length l.places ≡ l.net;
  each : (i : ℕ) → i < l.net → slice_index l.places i ≡ i;
}
