use Rattle.std.proofs.Common.{◌≡◌, ◌≤◌, ◌+◌, drop}
use Rattle.net_code.specs.Targets.{plain_places, bit_count}
use Rattle.net_drive.proofs.drive.count_bit.Given as goal

abbrev pub invariant-loop-place : goal.invariant-loop-place
invariant-loop-place l = record {
  sum : l.count + bit_count (plain_places (drop l.place-index l.places)) l.net l.k ≡ bit_count (plain_places l.places) l.net l.k;
  few : l.count ≤ l.place-index;
}
