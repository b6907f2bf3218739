use Rattle.std.proofs.Common.{◌≡◌, ◌≤◌, ◌+◌, drop}
use Rattle.net_drive.specs.Drive.{block_count}
use Rattle.net_drive.proofs.drive.count_blocks.Given as goal

abbrev pub invariant-loop-keys : goal.invariant-loop-keys
invariant-loop-keys l = record {
  sum : l.count + block_count (drop l.keys-index l.blocks) l.key ≡ block_count l.blocks l.key;
  few : l.count ≤ l.keys-index;
}
