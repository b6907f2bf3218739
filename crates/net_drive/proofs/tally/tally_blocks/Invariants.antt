use Rattle.std.proofs.Common.{take}
use Rattle.net_code.specs.Tally.{IsKeyTally}
use Rattle.net_drive.specs.Drive.{block_count}
use Rattle.net_drive.proofs.tally.tally_blocks.Given as goal

abbrev pub invariant-loop-keys : goal.invariant-loop-keys
invariant-loop-keys l = IsKeyTally l.tally (block_count (take l.keys-index l.blocks))
