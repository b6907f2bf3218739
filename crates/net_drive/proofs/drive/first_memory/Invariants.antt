use Rattle.std.proofs.Common.{◌≡◌, drop}
use Rattle.net_code.specs.vidi_bits.Findings.{first}
use Rattle.net_drive.specs.Drive.{memories_from}
use Rattle.net_drive.proofs.drive.first_memory.Given as goal

abbrev pub invariant-loop-place : goal.invariant-loop-place
invariant-loop-place l = first (memories_from l.blocks l.place (drop l.place l.memories)) ≡ first (memories_from l.blocks 0 l.memories)
