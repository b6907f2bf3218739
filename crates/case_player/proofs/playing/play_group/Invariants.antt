-- Each case so far counts once.
use Rattle.std.proofs.Common.{◌≡◌, ◌-◌, ◌^◌, min}
use Rattle.case_player.proofs.playing.play_group.Given as goal

abbrev pub invariant-loop-case : goal.invariant-loop-case
invariant-loop-case g l = l.score.all ≡ min l.case-index (2 ^ 64 - 1)
