use Rattle.std.proofs.Common.{◌≡◌, ◌*◌, length}
use Rattle.shim_words.proofs.drawn.draw_needs.Given as goal

abbrev pub invariant-loop-c : goal.invariant-loop-c
invariant-loop-c l = record { needs : length l.needs ≡ length l.counts * length l.counts }
