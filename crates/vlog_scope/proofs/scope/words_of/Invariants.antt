use Rattle.std.proofs.Common.{◌≡◌, ◌-◌, ◌^◌, min, take}
use Rattle.vlog_scope.specs.Scope.{words_of}
use Rattle.vlog_scope.proofs.scope.words_of.Given as goal

abbrev pub invariant-loop-k : goal.invariant-loop-k
invariant-loop-k l = l.words ≡ min (words_of (take l.k l.scope.memories)) (2 ^ 64 - 1)
