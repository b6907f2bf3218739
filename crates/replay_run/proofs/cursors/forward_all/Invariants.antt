use Rattle.std.proofs.Common.{ℕ}
use Rattle.trace_code.specs.trace_model.declared.event.Kind.{Kind}
use Rattle.trace_code.specs.trace_model.declared.trace.Trace.{Trace}
use Rattle.replay_run.specs.Behind.{AreAt}
use Rattle.replay_run.proofs.Forward.{moved}
use Rattle.replay_run.proofs.cursors.forward_all.Given as goal

abbrev pub invariant-loop-c : goal.invariant-loop-c
invariant-loop-c l = (t : Trace) (kind : Kind) (have : ℕ → ℕ) → AreAt t l.epoch kind have l.fn.cursors l.more
    → AreAt t l.epoch kind (moved have l.ends l.c) l.cursors l.left
