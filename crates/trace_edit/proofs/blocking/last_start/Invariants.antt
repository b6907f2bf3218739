use Rattle.trace_model.specs.declared.event.Kind.TheVariants.{Start}
use Rattle.trace_edit.specs.Found.{IsLastOf}
use Rattle.trace_edit.specs.Moved.{does_at}
use Rattle.trace_edit.proofs.blocking.last_start.Given as goal

abbrev pub invariant-loop-s : goal.invariant-loop-s
invariant-loop-s l = IsLastOf (does_at Start l.channel l.packets) l.low l.s l.last
