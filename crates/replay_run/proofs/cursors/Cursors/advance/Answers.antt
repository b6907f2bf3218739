use Rattle.trace_code.specs.trace_model.declared.event.Kind.TheVariants.{Start, End}
use Rattle.replay_run.proofs.cursors.Cursors.advance.Goals as goal

pub returns-clause-behind : goal.returns-clause-behind
returns-clause-behind c t have is = record {
  starts = c.advance.ensures t Start have is.starts;
  ends = c.advance-2.ensures t End have is.ends;
  over = is.over;
  reset = is.reset;
  within = is.within;
}
