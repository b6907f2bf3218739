use Rattle.std.proofs.Common.{◌∙◌, arith}
use Rattle.trace_code.specs.trace_model.declared.event.Kind.TheVariants.{Start, End}
use Rattle.replay_run.proofs.Forward.{ends-next, resets-are, starts-next}
use Rattle.replay_run.proofs.cursors.Cursors.turn.Goals as goal

pub turn-requires : goal.turn-requires
turn-requires c =
    let w = c.requires in
    (w.0, Start, starts-next w.0 w.1 c.args.self.now w.2 w.4 c.advance.new.self.cursors.items _ (c.advance.ensures w.0 Start w.1 w.2.starts))

pub turn-requires-2 : goal.turn-requires-2
turn-requires-2 c = let w = c.requires in (w.0, End, ends-next w.0 w.1 c.args.self.now w.2 w.4)

pub returns-clause-behind : goal.returns-clause-behind
returns-clause-behind c t have are later ends =
    let self = c.args.self.now in record {
      starts = c.turn.ensures t Start (starts-next t have self are ends c.advance.new.self.cursors.items _ (c.advance.ensures t Start have are.starts));
      ends = c.turn-2.ensures t End (ends-next t have self are ends);
      over = (c.step.ensures.over.0 ∙ are.over.0, c.step.ensures.over.1 ∙ are.over.1);
      reset = c.step.ensures.stands t self.epoch are.reset (let same = resets-are t have self are in omega (arith, later, same));
      within = omega (arith, later);
    }
