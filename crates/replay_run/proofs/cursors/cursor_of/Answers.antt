use Rattle.std.proofs.Common.{◌<◌, length, sym, subst, arith}
use Rattle.trace_code.specs.trace_model.declared.event.Kind.{Kind}
use Rattle.trace_code.specs.trace_model.declared.event.Kind.TheVariants.{Start, End}
use Rattle.replay_run.specs.Behind.{IsBehind}
use Rattle.replay_run.proofs.Forward.{cursor-there}
use Rattle.replay_run.proofs.cursors.cursor_of.Goals as goal

pub returns-in-Start : goal.returns-in-Start
returns-in-Start c t have are l =
    let many = are.starts.all.many in
    let within : c.args.c < length c.args.cursors.now.starts.cursors.items = omega (arith, many, l) in
    subst (λ (i : Kind). IsBehind t c.args.cursors.now.epoch i c.args.c (have c.args.c) c.index.result.now) (sym c.in-Start.is)
    (cursor-there t c.args.cursors.now.epoch Start have c.args.cursors.now.starts.cursors.items c.args.c c.index.result.now are.starts.all within c.index.ensures)

pub returns-in-End : goal.returns-in-End
returns-in-End c t have are l =
    let many = are.ends.all.many in
    let within : c.args.c < length c.args.cursors.now.ends.cursors.items = omega (arith, many, l) in
    subst (λ (i : Kind). IsBehind t c.args.cursors.now.epoch i c.args.c (have c.args.c) c.index-in-End.result.now) (sym c.in-End.is)
    (cursor-there t c.args.cursors.now.epoch End have c.args.cursors.now.ends.cursors.items c.args.c c.index-in-End.result.now are.ends.all within c.index-in-End.ensures)
