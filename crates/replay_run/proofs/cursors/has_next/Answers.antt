use Rattle.std.proofs.Common.{◌≡◌, ◌<◌, subst, sym, true}
use Rattle.std.specs.Prelude.{◌↔◌}
use Rattle.trace_code.specs.trace_model.declared.event.Kind.{Kind}
use Rattle.trace_code.specs.trace_model.declared.event.Kind.TheVariants.{Start, End}
use Rattle.trace_code.specs.trace_model.Epoch.{epoch}
use Rattle.trace_code.specs.trace_model.Packet.{count}
use Rattle.replay_run.proofs.Forward.{next-on}
use Rattle.replay_run.proofs.cursors.has_next.Goals as goal

pub returns-in-Start : goal.returns-in-Start
returns-in-Start c t have are l =
    let k = c.args.cursors.now in
    subst (λ (i : Kind). (c.names.result ≡ true) ↔ (have c.args.c < count i c.args.c (epoch k.epoch t.packets))) (sym c.in-Start.is)
    (next-on t have k are Start c.args.c c.names.result k.starts.more c.names.ensures (are.starts.named.more c.args.c l))

pub returns-in-End : goal.returns-in-End
returns-in-End c t have are l =
    let k = c.args.cursors.now in
    subst (λ (i : Kind). (c.names-in-End.result ≡ true) ↔ (have c.args.c < count i c.args.c (epoch k.epoch t.packets))) (sym c.in-End.is)
    (next-on t have k are End c.args.c c.names-in-End.result k.ends.more c.names-in-End.ensures (are.ends.named.more c.args.c l))
