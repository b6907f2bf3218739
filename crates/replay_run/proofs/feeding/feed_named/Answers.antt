use Rattle.std.proofs.Common.{sym, ◌∙◌}
use Rattle.std.proofs.lemmas.Bool.{false≢true}
use Rattle.replay_run.proofs.Fills.{not-own, same-at}
use Rattle.replay_run.proofs.feeding.feed_named.Goals as goal

pub returns-then-names-clause-here : goal.returns-then-names-clause-here
returns-then-names-clause-here c t have are same but up = c.feed_channel.ensures.here t have are same but

pub returns-then-names-clause-others : goal.returns-then-names-clause-others
returns-then-names-clause-others c d side =
    c.feed_channel.ensures.others d (not-own c.args.left c.args.c d (sym c.names.ensures ∙ c.if-names.true) side)

pub returns-else-names-clause-here : goal.returns-else-names-clause-here
returns-else-names-clause-here c t have are same but up = absurd (false≢true (sym c.if-names.false ∙ c.names.ensures ∙ up))

pub returns-else-names-clause-others : goal.returns-else-names-clause-others
returns-else-names-clause-others c d side = same-at c.args.channels.now d c.args.feed.now
