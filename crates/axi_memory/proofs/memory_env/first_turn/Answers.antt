use Rattle.std.proofs.Common.{ap, sym, ◌∙◌, subst, List, ℕ}
use Rattle.trace_model.specs.Row.{content_at}
use Rattle.axi_burst.specs.Transfers.{FitsAddress}
use Rattle.axi_memory.proofs.Steps.{asked-fits}
use Rattle.axi_memory.proofs.memory_env.first_turn.Goals as goal

pub address_at-requires : goal.address_at-requires
address_at-requires c =
    subst (FitsAddress c.args.ports.now)
    (sym (c.content_at-content.ensures ∙ ap (λ (xs : List ℕ). content_at c.args.channels.now xs c.args.ports.now.channel) c.as_slice.ensures))
    (asked-fits c.args.channels.now c.args.ports.now c.args.row.now.contents c.requires.over.contents c.requires.ports)
