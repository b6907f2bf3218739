use Rattle.std.proofs.Common.{◌∙◌, ◌++◌, List, ap, take}
use Rattle.replay_run.specs.trace_model.declared.channel.Channel.{Channel}
use Rattle.replay_run.specs.chan_monitor.Entering.{offered}
use Rattle.shim_cosim.specs.Recorded.{row_inputs}
use Rattle.shim_cosim.proofs.wrapped.settle_offers.Goals as goal

pub settle-requires : goal.settle-requires
settle-requires g c =
    c.requires.fit c.enter.new.pins
    (c.enter.ensures
    ∙ ap (λ (channels : List Channel). take c.args.first c.args.pins.now ++ row_inputs channels (offered c.args.gates c.args.offers.now))
    c.as_slice.ensures)
