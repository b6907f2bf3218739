use Rattle.std.proofs.Common.{◌++◌, List, ap, subst, take, ◌∙◌}
use Rattle.replay_run.specs.trace_model.declared.channel.Channel.{Channel}
use Rattle.shim_cosim.specs.Rewrapped.{feed_inputs, AreSmallNeeds}
use Rattle.shim_cosim.proofs.rewrapped.settle_feed.Goals as goal

pub settle-requires : goal.settle-requires
settle-requires g c =
    c.requires.fit c.enter_feed.new.pins
    (subst (λ (channels : List Channel). AreSmallNeeds channels c.args.feed.now) c.as_slice.ensures c.enter_feed.ensures.small)
    (c.enter_feed.ensures.entered
    ∙ ap (λ (channels : List Channel). take c.args.first c.args.pins.now ++ feed_inputs channels c.args.feed.now) c.as_slice.ensures)
