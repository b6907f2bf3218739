use Rattle.std.proofs.Common.{◌≡◌, ◌*◌, ◌∙◌, Bool, true, false, refl, ap, drop, set, take}
use mir.Val.{bool_byte}
use Rattle.net_sim.specs.vidi_bits.Number.{truth, has}
use Rattle.replay_run.specs.trace_model.Row.{replaced}
use Rattle.shim_cosim.specs.Rewrapped.{if_inward}
use Rattle.shim_cosim.proofs.FedInputs.{channel_entered, clock_long}
use Rattle.shim_cosim.proofs.fed_inputs.enter_channel.Goals as goal

byte_truth : (b : Bool) → bool_byte b ≡ truth b
byte_truth true = refl
byte_truth false = refl

pub clock-requires : goal.clock-requires
clock-requires c = (c.args.channels, c.requires.needs, c.requires.channel)

pub returns-clause-entered : goal.returns-clause-entered
returns-clause-entered c =
    channel_entered c.args.pins.now c.args.at c.args.channels (truth (has c.args.feed.now.more c.args.c))
    (take c.args.channels (drop (c.args.channels * c.args.c) c.args.feed.now.needs)) (if_inward c.args.content.now c.args.dir)
    (set c.args.pins.now c.args.at c.from.result) c.enter_needs.new.pins c.enter_content.new.pins
    (clock_long c.args.channels c.args.c c.args.feed.now.needs c.requires.channel c.requires.needs) c.requires.room
    (ap (set c.args.pins.now c.args.at) (c.from.ensures ∙ byte_truth c.names.result ∙ ap truth c.names.ensures))
    (c.enter_needs.ensures.entered ∙ ap (replaced (set c.args.pins.now c.args.at c.from.result) _) (c.clock.ensures c.args.channels c.requires.needs))
    c.enter_content.ensures
