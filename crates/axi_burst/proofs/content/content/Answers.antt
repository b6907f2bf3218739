use Rattle.std.proofs.Common.{◌≡◌, [], length, take, drop, cond, ap, ◌∙◌, arith}
use Rattle.trace_model.proofs.ContentsLemmas.{content-there, rest-on}
use Rattle.trace_model.specs.Packet.{widths_under}
use Rattle.axi_burst.proofs.content.content.Goals as goal

pub loop-c-preserved : goal.loop-c-preserved
loop-c-preserved c =
    rest-on c.args.packet.now.starts c.args.packet.now.contents c.args.channels.now c.loop-c.c c.index-channels-c.result c.loop-c.rest.now
    c.behind-rest.result.now (omega arith) c.index-channels-c.is c.loop-c.invariant
    (c.behind-rest.ensures ∙ ap (λ b. drop (length (cond b c.index-channels-c.result.widths [])) c.loop-c.rest.now) c.names.ensures)

pub returns : goal.returns
returns c =
    let last : c.loop-c.c ≡ c.args.channel = omega arith in
    let there = content-there c.args.channels.now c.args.packet.now c.args.channel c.index-channels-channel.result c.loop-c.rest.now
    c.requires c.index-channels-channel.is
    (c.loop-c.invariant ∙ ap (λ k. drop (length (widths_under c.args.packet.now.starts (take k c.args.channels.now)))
    c.args.packet.now.contents) last) in
    c.split_content.ensures.front ∙ there
