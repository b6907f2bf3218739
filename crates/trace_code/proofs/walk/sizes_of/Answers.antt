use Rattle.std.proofs.Common.{◌≡◌, ℕ, ◌<◌, ◌≤◌, List, length, get_or, All, subst, sym, arith}
use Rattle.vec_clock.specs.trace_model.declared.channel.Channel.{Channel}
use Rattle.vec_clock.specs.trace_model.Channel.{content_bytes, IsChannel}
use Rattle.vec_clock.proofs.trace_model_lemmas.LengthLemmas.{content-most}
use Rattle.trace_code.proofs.walk.sizes_of.Goals as goal

most-here : (channels : List Channel) (i : ℕ) (channel : Channel) → All IsChannel channels → i < length channels
    → channel ≡ get_or channels i channel → content_bytes channel ≤ 256
most-here channels i channel each lt is = content-most channel (subst IsChannel (sym is) (each i channel lt))

pub content_len-requires : goal.content_len-requires
content_len-requires c =
    let most = most-here c.args.channels.now c.loop-channel.channel-index c.channel-item.result c.requires c.loop-channel-test.true
    c.channel-item.is in
    omega (arith, most)

pub overflow_cast-content_len : goal.overflow_cast-content_len
overflow_cast-content_len c =
    let most = most-here c.args.channels.now c.loop-channel.channel-index c.channel-item.result c.requires c.loop-channel-test.true
    c.channel-item.is in
    let is = c.content_len.ensures in
    omega (arith, most, is)
