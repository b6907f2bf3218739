use Rattle.std.proofs.Common.{◌≡◌, ap, sym, ◌∙◌, arith, take, drop, length, refl}
use Rattle.trace_model.proofs.RowLemmas.{content-read, first_of, rest-more}
use Rattle.axi_memory.proofs.content.content_at.Goals as goal

pub loop-c-preserved : goal.loop-c-preserved
loop-c-preserved c =
    rest-more c.args.channels.now c.args.contents.now c.loop-c.rest.now _ c.loop-c.c _ c.index-channels-c.result (omega arith)
    c.index-channels-c.is c.loop-c.invariant refl c.split_content.ensures.rest

pub returns : goal.returns
returns c =
    let last : c.loop-c.c ≡ c.args.channel = omega arith in
    let there = c.loop-c.invariant ∙ ap (λ k. drop (first_of c.args.channels.now k) c.args.contents.now) last in
    c.split_content-2.ensures.front ∙ ap (take (length c.index-channels-channel.result.widths)) there
    ∙ sym (content-read c.args.channels.now c.args.contents.now c.args.channel c.index-channels-channel.result c.requires c.index-channels-channel.is)
