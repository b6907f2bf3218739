use Rattle.std.proofs.Common.{arith, ap, sum_by}
use Rattle.trace_code.specs.trace_model.Channel.{content_bytes}
use Rattle.trace_code.proofs.trace_model_lemmas.LengthLemmas.{contents-most}
use Rattle.trace_v2.proofs.header.read_old_header.Goals as goal

pub all_contents_len-requires : goal.all_contents_len-requires
all_contents_len-requires c =
    let found = c.in_ok-channels.ensures.found.0 in
    let most = contents-most c.in_ok-channels.channels found.each in
    let few = found.few in
    let is = ap (sum_by content_bytes) c.as_slice-2.ensures in
    omega (arith, most, few, is)
