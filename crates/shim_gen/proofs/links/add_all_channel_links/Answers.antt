use Rattle.std.proofs.Common.{ℕ, Option, slice_get, ap, sym, ◌∙◌}
use Rattle.shim_trees.specs.trace_model.declared.channel.Channel.{Channel}
use Rattle.shim_trees.specs.chan_map.declared.pins.Plug.{Plug}
use Rattle.shim_trees.specs.Pieces.{each_some}
use Rattle.shim_trees.specs.Links.{channel_links}
use Rattle.shim_gen.specs.Tables.{with_entries}
use Rattle.shim_gen.proofs.Tables.{some_linked}
use Rattle.shim_gen.proofs.links.add_all_channel_links.Goals as goal

pub loop-n-preserved : goal.loop-n-preserved
loop-n-preserved c =
    let valid = c.args.valid.now in
    let ready = c.args.ready.now in
    let n = c.loop-n.n in
    let channel = c.index-channels-n.result in
    let f = λ (k : ℕ) (x : Channel). channel_links valid ready k x.dir (slice_get c.args.plugs.now k) in
    let same = ap (λ (o : Option Plug). with_entries c.loop-n.nets (channel_links valid ready n channel.dir o)) c.get.ensures in
    some_linked f c.loop-n.nets c.add_channel_links.new.nets (with_entries c.args.nets.now (each_some f 0 c.args.channels.now))
    c.args.channels.now n channel (f n channel) c.loop-n-test.true (ap (f n) (sym c.index-channels-n.is))
    (c.in_ok-add_channel_links.ensures ∙ same) c.loop-n.invariant
