use Rattle.std.proofs.Common.{◌≡◌, drop, slice_get}
use Rattle.shim_trees.specs.trace_model.declared.channel.Channel.{Channel}
use Rattle.shim_trees.specs.Pieces.{each_some}
use Rattle.shim_trees.specs.Links.{channel_links}
use Rattle.shim_gen.specs.Tables.{with_entries}
use Rattle.shim_gen.proofs.links.add_all_channel_links.Given as goal

abbrev pub invariant-loop-n : goal.invariant-loop-n
invariant-loop-n l =
    with_entries l.nets (each_some (λ n (c : Channel). channel_links l.valid l.ready n c.dir (slice_get l.plugs n)) l.n (drop l.n l.channels))
    ≡ with_entries l.initial.nets (each_some (λ n (c : Channel). channel_links l.valid l.ready n c.dir (slice_get l.plugs n)) 0 l.channels)
