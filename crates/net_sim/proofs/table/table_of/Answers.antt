use Rattle.std.proofs.Common.{ℕ, ◌<◌, List, nat_eq, length, slice_index, ap, sym, subst, ◌∙◌}
use Rattle.indexmap.specs.IndexMap.{insert_entry}
use Rattle.net_design.specs.declared.design.Net.{Net}
use Rattle.net_sim.specs.Table.{hash_from}
use Rattle.net_sim.proofs.TableLaws.{more_table}
use Rattle.net_sim.proofs.table.table_of.Goals as goal

pub loop-m-preserved : goal.loop-m-preserved
loop-m-preserved c =
    let instances = c.args.instances.now in
    let nets = c.args.nets.now in
    let m = c.loop-m.m in
    let x = c.index-nets-m.result in
    let es = c.loop-m.table.entries in
    let path = slice_index c.as_slice-paths.result.now x.instance in
    let inside = subst (λ (n : Net). n.instance < length instances) (sym c.index-nets-m.is) (c.requires.within m x c.loop-m-test.true) in
    more_table instances nets es c.add_net.new.table.entries m path x c.loop-m-test.true c.index-nets-m.is
    (ap (λ (hs : List ℕ). slice_index hs x.instance) c.as_slice-paths.ensures ∙ c.in_ok-hashes.ensures.each x.instance inside)
    c.loop-m.invariant
    (c.in_ok-add_net.ensures ∙ ap (λ (n : List ℕ). insert_entry nat_eq es (hash_from path n) m) c.as_slice.ensures)
