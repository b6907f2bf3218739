use Rattle.std.proofs.Common.{◌≡◌, ℕ, ◌<◌, List, length, ap, sym, subst, ◌∙◌, arith}
use Rattle.net_design.proofs.LawfulCode.{slice_get-at}
use Rattle.net_sim.specs.Table.{ArePaths}
use Rattle.net_sim.proofs.TableLaws.{one_path, more_paths}
use Rattle.net_sim.proofs.table.path_hashes.Goals as goal

pub path_hash-hash-requires : goal.path_hash-hash-requires
path_hash-hash-requires c = λ some.
    let instances = c.args.instances.now in
    let i = c.loop-i.i in
    let x = c.index-instances-i.result in
    let l : x.parent < i = c.requires i x (slice_get-at instances i x c.loop-i-test.true (sym c.index-instances-i.is)) some in
    let long : length c.as_slice.result.now ≡ i = ap length c.as_slice.ensures ∙ c.loop-i.invariant.long in
    omega (arith, l, long)

pub loop-i-preserved : goal.loop-i-preserved
loop-i-preserved c =
    let instances = c.args.instances.now in
    let i = c.loop-i.i in
    more_paths instances c.loop-i.hashes c.push.new.self i c.path_hash-hash.result c.loop-i.invariant
    (one_path instances c.as_slice.result.now i c.index-instances-i.result c.path_hash-hash.result c.requires c.loop-i-test.true
    c.index-instances-i.is (subst (λ (hs : List ℕ). ArePaths instances i hs) (sym c.as_slice.ensures) c.loop-i.invariant)
    c.path_hash-hash.ensures) c.in_ok-push.ensures.ok

pub returns : goal.returns
returns c =
    let all : c.loop-i.i ≡ length c.args.instances.now = omega (arith, c.loop-i-test.false, c.loop-i.auto.i-end) in
    subst (λ k. ArePaths c.args.instances.now k c.loop-i.hashes) all c.loop-i.invariant
