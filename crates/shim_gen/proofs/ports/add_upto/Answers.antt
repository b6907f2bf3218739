use Rattle.std.proofs.Common.{ℕ, List, ◌++◌, [], ◌∷◌, map, ap, ◌∙◌}
use Rattle.vlog_tree.specs.Plain.{plain_port}
use Rattle.shim_trees.specs.Pieces.{upto, port}
use Rattle.shim_gen.specs.Labels.{text_at}
use Rattle.shim_gen.proofs.Upto.{upto_pushed}
use Rattle.shim_gen.proofs.ports.add_upto.Goals as goal

pub loop-j-preserved : goal.loop-j-preserved
loop-j-preserved c =
    let f = λ (j : ℕ). port c.args.direction (text_at c.args.label j) c.args.width in
    let before = map plain_port c.loop-j.ports in
    let same = ap (λ (x : List ℕ). before ++ port c.args.direction x c.args.width ∷ []) c.at.ensures in
    upto_pushed f before (map plain_port c.add_port.new.ports) (map plain_port c.args.ports.now ++ upto f 0 c.args.count) c.loop-j.j c.args.count
    c.loop-j-test.true (c.in_ok-add_port.ensures ∙ same) c.loop-j.invariant
