use Rattle.std.proofs.Common.{◌≡◌, ℕ, List, ◌++◌, [], ◌∷◌, map, ap, ◌∙◌}
use Rattle.std.specs.Prelude.{codes}
use Rattle.vlog_tree.specs.Plain.{plain_conn}
use Rattle.vlog_tree.specs.Tree.{ConnOf}
use Rattle.shim_trees.specs.Pieces.{upto, numbered, numbered_twice, conn}
use Rattle.shim_trees.specs.ReplayTop.{side_conns}
use Rattle.shim_gen.proofs.Pushed.{before, on_ok, two_before}
use Rattle.shim_gen.proofs.replay_top.add_replayer_conns.Goals as goal

pub returns : goal.returns
returns c =
    let x0 = map plain_conn c.args.conns.now in
    let x1 = map plain_conn c.add_rows.new.conns in
    let x2 = map plain_conn c.add_side_conns.new.conns in
    let x3 = map plain_conn c.add_rows-2.new.conns in
    let needs = upto (λ j. conn (numbered (codes "n") j) (numbered_twice (codes "n_") c.args.n j)) 0 c.args.count in
    let done = upto (λ j. conn (numbered (codes "d") j) (numbered (codes "pop_") j)) 0 c.args.count in
    let sides = side_conns c.args.n c.args.dir c.args.widths.now in
    let pop = conn (codes "pop") (numbered (codes "pop_") c.args.n) ∷ [] in
    let front = λ (more : List (ConnOf ℕ)). conn (codes "clk") (codes "clk") ∷ conn (codes "more") (numbered (codes "more_") c.args.n) ∷ more in
    on_ok c.add_rows-2.result (x3 ≡ x2 ++ pop) (x3 ≡ x0 ++ front (needs ++ (done ++ (sides ++ pop)))) (λ last.
    before x0 x1 (front (needs ++ (done ++ []))) (sides ++ pop) x3 c.in_ok-add_rows.ensures
    (before x1 x2 sides pop x3 c.in_ok-add_side_conns.ensures last)
    ∙ ap (λ ys. x0 ++ front ys) (two_before needs done (sides ++ pop))) c.add_rows-2.ensures
