use Rattle.std.proofs.Common.{ℕ, List, [], ◌∷◌, ◌++◌, refl, subst, length}
use Rattle.wave_text.specs.Names.{path_of}
use Rattle.wave_text.specs.Text.{up_line, ups, var_line, moves, net_lines, text_of}
use Rattle.wave_text.proofs.Printed.{nets-more, nets-end}
use Rattle.wave_text.proofs.declarations.print_nets.Goals as goal

pub loop-n-init : goal.loop-n-init
loop-n-init g c = ([], g.met.P.Page.still _, refl)

pub loop-n-preserved : goal.loop-n-preserved
loop-n-preserved g c =
    let so_far = c.loop-n.invariant in
    let nets = c.args.nets.now in
    let net = c.index-nets-n.result in
    let at = c.loop-n.at.now in
    let moved = subst (λ (x : List ℕ). g.P.Page.went c.loop-n.page c.print_moves.new.page (text_of (moves (path_of at) (path_of x))))
    c.as_slice.ensures c.print_moves.ensures in (
      (so_far.0 ++ text_of (moves (path_of at) (path_of net.name))) ++ (var_line c.loop-n.n net ++ 10 ∷ []),
      g.met.P.Page.onward _ _ _ _ _ (g.met.P.Page.onward _ _ _ _ _ so_far.1 moved) c.print_var.ensures,
      rw c.as_slice-at.ensures
          (nets-more nets c.loop-n.n net at so_far.0 (text_of (net_lines [] 0 nets)) c.loop-n-test.true c.index-nets-n.is so_far.2),
    )

pub returns : goal.returns
returns g c =
    let so_far = c.loop-n.invariant in
    let nets = c.args.nets.now in
    subst (λ (x : List ℕ). g.P.Page.went c.args.page.now c.print_ups.new.page x)
    (nets-end nets c.loop-n.n c.loop-n.at.now so_far.0 (text_of (net_lines [] 0 nets)) c.loop-n-test.false so_far.2)
    (g.met.P.Page.onward _ _ _ _ _ (g.met.P.Page.onward _ _ _ _ _ so_far.1 c.print_up.ensures) c.print_ups.ensures)
