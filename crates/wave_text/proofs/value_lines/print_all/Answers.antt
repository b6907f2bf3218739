use Rattle.std.proofs.Common.{◌≡◌, ℕ, List, subst, ap, ◌∙◌, take, arith, flat_map}
use Rattle.std.proofs.lemmas.List.{take_all}
use Rattle.std.specs.List.{enumerate_from}
use Rattle.text_page.proofs.Items.{more_on}
use Rattle.wave_text.proofs.RowText.{net_text, all-text}
use Rattle.wave_text.proofs.value_lines.print_all.Goals as goal

pub loop-n-preserved : goal.loop-n-preserved
loop-n-preserved g c =
    subst (λ (x : List ℕ). g.P.Page.went c.args.page.now c.print_value.new.page x)
    (more_on (net_text c.args.row.now) c.args.nets.now c.loop-n.n c.index-nets-n.result c.loop-n-test.true c.index-nets-n.is)
    (g.met.P.Page.onward _ _ _ _ _ c.loop-n.invariant c.print_value.ensures)

pub returns : goal.returns
returns g c =
    let nets = c.args.nets.now in
    let row = c.args.row.now in
    let whole : take c.loop-n.n nets ≡ nets = take_all c.loop-n.n nets (omega (arith, c.loop-n-test.false)) in
    subst (λ (x : List ℕ). g.P.Page.went c.args.page.now c.loop-n.page x)
    (ap (λ xs. flat_map (net_text row) (enumerate_from 0 xs)) whole ∙ all-text nets row c.requires.long) c.loop-n.invariant
