use Rattle.std.proofs.Common.{◌≡◌, ℕ, ◌≤◌, List, [], ◌∷◌, ◌++◌, ◌∙◌, refl, sym, subst, ap, arith, length, None, option_copied, get_or}
use Rattle.wave_text.specs.Text.{mark, row_changes, row_lines, text_of}
use Rattle.wave_text.proofs.Printed.{rows-more, rows-end}
use Rattle.wave_text.proofs.printing.print_rows.Goals as goal

pub loop-t-init : goal.loop-t-init
loop-t-init g c = ([], g.met.P.Page.still _, refl, tt)

pub loop-t-preserved : goal.loop-t-preserved
loop-t-preserved g c =
    let so_far = c.loop-t.invariant in
    let nets = c.args.nets.now in
    let rows = c.args.rows.now in
    let row = c.index-rows-t.result in
    let before = option_copied c.loop-t.before in
    let fits = c.requires c.loop-t.t row c.loop-t-test.true in
    let printed = subst (λ (x : List ℕ). g.P.Page.went c.loop-t.page c.print_row.new.page (text_of (mark c.loop-t.t ∷ row_changes nets before x)))
    c.as_slice.ensures c.print_row.ensures in (
      so_far.0 ++ text_of (mark c.loop-t.t ∷ row_changes nets before row),
      g.met.P.Page.onward _ _ _ _ _ so_far.1 printed,
      rw c.as_slice-in-loop-t.ensures
          (rows-more nets rows c.loop-t.t before row so_far.0 (text_of (row_lines nets 0 None rows)) c.loop-t-test.true c.index-rows-t.is so_far.2),
      ap length (c.as_slice-in-loop-t.ensures ∙ c.index-rows-t.is) ∙ fits.long,
    )

pub returns : goal.returns
returns g c =
    let so_far = c.loop-t.invariant in
    let nets = c.args.nets.now in
    let rows = c.args.rows.now in
    subst (λ (x : List ℕ). g.P.Page.went c.args.page.now c.print_mark.new.page x)
    (rows-end nets rows c.loop-t.t (length rows) (option_copied c.loop-t.before) so_far.0 (text_of (row_lines nets 0 None rows)) c.loop-t-test.false
    (omega arith) so_far.2)
    (g.met.P.Page.onward _ _ _ _ _ so_far.1 c.print_mark.ensures)
