use Rattle.std.proofs.Common.{ℕ, List, None, sym, subst}
use Rattle.wave_text.specs.declared.wave.WaveNet.{WaveNet}
use Rattle.wave_text.specs.Text.{declarations, row_lines, text_of}
use Rattle.wave_text.proofs.Printed.{text-append}
use Rattle.wave_text.proofs.printing.print_wave.Goals as goal

pub returns : goal.returns
returns g c =
    let wave = c.args.wave.now in
    let start = c.args.page.now in
    let half = c.print_declarations.new.page in
    let end = c.print_rows.new.page in
    let named = subst (λ (x : List ℕ). g.P.Page.went start half (text_of (declarations x c.as_slice-nets.result.now))) c.as_slice.ensures
    c.print_declarations.ensures in
    let declared = subst (λ (x : List WaveNet). g.P.Page.went start half (text_of (declarations wave.top x))) c.as_slice-nets.ensures named in
    let numbers = subst (λ (x : List WaveNet). g.P.Page.went half end (text_of (row_lines x 0 None c.as_slice-2.result.now))) c.as_slice-nets.ensures
    c.print_rows.ensures in
    let rows = subst (λ (x : List (List ℕ)). g.P.Page.went half end (text_of (row_lines wave.nets 0 None x))) c.as_slice-2.ensures numbers in
    subst (λ (x : List ℕ). g.P.Page.went start end x)
    (sym (text-append (declarations wave.top wave.nets) (row_lines wave.nets 0 None wave.rows))) (g.met.P.Page.onward _ _ _ _ _ declared rows)
