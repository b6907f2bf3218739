use Rattle.std.proofs.Common.{ℕ, List, [], ◌∷◌, ◌++◌, refl, subst, length}
use Rattle.wave_text.specs.Names.{path_of}
use Rattle.wave_text.specs.Text.{up_line, ups, text_of}
use Rattle.wave_text.proofs.Printed.{ups-more, ups-end}
use Rattle.wave_text.proofs.declarations.print_ups.Goals as goal

pub loop-inside-init : goal.loop-inside-init
loop-inside-init g c = ([], g.met.P.Page.still _, refl)

pub loop-inside-preserved : goal.loop-inside-preserved
loop-inside-preserved g c =
    let so_far = c.loop-inside.invariant in (
      so_far.0 ++ (up_line ++ 10 ∷ []),
      g.met.P.Page.onward _ _ _ _ _ so_far.1 c.print_up.ensures,
      ups-more c.loop-inside.rest.now c.in-Some.field-0-0.now c.in-Some.inside.now so_far.0
          (text_of (ups (length (path_of c.args.name.now)))) c.in-Some.ensures so_far.2,
    )

pub returns : goal.returns
returns g c =
    let so_far = c.loop-inside.invariant in
    subst (λ (x : List ℕ). g.P.Page.went c.args.page.now c.loop-inside.page x)
    (ups-end c.loop-inside.rest.now so_far.0 (text_of (ups (length (path_of c.args.name.now)))) c.in_default.ensures so_far.2) so_far.1
