use Rattle.std.proofs.Common.{ℕ, List, [], ◌∷◌, ◌++◌, refl, subst, map}
use Rattle.wave_text.specs.Names.{path_of}
use Rattle.wave_text.specs.Text.{scope_line, text_of}
use Rattle.wave_text.proofs.Printed.{scopes-more, scopes-end}
use Rattle.wave_text.proofs.declarations.print_scopes.Goals as goal

pub loop-part-init : goal.loop-part-init
loop-part-init g c = ([], g.met.P.Page.still _, refl)

pub loop-part-preserved : goal.loop-part-preserved
loop-part-preserved g c =
    let so_far = c.loop-part.invariant in (
      so_far.0 ++ (scope_line c.in-Some.part.now ++ 10 ∷ []),
      g.met.P.Page.onward _ _ _ _ _ so_far.1 c.print_scope.ensures,
      scopes-more c.loop-part.rest.now c.in-Some.part.now c.in-Some.inside.now so_far.0
          (text_of (map scope_line (path_of c.args.name.now))) c.in-Some.ensures so_far.2,
    )

pub returns : goal.returns
returns g c =
    let so_far = c.loop-part.invariant in
    subst (λ (x : List ℕ). g.P.Page.went c.args.page.now c.loop-part.page x)
    (scopes-end c.loop-part.rest.now so_far.0 (text_of (map scope_line (path_of c.args.name.now))) c.in_default.ensures so_far.2) so_far.1
