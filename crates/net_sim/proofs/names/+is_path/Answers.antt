use Rattle.std.proofs.Common.{◌≡◌, ℕ, ◌<◌, ◌≤◌, ◌++◌, ◌∷◌, [], List, ap, sym, ◌∙◌, arith}
use Rattle.std.proofs.lemmas.List.{append_cancel_right}
use Rattle.net_design.proofs.LawfulCode.{slice_get-at}
use Rattle.net_design.specs.Names.{list_at, paths}
use Rattle.net_sim.specs.Names.{dotted}
use Rattle.net_sim.proofs.NameLaws.{top_path, path_text, empty_from, empty_by}
use Rattle.net_sim.proofs.names.+is_path.Goals as goal

pub returns-then-i-eq0 : goal.returns-then-i-eq0
returns-then-i-eq0 t c =
    let instances = c.args.instances.now in
    let e = ap (λ k. dotted (list_at (paths instances) k)) c.if-i-eq0.true ∙ ap dotted (top_path instances) in (
      (λ h. e ∙ sym (empty_from c.is_empty.result c.args.text.now c.is_empty.ensures h)),
      (λ h. empty_by c.is_empty.result c.args.text.now c.is_empty.ensures (sym h ∙ e)),
    )

pub is_path-requires : goal.is_path-requires
is_path-requires t c =
    let instances = c.args.instances.now in
    let x = c.index-instances-i.result in
    let some : 1 ≤ c.args.i = omega (arith, c.if-i-eq0.false) in
    let l : x.parent < c.args.i = c.requires.parents c.args.i x (slice_get-at instances c.args.i x c.requires.within
    (sym c.index-instances-i.is)) some in
    (omega (arith, l, c.decreases), (c.requires.parents, omega (arith, l, c.requires.within)))

pub returns-in-Some : goal.returns-in-Some
returns-in-Some t c =
    let instances = c.args.instances.now in
    let x = c.index-instances-i.result in
    let front = c.in-Some.front.now in
    let some : 1 ≤ c.args.i = omega (arith, c.if-i-eq0.false) in
    let p = path_text instances c.args.i x c.requires.parents (slice_get-at instances c.args.i x c.requires.within
    (sym c.index-instances-i.is)) some in
    let text : c.args.text.now ≡ front ++ (x.name ++ 46 ∷ []) = c.in-Some.ensures
    ∙ ap (λ (n : List ℕ). front ++ (n ++ 46 ∷ [])) c.as_slice.ensures in (
      (λ h. p ∙ ap (λ (d : List ℕ). d ++ (x.name ++ 46 ∷ [])) (c.is_path.ensures.0 h) ∙ sym text),
      (λ h. c.is_path.ensures.1 (append_cancel_right (dotted (list_at (paths instances) x.parent)) front (x.name ++ 46 ∷ [])
          (sym p ∙ h ∙ text))),
    )

pub returns-in-None : goal.returns-in-None
returns-in-None t c =
    let instances = c.args.instances.now in
    let x = c.index-instances-i.result in
    let some : 1 ≤ c.args.i = omega (arith, c.if-i-eq0.false) in
    let p = path_text instances c.args.i x c.requires.parents (slice_get-at instances c.args.i x c.requires.within
    (sym c.index-instances-i.is)) some in
    let front = dotted (list_at (paths instances) x.parent) in (
      (λ h. absurd cc),
      (λ h. absurd (c.in-None.ensures front (sym h ∙ p ∙ ap (λ (n : List ℕ). front ++ (n ++ 46 ∷ []))
          (sym c.as_slice.ensures)))),
    )
