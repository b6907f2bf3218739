use Rattle.std.proofs.Common.{◌≡◌, ℕ, ◌++◌, ◌∷◌, [], List}
use Rattle.net_sim.proofs.NameLaws.{no_dot, no_name, name_and_dot, match_map}
use Rattle.net_sim.proofs.names.before_name.Goals as goal

pub returns-in-Some : goal.returns-in-Some
returns-in-Some c =
    let text = c.args.text.now in
    let name = c.args.name.now in
    let rest = c.in-Some.rest.now in
    match_map ((front : List ℕ) → rest ≡ front ++ name → ⊥) ((front : List ℕ) → text ≡ front ++ (name ++ 46 ∷ []) → ⊥)
    (λ front. rest ≡ front.now ++ name) (λ front. text ≡ front.now ++ (name ++ 46 ∷ [])) c.before-in-Some.result
    (no_name text rest name c.in-Some.ensures) (λ front h. name_and_dot text rest front.now name c.in-Some.ensures h)
    c.before-in-Some.ensures

pub returns-in-None : goal.returns-in-None
returns-in-None c = no_dot c.args.text.now c.args.name.now c.in-None.ensures
