-- The keys of a set of names, as texts.
use Rattle.std.proofs.Common.{◌≡◌, ℕ, Bool, false, ◌||◌, if◌then◌else◌, nat_eq, List, [], ◌∷◌, ◌++◌, map, refl, ap, ◌∙◌, Vec, Global}
use Rattle.std.proofs.lemmas.List.{map-append}
use Rattle.std.specs.Cmp.Lexicographic.{pointwise}
use Rattle.std.specs.List.{list_any}
use Rattle.std.specs.Str.{bytes_eq}
use Rattle.indexmap.specs.IndexSet.{insert_key}

abbrev pub Key : Type 0
Key = Vec ℕ Global

abbrev pub same_key : Key → Key → Bool
same_key v w = pointwise nat_eq v.items w.items

abbrev pub texts : List Key → List (List ℕ)
texts keys = map (λ (v : Key). v.items) keys

pub any_text : (name : List ℕ) (keys : List Key)
    → list_any (λ (v : Key). pointwise nat_eq name v.items) keys ≡ list_any (bytes_eq name) (texts keys)
any_text name [] = refl
any_text name (v ∷ keys) = ap (λ b. pointwise nat_eq name v.items || b) (any_text name keys)

pub inserted : (name : List ℕ) (v : Key) (old new : List Key) → v.items ≡ name → new ≡ insert_key same_key old v
    → list_any (bytes_eq name) (texts old) ≡ false → texts new ≡ texts old ++ name ∷ []
inserted name v old new is grown absent =
    let none : list_any (same_key v) old ≡ false = any_text v.items old ∙ ap (λ n. list_any (bytes_eq n) (texts old)) is ∙ absent in
    let pushed : new ≡ old ++ v ∷ [] = grown ∙ ap (λ b. if b then old else old ++ v ∷ []) none in
    ap texts pushed ∙ map-append (λ (w : Key). w.items) old (v ∷ []) ∙ ap (λ n. texts old ++ n ∷ []) is
