-- Tables of values by name, where a function is applied to each value.
use Rattle.std.proofs.Common.{◌≡◌, ℕ, Bool, true, false, List, [], ◌∷◌, ◌++◌, map, Option, Some, None, option_map, is_some}
use Rattle.std.proofs.Common.{refl, sym, ap, ◌∙◌}
use Rattle.std.proofs.Common.{if◌then◌else◌}
use Rattle.std.specs.Str.{bytes_eq}
use Rattle.vlog_size.specs.Table.{Named, value_of, added}

abbrev pub applied : {V W : Type 0} → (V → W) → Named V → Named W
applied f x = record { name = x.name; value = f x.value }

chosen : {V W : Type 0} (f : V → W) (b : Bool) (x : V) (o : Option V) (p : Option W) → p ≡ option_map f o
    → (if b then Some (f x) else p) ≡ option_map f (if b then Some x else o)
chosen f true x o p h = refl
chosen f false x o p h = h

pub value_of_map : {V W : Type 0} (f : V → W) (xs : List (Named V)) (n : List ℕ)
    → value_of (map (applied f) xs) n ≡ option_map f (value_of xs n)
value_of_map f [] n = refl
value_of_map f (x ∷ xs) n = chosen f (bytes_eq n x.name) x.value (value_of xs n) _ (value_of_map f xs n)

there : {V W : Type 0} (f : V → W) (o : Option V) → is_some (option_map f o) ≡ is_some o
there f None = refl
there f (Some x) = refl

map_end : {V W : Type 0} (f : V → W) (xs : List (Named V)) (n : List ℕ) (v : V)
    → map (applied f) (xs ++ record { name = n; value = v } ∷ []) ≡ map (applied f) xs ++ record { name = n; value = f v } ∷ []
map_end f [] n v = refl
map_end f (x ∷ xs) n v = ap (λ ys. applied f x ∷ ys) (map_end f xs n v)

kept_or : {A B : Type 0} (g : A → B) (b : Bool) (xs ys : A) (zs : B) → g ys ≡ zs → g (if b then xs else ys) ≡ (if b then g xs else zs)
kept_or g true xs ys zs h = refl
kept_or g false xs ys zs h = h

pub added_map : {V W : Type 0} (f : V → W) (xs : List (Named V)) (n : List ℕ) (v : V)
    → map (applied f) (added xs n v) ≡ added (map (applied f) xs) n (f v)
added_map f xs n v =
    kept_or (map (applied f)) (is_some (value_of xs n)) xs _ _ (map_end f xs n v)
    ∙ ap (λ b. if b then map (applied f) xs else map (applied f) xs ++ record { name = n; value = f v } ∷ [])
    (sym (there f (value_of xs n)) ∙ ap is_some (sym (value_of_map f xs n)))
