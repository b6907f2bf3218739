-- Full names: an instance path and a name in it (IEEE 1364-2005, 12.5, with the top's own name left out).
use Rattle.std.specs.Prelude.{◌≡◌, ℕ, zero, suc, ◌<◌, ◌≤◌, List, [], ◌∷◌, ◌++◌, map, slice_get, Some}
use Rattle.net_design.specs.declared.design.Instance.{Instance}
use Rattle.net_design.specs.declared.design.Net.{Net}
use Rattle.net_design.specs.declared.design.Design.{Design}

-- each instance but the top comes after the one that holds it
abbrev pub AreAfterParents : List Instance → Type 0
AreAfterParents instances = (i : ℕ) (x : Instance) → slice_get instances i ≡ Some x → 1 ≤ i → x.parent < i

-- list i of the lists, the empty one past the end
abbrev pub list_at : {X : Type 0} → List (List X) → ℕ → List X
list_at [] i = []
list_at (xs ∷ rest) zero = xs
list_at (xs ∷ rest) (suc i) = list_at rest i

-- the paths of instances, where `known` are those of the instances before them: that of the parent, and the instance's name
abbrev pub paths_after : List (List (List ℕ)) → List Instance → List (List (List ℕ))
paths_after known [] = known
paths_after known (i ∷ rest) = paths_after (known ++ (list_at known i.parent ++ i.name ∷ []) ∷ []) rest

-- the path of each instance; the top's is empty
abbrev pub paths : List Instance → List (List (List ℕ))
paths [] = []
paths (top ∷ rest) = paths_after ([] ∷ []) rest

-- the full name of each net
abbrev pub net_names : Design → List (List (List ℕ))
net_names d = map (λ (n : Net). list_at (paths d.instances) n.instance ++ n.name ∷ []) d.nets
