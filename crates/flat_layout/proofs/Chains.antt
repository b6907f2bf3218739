-- The instances of the design are added one by one.
use Rattle.std.proofs.Common.{◌≡◌, ℕ, zero, suc, ◌+◌, ◌-◌, ◌<◌, ◌≤◌, inl, inr, List, [], ◌∷◌, ◌++◌, map, length, take, refl}
use Rattle.std.proofs.Common.{sym, ap, subst, ◌∙◌, arith, get_or, length-append, length-take, Some, slice_get}
use Rattle.std.proofs.lemmas.Bool.{cases_lt}
use Rattle.std.proofs.lemmas.List.{length-map, take-map, map_more}
use Rattle.std.specs.Borrow.{Bor}
use Rattle.net_design.specs.declared.design.Instance.{Instance}
use Rattle.net_design.specs.Names.{list_at, paths_after, paths, AreAfterParents}
use Rattle.flat_parts.specs.vlog_hierarchy.Plain.{plain_path}
use Rattle.flat_parts.specs.vlog_elab.Instances.{ModuleInstance}
use Rattle.flat_parts.specs.vlog_elab.declared.instance.ModuleInstance as code
use Rattle.flat_parts.specs.vlog_elab.Plain.{plain_instance, plain_instances}
use Rattle.flat_parts.specs.vlog_driver.Names.{Full}
use Rattle.flat_layout.specs.Layout.{AreInstances, paths_of}
use Rattle.flat_layout.proofs.Lists.{slice_get_left, slice_get_right}

-- ---- lists of lists

abbrev Paths : Type 0
Paths = List Full

at_front : (l : Paths) (n k : ℕ) → k < n → list_at (take n l) k ≡ list_at l k
at_front [] zero k h = refl
at_front [] (suc n) k h = refl
at_front (x ∷ l) zero k h = absurd (omega (arith, h))
at_front (x ∷ l) (suc n) zero h = refl
at_front (x ∷ l) (suc n) (suc k) h = at_front l n k (omega (arith, h))

one_longer : (l : Paths) (n : ℕ) → n < length l → take (suc n) l ≡ take n l ++ list_at l n ∷ []
one_longer [] n h = absurd (omega (arith, h))
one_longer (x ∷ l) zero h = refl
one_longer (x ∷ l) (suc n) h = ap (λ (r : Paths). x ∷ r) (one_longer l n (omega (arith, h)))

pub path_there : (is : List code.ModuleInstance) (k : ℕ) (d : code.ModuleInstance) → k < length is
    → list_at (paths_of (plain_instances is)) k ≡ plain_path (get_or is k d).path
path_there [] k d h = absurd (omega (arith, h))
path_there (i ∷ is) zero d h = refl
path_there (i ∷ is) (suc k) d h = path_there is k d (omega (arith, h))

-- ---- one more instance

abbrev path_of : Paths → Instance → Full
path_of known x = list_at known x.parent ++ x.name ∷ []

after_push : (known : Paths) (rest : List Instance) (x : Instance)
    → paths_after known (rest ++ x ∷ []) ≡ paths_after known rest ++ path_of (paths_after known rest) x ∷ []
after_push known [] x = refl
after_push known (i ∷ rest) x = after_push (known ++ path_of known i ∷ []) rest x

paths_push : (d : List Instance) (x : Instance) → 1 ≤ length d → paths (d ++ x ∷ []) ≡ paths d ++ path_of (paths d) x ∷ []
paths_push [] x h = absurd (omega (arith, h))
paths_push (top ∷ rest) x h = after_push ([] ∷ []) rest x

-- the path behind those before it
paths_grow : (is : List ModuleInstance) (d : List Instance) (x : Instance) (n : ℕ) → n < length is → 1 ≤ length d → x.parent < n
    → paths d ≡ paths_of (take n is) → list_at (paths_of is) n ≡ path_of (paths_of is) x
    → paths (d ++ x ∷ []) ≡ paths_of (take (n + 1) is)
paths_grow is d x n there some before same path =
    let l : Paths = paths_of is in
    let long : n < length l = let e = length-map is (λ (i : ModuleInstance). i.path) in omega (arith, e, there) in
    let front : paths d ≡ take n l = same ∙ sym (take-map (λ (i : ModuleInstance). i.path) n is) in
    let own : path_of (paths d) x ≡ list_at l n =
    ap (λ (k : Paths). path_of k x) front ∙ (ap (λ (p : Full). p ++ x.name ∷ []) (at_front l n x.parent before) ∙ sym path) in
    let next : suc n ≡ n + 1 = omega arith in
    paths_push d x some
    ∙ (ap (λ (p : Full). paths d ++ p ∷ []) own
    ∙ (ap (λ (k : Paths). k ++ list_at l n ∷ []) front
    ∙ (sym (one_longer l n long)
    ∙ (ap (λ k. take k l) next ∙ take-map (λ (i : ModuleInstance). i.path) (n + 1) is))))

last_behind : (x y : Instance) (k i n : ℕ) → slice_get (x ∷ []) k ≡ Some y → i ≡ n + k → x.parent < n → y.parent < i
last_behind x y zero i n e h before =
    let same : x ≡ y = (cc) in
    let p : x.parent ≡ y.parent = ap (λ (z : Instance). z.parent) same in
    omega (arith, p, h, before)
last_behind x y (suc k) i n e h before = absurd (cc)

behind_grows : (d : List Instance) (x : Instance) (n : ℕ) → length d ≡ n → x.parent < n → AreAfterParents d → AreAfterParents (d ++ x ∷ [])
behind_grows d x n long before h i y e some = elim (cases_lt i (length d)) [
  | inl below ↦ h i y (sym (slice_get_left d (x ∷ []) i below) ∙ e) some
  | inr above ↦
      last_behind x y (i - length d) i n (sym (slice_get_right d (x ∷ []) i (i - length d) (omega (arith, above))) ∙ e)
      (omega (arith, above, long)) before
]

front_long : (is : List ModuleInstance) (n : ℕ) → n ≤ length is → length (take n is) ≡ n
front_long is n h = let e = length-take n is in omega (arith, e, h)

child_push : (is : List ModuleInstance) (d : List Instance) (x : Instance) (n : ℕ) → n < length is → 1 ≤ n → AreInstances d (take n is)
    → x.parent < n → list_at (paths_of is) n ≡ path_of (paths_of is) x → AreInstances (d ++ x ∷ []) (take (n + 1) is)
child_push is d x n there some h before path =
    let long : length d ≡ n = h.count ∙ front_long is n (omega (arith, there)) in
    record {
      count =
          let a = length-append d (x ∷ []) in
          let b = front_long is (n + 1) (omega (arith, there)) in
          omega (arith, a, b, long);
      same = paths_grow is d x n there (omega (arith, long, some)) before h.same path;
      parents = behind_grows d x n long before h.parents;
    }

pub child_added : (all : List code.ModuleInstance) (d e : List Instance) (x : Instance) (n : ℕ) → n < length all → 1 ≤ n
    → AreInstances d (take n (plain_instances all)) → e ≡ d ++ x ∷ [] → x.parent < n
    → list_at (paths_of (plain_instances all)) n ≡ path_of (paths_of (plain_instances all)) x
    → AreInstances e (take (n + 1) (plain_instances all))
child_added all d e x n there some h grew before path =
    let long = length-map all plain_instance in
    subst (λ (l : List Instance). AreInstances l (take (n + 1) (plain_instances all))) (sym grew)
    (child_push (plain_instances all) d x n (omega (arith, long, there)) some h before path)

-- ---- the top

top_parent : (x : Instance) (k : ℕ) (y : Instance) → slice_get (x ∷ []) k ≡ Some y → 1 ≤ k → y.parent < k
top_parent x zero y e some = absurd (omega (arith, some))
top_parent x (suc k) y e some = absurd (cc)

top_alone : (is : List ModuleInstance) (x : Instance) → 0 < length is → list_at (paths_of is) 0 ≡ [] → AreInstances (x ∷ []) (take 1 is)
top_alone [] x h path = absurd (omega (arith, h))
top_alone (i ∷ is) x h path = record {
  count = refl;
  same = ap (λ (p : Full). p ∷ []) (sym path);
  parents = top_parent x;
}

top_push : (is : List ModuleInstance) (d : List Instance) (x : Instance) → 0 < length is → length d ≡ 0 → list_at (paths_of is) 0 ≡ []
    → AreInstances (d ++ x ∷ []) (take 1 is)
top_push is [] x h none path = top_alone is x h path
top_push is (y ∷ d) x h none path = absurd (omega (arith, none))

pub top_added : (all : List code.ModuleInstance) (d e : List Instance) (x : Instance) (n : ℕ) → n ≡ 0 → n < length all
    → AreInstances d (take n (plain_instances all)) → e ≡ d ++ x ∷ [] → list_at (paths_of (plain_instances all)) 0 ≡ []
    → AreInstances e (take (n + 1) (plain_instances all))
top_added all d e x n first there h grew path =
    let is : List ModuleInstance = plain_instances all in
    let long : length is ≡ length all = length-map all plain_instance in
    let none : length d ≡ 0 = h.count ∙ (front_long is n (omega (arith, there, long)) ∙ first) in
    let one : 1 ≡ n + 1 = omega (arith, first) in
    subst (λ (l : List Instance). AreInstances l (take (n + 1) is)) (sym grew)
    (subst (λ k. AreInstances (d ++ x ∷ []) (take k is)) one (top_push is d x (omega (arith, there, long)) none path))

-- ---- paths name by name

pub one_name : (path front : List (Bor (List ℕ))) (k : ℕ) (x y : Bor (List ℕ)) → k < length path → k < length front
    → x ≡ get_or path k x → y ≡ get_or front k y → x.now ≡ y.now
    → take k (plain_path path) ≡ take k (plain_path front) → take (k + 1) (plain_path path) ≡ take (k + 1) (plain_path front)
one_name path front k x y l m a b same h =
    let f : Bor (List ℕ) → List ℕ = λ (name : Bor (List ℕ)). name.now in
    take-map f (k + 1) path
    ∙ (map_more f path k x l
    ∙ (ap (λ (p : Full). p ++ f (get_or path k x) ∷ []) (sym (take-map f k path) ∙ (h ∙ take-map f k front))
    ∙ (ap (λ (n : List ℕ). map f (take k front) ++ n ∷ []) (ap f (sym a) ∙ (same ∙ ap f b))
    ∙ (sym (map_more f front k y m) ∙ sym (take-map f (k + 1) front)))))
