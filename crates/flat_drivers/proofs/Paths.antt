-- The seat that a path has.
use Rattle.std.proofs.Common.{◌≡◌, ◌≢◌, ℕ, zero, suc, ◌+◌, Bool, false, if◌then◌else◌, List, [], ◌∷◌, ◌++◌, map, length}
use Rattle.std.proofs.Common.{Some, slice_get, take, ap, sym, ◌∙◌, arith, add-one}
use Rattle.std.specs.Borrow.{Bor}
use Rattle.std.proofs.lemmas.List.{map-append}
use Rattle.flat_parts.specs.vlog_hierarchy.Plain.{plain_path}
use Rattle.std.specs.List.{flat_map}
use Rattle.std.proofs.lemmas.Bool.{false_from_ne_true}
use Rattle.std.proofs.lemmas.Option.{slice_get_within, get_or_from_slice_get}
use Rattle.flat_parts.specs.Instances.{HaveOwnPaths}
use Rattle.flat_parts.proofs.vidi_bits_lemmas.Lists.{some_same}
use Rattle.vlog_tree.specs.Tree.{InstanceOf}
use Rattle.flat_parts.specs.vlog_scope.Scope.{words_of}
use Rattle.flat_parts.specs.vlog_names.Entries.{Names, declared}
use Rattle.flat_parts.specs.vlog_elab.Instances.{ModuleInstance}
use Rattle.flat_parts.proofs.vlog_driver_lemmas.Paths.{path_same, path_itself}
use Rattle.flat_parts.specs.vlog_driver.Names.{Full, same_path}
use Rattle.flat_parts.specs.vlog_driver.Sites.{Site}
use Rattle.flat_parts.specs.vlog_driver.Duties.{Duty, conn_duties}
use Rattle.flat_parts.specs.Seats.{Seat, base_of, seats_from, seats_of, seat_named}
use Rattle.flat_parts.specs.Drivers.{joined_duties}
use Rattle.flat_parts.specs.net_code.declared.base.Base.{Base}
use Rattle.flat_drivers.specs.Adding.{site_from}

-- ---- paths

other : (a b : Full) → a ≢ b → same_path a b ≡ false
other a b differ = false_from_ne_true (same_path a b) (λ h. differ (path_same a b h))

-- ---- the seat of an instance

pub record IsSeatAt (xs : List Seat) (i : ModuleInstance) (place : Base) (q : Seat) : Type 0 where
  pub named : seat_named xs i.path ≡ Some q
  pub instance : q.instance ≡ i
  pub base : base_of q ≡ place

rest_own : (i : ModuleInstance) (is : List ModuleInstance) → HaveOwnPaths (i ∷ is) → HaveOwnPaths is
rest_own i is own j k d l m = own (suc j) (suc k) d (omega (arith, l)) (omega (arith, m))

first_own : (h : ModuleInstance) (is : List ModuleInstance) (k : ℕ) (i : ModuleInstance) → HaveOwnPaths (h ∷ is) → slice_get is k ≡ Some i
    → h.path ≢ i.path
first_own h is k i own at same =
    own 0 (suc k) i (omega arith) (omega (arith, slice_get_within is k i at))
    (same ∙ ap (λ (j : ModuleInstance). j.path) (sym (get_or_from_slice_get is k i i at)))

seat_here : (xs : List Seat) (x : Seat) (i : ModuleInstance) (base : Base) → x.instance ≡ i → base_of x ≡ base
    → IsSeatAt (x ∷ xs) i base x
seat_here xs x i base is at = record {
  named = ap (λ (b : Bool). if b then Some x else seat_named xs i.path)
      (ap (λ (j : ModuleInstance). same_path j.path i.path) is ∙ path_itself i.path);
  instance = is;
  base = at;
}

seat_later : (xs : List Seat) (x q : Seat) (i : ModuleInstance) (base : Base) → x.instance.path ≢ i.path → IsSeatAt xs i base q
    → IsSeatAt (x ∷ xs) i base q
seat_later xs x q i base differ at = record {
  named = ap (λ (b : Bool). if b then Some x else seat_named xs i.path) (other x.instance.path i.path differ) ∙ at.named;
  instance = at.instance;
  base = at.base;
}

named_at : (n net word : ℕ) (is : List ModuleInstance) (k : ℕ) (i : ModuleInstance) (base : Base) → HaveOwnPaths is
    → slice_get is k ≡ Some i → slice_get (map base_of (seats_from n net word is)) k ≡ Some base
    → (q : Seat) × IsSeatAt (seats_from n net word is) i base q
named_at n net word [] k i base own at begins = absurd (cc)
named_at n net word (h ∷ is) zero i base own at begins =
    (_, seat_here _ _ i base (some_same h i at) (some_same _ base begins))
named_at n net word (h ∷ is) (suc k) i base own at begins =
    let q = named_at (n + 1) (net + length h.scope.nets) (word + words_of h.scope.memories) is k i base (rest_own h is own) at begins in
    (q.0, seat_later _ _ q.0 i base (first_own h is k i own at) q.1)

-- the drivers of the connections of the instance at a place of the list
pub joined_is : (is : List ModuleInstance) (k : ℕ) (i : ModuleInstance) (base : Base) (bases : List Base) (p : Site) (x : InstanceOf ℕ)
    (path : Full) (names : Names) → HaveOwnPaths is → bases ≡ map base_of (seats_of is) → slice_get is k ≡ Some i
    → slice_get bases k ≡ Some base → i.path ≡ path → names ≡ declared i.tree
    → flat_map (conn_duties names p (site_from base i.scope i.scope.declared)) x.ports ≡ joined_duties p x (seat_named (seats_of is) path)
unfolding seats_of
joined_is is k i base bases p x path names own stand at begins here table =
    let q = named_at 0 0 0 is k i base own at (ap (λ ss. slice_get ss k) (sym stand) ∙ begins) in
    let D : Names → Base → ModuleInstance → List Duty =
    λ ns s j. flat_map (conn_duties ns p (site_from s j.scope j.scope.declared)) x.ports in
    ap (λ ns. D ns base i) table ∙ ap (λ s. D (declared i.tree) s i) (sym q.1.base)
    ∙ ap (λ (j : ModuleInstance). D (declared j.tree) (base_of q.0) j) (sym q.1.instance)
    ∙ ap (joined_duties p x) (sym (ap (seat_named (seats_of is)) (sym here) ∙ q.1.named))

-- ---- paths name by name

taken_more : {X : Type 0} → (xs : List X) (k : ℕ) (x : X) → slice_get xs k ≡ Some x → take (suc k) xs ≡ take k xs ++ x ∷ []
taken_more [] k x h = absurd (cc)
taken_more (y ∷ xs) zero x h = ap (λ z. z ∷ []) (some_same y x h)
taken_more (y ∷ xs) (suc k) x h = ap (λ ys. y ∷ ys) (taken_more xs k x h)

path_more : (a : List (Bor (List ℕ))) (k : ℕ) (x : Bor (List ℕ)) → slice_get a k ≡ Some x
    → plain_path (take (suc k) a) ≡ plain_path (take k a) ++ x.now ∷ []
path_more a k x h = ap plain_path (taken_more a k x h) ∙ map-append (λ (n : Bor (List ℕ)). n.now) (take k a) (x ∷ [])

pub path_next : (a b : List (Bor (List ℕ))) (k : ℕ) (x y : Bor (List ℕ)) → slice_get a k ≡ Some x → slice_get b k ≡ Some y
    → x.now ≡ y.now → plain_path (take k a) ≡ plain_path (take k b) → plain_path (take (k + 1) a) ≡ plain_path (take (k + 1) b)
path_next a b k x y h g same so_far = rw add-one
    (path_more a k x h ∙ ap (λ ns. ns ++ x.now ∷ []) so_far ∙ ap (λ n. plain_path (take k b) ++ n ∷ []) same ∙ sym (path_more b k y g))

pub path_longer : (longer front : List (Bor (List ℕ))) (last : Bor (List ℕ)) (path : List (Bor (List ℕ))) (name : List ℕ)
    → longer ≡ front ++ last ∷ [] → plain_path front ≡ plain_path path → last.now ≡ name
    → plain_path longer ≡ plain_path path ++ name ∷ []
path_longer longer front last path name is same named =
    ap plain_path is ∙ map-append (λ (n : Bor (List ℕ)). n.now) front (last ∷ []) ∙ ap (λ ns. ns ++ last.now ∷ []) same
    ∙ ap (λ n. plain_path path ++ n ∷ []) named
