-- The parameters so far are a front of all parameters, and are as many as are declared.
use Rattle.std.proofs.Common.{◌≡◌, ◌<◌, ℕ, suc, ◌+◌, Bool, true, false, if◌then◌else◌, not, cond, nat_lt, max, List, []}
use Rattle.std.proofs.Common.{◌∷◌, ◌++◌, take, length}
use Rattle.std.proofs.Common.{Option, None, Some, is_some, refl, ap, sym, ◌∙◌, append_assoc, length-append, arith}
use Rattle.std.proofs.lemmas.List.{append-nil}
use Rattle.std.proofs.lemmas.Slice.Eq.{bytes_eq-Decides}
use Rattle.std.proofs.Math.Seq.{take-append_seam}
use Rattle.std.specs.List.{position_or_len}
use Rattle.std.specs.Str.{bytes_eq}
use Rattle.vlog_size.specs.Table.{Named, value_of, place_of, added}
use Rattle.vlog_size.specs.Size.{Sizes}
use Rattle.vlog_size.specs.declared.scope.Param.{Param}
use Rattle.vlog_tree.specs.Tree.{ParameterOf, NamedValueOf, ItemOf, WiresItem, DrivenWiresItem, RegsItem, LocalparamsItem, AssignItem}
use Rattle.vlog_tree.specs.Tree.{AlwaysItem, InstanceItem}
use Rattle.vlog_scope.specs.declared.extent.Extent.{Extent}
use Rattle.vlog_scope.specs.Params.{header_params, local_params, item_params, items_params, with_param, given_or}
use Rattle.vlog_scope.specs.Extents.{constant_sizes, parameter_extent}
use Rattle.vlog_size.specs.Names.{params_alone}
use Rattle.vlog_scope.specs.Scope.{up_to, after_name}

-- the second list begins with the first
abbrev pub Grown : {V : Type 0} → List V → List V → Type 0
Grown {V} xs ys = (rest : List V) × (ys ≡ xs ++ rest)

pub grown_same : {V : Type 0} → (xs : List V) → Grown xs xs
grown_same xs = ([], sym (append-nil xs))

pub grown_twice : {V : Type 0} → (xs ys zs : List V) → Grown xs ys → Grown ys zs → Grown xs zs
grown_twice xs ys zs h k =
    (h.0 ++ k.0, k.1 ∙ (ap (λ l. l ++ k.0) h.1 ∙ append_assoc xs h.0 k.0))

grown_or : {V : Type 0} → (b : Bool) (xs ys : List V) → Grown xs (if b then xs else xs ++ ys)
grown_or true xs ys = grown_same xs
grown_or false xs ys = (ys, refl)

pub grown_added : {V : Type 0} → (xs : List (Named V)) (n : List ℕ) (v : V) → Grown xs (added xs n v)
grown_added xs n v = grown_or (is_some (value_of xs n)) xs (record { name = n; value = v } ∷ [])

pub grown_header : (given : List (Named Sizes)) (x : Extent) (xs : List (Named Param)) (ps : List (ParameterOf ℕ))
    → Grown xs (header_params given x xs ps)
grown_header given x xs [] = grown_same xs
grown_header given x xs (p ∷ ps) = grown_twice xs _ _ (grown_added xs p.id.name _)
    (grown_header given (parameter_extent (params_alone xs) x p.head)
    (with_param (parameter_extent (params_alone xs) x p.head) xs p.id.name
    (given_or (value_of given p.id.name) (constant_sizes (params_alone xs) p.value))) ps)

pub grown_locals : (x : Extent) (xs : List (Named Param)) (vs : List (NamedValueOf ℕ)) → Grown xs (local_params x xs vs)
grown_locals x xs [] = grown_same xs
grown_locals x xs (v ∷ vs) = grown_twice xs _ _ (grown_added xs v.id.name _)
    (grown_locals x (with_param x xs v.id.name (constant_sizes (params_alone xs) v.value)) vs)

pub grown_item : (xs : List (Named Param)) (i : ItemOf ℕ) → Grown xs (item_params xs i)
grown_item xs (WiresItem range ids) = grown_same xs
grown_item xs (DrivenWiresItem range ws) = grown_same xs
grown_item xs (RegsItem range gs) = grown_same xs
grown_item xs (LocalparamsItem range vs) = grown_locals _ xs vs
grown_item xs (AssignItem assigns) = grown_same xs
grown_item xs (AlwaysItem a) = grown_same xs
grown_item xs (InstanceItem i) = grown_same xs

pub grown_items : (xs : List (Named Param)) (is : List (ItemOf ℕ)) → Grown xs (items_params xs is)
grown_items xs [] = grown_same xs
grown_items xs (i ∷ is) = grown_twice xs _ _ (grown_item xs i) (grown_items (item_params xs i) is)

pub front : {V : Type 0} → (xs ys : List V) → Grown xs ys → take (length xs) ys ≡ xs
front xs ys h = ap (take (length xs)) h.1 ∙ take-append_seam xs h.0

-- ---- the place of a name
first_true : (b : Bool) (n : ℕ) → b ≡ true → cond (not b) n 0 ≡ 0
first_true b n h = ap (λ c. cond (not c) n 0) h

kept_place : (b : Bool) (m n : ℕ) → (b ≡ false → m ≡ n) → cond (not b) (1 + m) 0 ≡ cond (not b) (1 + n) 0
kept_place true m n h = refl
kept_place false m n h = ap (λ k. 1 + k) (h refl)

some_later : {V : Type 0} → (b : Bool) (v : V) (o : Option V) → b ≡ false → is_some (if b then Some v else o) ≡ true → is_some o ≡ true
some_later true v o h k = (cc)
some_later false v o h k = k

within_cons : (b : Bool) (m n : ℕ) → (b ≡ false → m < n) → cond (not b) (1 + m) 0 < suc n
within_cons true m n h = omega arith
within_cons false m n h = let k : m < n = h refl in omega (arith, k)

there_place : {V : Type 0} → (xs ys : List (Named V)) (n : List ℕ) → is_some (value_of xs n) ≡ true
    → position_or_len (λ (x : Named V). bytes_eq n x.name) (xs ++ ys) ≡ position_or_len (λ (x : Named V). bytes_eq n x.name) xs
there_place [] ys n h = (cc)
there_place (x ∷ xs) ys n h =
    kept_place (bytes_eq n x.name) _ _ (λ b. there_place xs ys n (some_later (bytes_eq n x.name) x.value (value_of xs n) b h))

there_within : {V : Type 0} → (xs : List (Named V)) (n : List ℕ) → is_some (value_of xs n) ≡ true
    → position_or_len (λ (x : Named V). bytes_eq n x.name) xs < length xs
there_within [] n h = (cc)
there_within (x ∷ xs) n h =
    within_cons (bytes_eq n x.name) _ (length xs) (λ b. there_within xs n (some_later (bytes_eq n x.name) x.value (value_of xs n) b h))

none_here : {V : Type 0} → (b : Bool) (v : V) (o : Option V) → is_some (if b then Some v else o) ≡ false → b ≡ false
none_here true v o h = (cc)
none_here false v o h = refl

none_later : {V : Type 0} → (b : Bool) (v : V) (o : Option V) → is_some (if b then Some v else o) ≡ false → is_some o ≡ false
none_later true v o h = (cc)
none_later false v o h = h

past_cons : (b : Bool) (m n : ℕ) → b ≡ false → m ≡ n → cond (not b) (1 + m) 0 ≡ suc n
past_cons true m n h k = (cc)
past_cons false m n h k = omega (arith, k)

new_place : {V : Type 0} → (xs ys : List (Named V)) (n : List ℕ) (v : V) → is_some (value_of xs n) ≡ false
    → position_or_len (λ (x : Named V). bytes_eq n x.name) (xs ++ (record { name = n; value = v } ∷ ys)) ≡ length xs
new_place [] ys n v h = first_true (bytes_eq n n) (1 + position_or_len (λ x. bytes_eq n x.name) ys) ((bytes_eq-Decides n n).1 refl)
new_place (x ∷ xs) ys n v h =
    past_cons (bytes_eq n x.name) _ (length xs) (none_here (bytes_eq n x.name) x.value (value_of xs n) h)
    (new_place xs ys n v (none_later (bytes_eq n x.name) x.value (value_of xs n) h))

up_to_place : (m n : ℕ) → m < n → up_to (cond (nat_lt m n) (Some m) None) ≡ m + 1
up_to_place m n h = let b : nat_lt m n ≡ true = grind arith in ap (λ (c : Bool). up_to (cond c (Some m) None)) b

placed : (xs : List (Named Param)) (n : List ℕ) (m : ℕ) → position_or_len (λ (x : Named Param). bytes_eq n x.name) xs ≡ m → m < length xs
    → up_to (place_of xs n) ≡ m + 1
placed xs n m h k = rw h (up_to_place m (length xs) k)

longer : (xs rest : List (Named Param)) (r : Named Param) → length xs < length ((xs ++ r ∷ []) ++ rest)
longer xs rest r =
    let a : length ((xs ++ r ∷ []) ++ rest) ≡ length (xs ++ r ∷ []) + length rest = length-append (xs ++ r ∷ []) rest in
    let b : length (xs ++ r ∷ []) ≡ length xs + 1 = length-append xs (r ∷ []) in
    omega (arith, a, b)

within_more : (xs rest : List (Named Param)) (m : ℕ) → m < length xs → m < length (xs ++ rest)
within_more xs rest m h = let a : length (xs ++ rest) ≡ length xs + length rest = length-append xs rest in omega (arith, a, h)

declared_more : (b : Bool) (xs all : List (Named Param)) (n : List ℕ) (v : Param) → is_some (value_of xs n) ≡ b
    → Grown (if b then xs else xs ++ record { name = n; value = v } ∷ []) all
    → max (length xs) (up_to (place_of all n)) ≡ length (if b then xs else xs ++ record { name = n; value = v } ∷ [])
declared_more true xs all n v h g =
    let m = position_or_len (λ (x : Named Param). bytes_eq n x.name) xs in
    let within : m < length xs = there_within xs n h in
    let at : position_or_len (λ (x : Named Param). bytes_eq n x.name) all ≡ m =
    ap (position_or_len (λ (x : Named Param). bytes_eq n x.name)) g.1 ∙ there_place xs g.0 n h in
    let inside : m < length all = rw g.1 (within_more xs g.0 m within) in
    let up : up_to (place_of all n) ≡ m + 1 = placed all n m at inside in
    omega (arith, up, within)
declared_more false xs all n v h g =
    let r : Named Param = record { name = n; value = v } in
    let whole : all ≡ xs ++ (r ∷ g.0) = g.1 ∙ append_assoc xs (r ∷ []) g.0 in
    let at : position_or_len (λ (x : Named Param). bytes_eq n x.name) all ≡ length xs =
    ap (position_or_len (λ (x : Named Param). bytes_eq n x.name)) whole ∙ new_place xs g.0 n v h in
    let inside : length xs < length all = rw g.1 (longer xs g.0 r) in
    let up : up_to (place_of all n) ≡ length xs + 1 = placed all n (length xs) at inside in
    let b : length (xs ++ r ∷ []) ≡ length xs + 1 = length-append xs (r ∷ []) in
    omega (arith, up, b)

-- behind a name as many parameters are declared as there are so far
pub declared_added : (xs all : List (Named Param)) (n : List ℕ) (v : Param) → Grown (added xs n v) all
    → after_name all (length xs) n ≡ length (added xs n v)
declared_added xs all n v g = declared_more (is_some (value_of xs n)) xs all n v refl g
