-- Tables as lists of names and values.
use Rattle.std.proofs.Common.{◌≡◌, ℕ, zero, suc, ◌+◌, ◌<◌, ◌≤◌, Bool, true, false, not, nat_eq, nat_lt, cond, if◌then◌else◌, Option, Some}
use Rattle.std.proofs.Common.{None, is_some, option_map}
use Rattle.std.proofs.lemmas.Option.{slice_get-map}
use Rattle.std.proofs.Common.{List, [], ◌∷◌, ◌++◌, take, length, map, position, slice_get, refl, ap, sym, ◌∙◌, arith}
use Rattle.std.specs.List.{position_or_len}
use Rattle.std.specs.Global.{Vec}
use Rattle.std.specs.Str.{bytes_eq}
use Rattle.std.specs.Map.{lookup, keys_of}
use Rattle.std.specs.Cmp.Lexicographic.{pointwise}
use Rattle.vlog_tree.proofs.vidi_bits_lemmas.Lists.{some_same}
use Rattle.indexmap.specs.IndexMap.{insert_entry}
use Rattle.vlog_size.specs.Table.{Named, named, value_of, place_of, added}

-- whether a key is this name
abbrev pub is_name : List ℕ → Vec ℕ → Bool
is_name name k = pointwise nat_eq name k.items

named_lookup : {V : Type 0} → (es : List (Vec ℕ × V)) (name : List ℕ) → value_of (named es) name ≡ lookup (is_name name) es
named_lookup [] name = refl
named_lookup (e ∷ es) name = ap (λ o. if is_name name e.0 then Some e.1 else o) (named_lookup es name)

named_take : {V : Type 0} → (n : ℕ) (es : List (Vec ℕ × V)) → take n (named es) ≡ named (take n es)
named_take zero es = refl
named_take (suc n) [] = refl
named_take (suc n) (e ∷ es) = ap (λ l. record { name = e.0.items; value = e.1 } ∷ l) (named_take n es)

none_cons : {V : Type 0} → (b : Bool) (v : V) (all some : Option V) → (all ≡ None → some ≡ None) → cond b (Some v) all ≡ None
    → cond b (Some v) some ≡ None
none_cons true v all some rest h = h
none_cons false v all some rest h = rest h

none_taken : {V : Type 0} → (test : Vec ℕ → Bool) (n : ℕ) (es : List (Vec ℕ × V)) → lookup test es ≡ None → lookup test (take n es) ≡ None
none_taken test zero es h = refl
none_taken test (suc n) [] h = refl
none_taken test (suc n) (e ∷ es) h = none_cons (test e.0) e.1 (lookup test es) (lookup test (take n es)) (none_taken test n es) h

-- the value at the first place of a name, where that is among the first n
abbrev among : {V : Type 0} → ℕ → ℕ → V → Option V
among place n v = if nat_lt place n then Some v else None

next_place : (place n : ℕ) → nat_lt (1 + place) (suc n) ≡ nat_lt place n
next_place place n = grind arith

next_suc : (place : ℕ) → suc place ≡ 1 + place
next_suc place = omega arith

next_item : {V : Type 0} → (x : Vec ℕ × V) (xs : List (Vec ℕ × V)) (place : ℕ) (e : Vec ℕ × V) → slice_get (x ∷ xs) (1 + place) ≡ Some e
    → slice_get xs place ≡ Some e
next_item x xs place e h = ap (λ i. slice_get (x ∷ xs) i) (next_suc place) ∙ h

zero_first : (n : ℕ) → nat_lt 0 (suc n) ≡ true
zero_first n = grind arith

never_among : {V : Type 0} → (place : ℕ) (v : V) → None ≡ among place 0 v
never_among place v = let b : nat_lt place 0 ≡ false = grind arith in sym (ap (λ (b : Bool). if b then Some v else None) b)

found_cons : {V : Type 0} → (b : Bool) (x e : Vec ℕ × V) (xs : List (Vec ℕ × V)) (place n : ℕ) (rest : Option V)
    → slice_get (x ∷ xs) (cond (not b) (1 + place) 0) ≡ Some e
    → (slice_get xs place ≡ Some e → rest ≡ among place n e.1)
    → cond b (Some x.1) rest ≡ among (cond (not b) (1 + place) 0) (suc n) e.1
found_cons true x e xs place n rest at later =
    ap (λ p. Some p.1) (some_same x e at) ∙ ap (λ (b : Bool). if b then Some e.1 else None) (sym (zero_first n))
found_cons false x e xs place n rest at later =
    later (next_item x xs place e at) ∙ ap (λ (b : Bool). if b then Some e.1 else None) (sym (next_place place n))

found_at : {V : Type 0} → (test : Vec ℕ → Bool) (es : List (Vec ℕ × V)) (n : ℕ) (e : Vec ℕ × V)
    → slice_get es (position_or_len test (keys_of es)) ≡ Some e → lookup test (take n es) ≡ among (position_or_len test (keys_of es)) n e.1
found_at test [] n e at = (cc)
found_at test (x ∷ xs) zero e at = never_among (position_or_len test (keys_of (x ∷ xs))) e.1
found_at test (x ∷ xs) (suc n) e at =
    found_cons (test x.0) x e xs (position_or_len test (keys_of xs)) n (lookup test (take n xs)) at (found_at test xs n e)

first_place : (b : Bool) (i place : ℕ) → Some i ≡ cond b (Some place) None → i ≡ place
first_place true i place h = some_same i place h
first_place false i place h = (cc)

named_found : {V : Type 0} → (name : List ℕ) (es : List (Vec ℕ × V)) (n place : ℕ) (k : Vec ℕ) (v : V)
    → Some place ≡ position (is_name name) (keys_of es) → slice_get es place ≡ Some (k, v)
    → value_of (take n (named es)) name ≡ among place n v
named_found name es n place k v at is =
    let first = position_or_len (is_name name) (keys_of es) in
    let same : place ≡ first = first_place (nat_lt first (length (keys_of es))) place first at in
    ap (λ l. value_of l name) (named_take n es)
    ∙ (named_lookup (take n es) name
    ∙ (found_at (is_name name) es n (k, v) (ap (λ i. slice_get es i) (sym same) ∙ is) ∙ ap (λ i. among i n v) (sym same)))

pub at_front : {V : Type 0} → (name : List ℕ) (es : List (Vec ℕ × V)) (n place : ℕ) (k : Vec ℕ) (v : V)
    → Some place ≡ position (is_name name) (keys_of es) → slice_get es place ≡ Some (k, v) → place < n
    → Some v ≡ value_of (take n (named es)) name
at_front name es n place k v at is within =
    let b : nat_lt place n ≡ true = grind arith in
    sym (named_found name es n place k v at is ∙ ap (λ (b : Bool). if b then Some v else None) b)

pub at_back : {V : Type 0} → (name : List ℕ) (es : List (Vec ℕ × V)) (n place : ℕ) (k : Vec ℕ) (v : V)
    → Some place ≡ position (is_name name) (keys_of es) → slice_get es place ≡ Some (k, v) → n ≤ place
    → None ≡ value_of (take n (named es)) name
at_back name es n place k v at is past =
    let b : nat_lt place n ≡ false = grind arith in
    sym (named_found name es n place k v at is ∙ ap (λ (b : Bool). if b then Some v else None) b)

pub nowhere : {V : Type 0} → (name : List ℕ) (es : List (Vec ℕ × V)) (n : ℕ) → lookup (is_name name) es ≡ None
    → None ≡ value_of (take n (named es)) name
nowhere name es n h =
    sym (ap (λ l. value_of l name) (named_take n es) ∙ (named_lookup (take n es) name ∙ none_taken (is_name name) n es h))

pub found : {V : Type 0} → (name : List ℕ) (es : List (Vec ℕ × V)) → lookup (is_name name) es ≡ value_of (named es) name
found name es = sym (named_lookup es name)

-- ---- one more entry

last_cons : {V : Type 0} → (b : Bool) (e : Vec ℕ × V) (es later : List (Vec ℕ × V)) (key : Vec ℕ) (v : V) (rest : Option V)
    → (rest ≡ None → later ≡ es ++ (key, v) ∷ []) → cond b (Some e.1) rest ≡ None
    → (if b then (e.0, v) ∷ es else e ∷ later) ≡ e ∷ es ++ (key, v) ∷ []
last_cons true e es later key v rest h none = (cc)
last_cons false e es later key v rest h none = ap (λ l. e ∷ l) (h none)

insert_last : {V : Type 0} → (es : List (Vec ℕ × V)) (key : Vec ℕ) (v : V) → lookup (is_name key.items) es ≡ None
    → insert_entry (λ a b. pointwise nat_eq a.items b.items) es key v ≡ es ++ (key, v) ∷ []
insert_last [] key v none = refl
insert_last (e ∷ es) key v none =
    last_cons (is_name key.items e.0) e es (insert_entry (λ a b. pointwise nat_eq a.items b.items) es key v) key v
    (lookup (is_name key.items) es) (insert_last es key v) none

named_append : {V : Type 0} → (es : List (Vec ℕ × V)) (e : Vec ℕ × V)
    → named (es ++ e ∷ []) ≡ named es ++ record { name = e.0.items; value = e.1 } ∷ []
named_append [] e = refl
named_append (x ∷ es) e = ap (λ l. record { name = x.0.items; value = x.1 } ∷ l) (named_append es e)

same_name : {V : Type 0} → (es : List (Vec ℕ × V)) (a b : List ℕ) → a ≡ b → lookup (is_name b) es ≡ None → lookup (is_name a) es ≡ None
same_name es a b h none = ap (λ n. lookup (is_name n) es) h ∙ none

-- a name that isn't there goes last
pub pushed : {V : Type 0} → (es new : List (Vec ℕ × V)) (key : Vec ℕ) (name : List ℕ) (v : V) → key.items ≡ name
    → lookup (is_name name) es ≡ None
    → new ≡ insert_entry (λ a b. pointwise nat_eq a.items b.items) es key v → named new ≡ added (named es) name v
pushed es new key name v same none is =
    let last : new ≡ es ++ (key, v) ∷ [] = is ∙ insert_last es key v (same_name es key.items name same none) in
    let absent : is_some (value_of (named es) name) ≡ false = ap is_some (named_lookup es name ∙ none) in
    ap named last ∙ (named_append es (key, v) ∙ (ap (λ n. named es ++ record { name = n; value = v } ∷ []) same
    ∙ ap (λ (b : Bool). if b then named es else named es ++ record { name = name; value = v } ∷ []) (sym absent)))

-- a name that is there stays
pub kept : {V : Type 0} → (es : List (Vec ℕ × V)) (name : List ℕ) (v : V) → is_some (lookup (is_name name) es) ≡ true
    → named es ≡ added (named es) name v
kept es name v there =
    let present : is_some (value_of (named es) name) ≡ true = ap is_some (named_lookup es name) ∙ there in
    ap (λ (b : Bool). if b then named es else named es ++ record { name = name; value = v } ∷ []) (sym present)

pub not_there : {V : Type 0} → (o : Option V) → is_some o ≡ false → o ≡ None
not_there None h = refl
not_there (Some v) h = (cc)

-- ---- places
places_same : {V : Type 0} → (es : List (Vec ℕ × V)) (name : List ℕ)
    → position_or_len (is_name name) (keys_of es) ≡ position_or_len (λ x. bytes_eq name x.name) (named es)
places_same [] name = refl
places_same (e ∷ es) name = ap (λ i. cond (not (is_name name e.0)) (1 + i) 0) (places_same es name)

lengths_same : {V : Type 0} → (es : List (Vec ℕ × V)) → length (keys_of es) ≡ length (named es)
lengths_same [] = refl
lengths_same (e ∷ es) = ap suc (lengths_same es)

pub placed : {V : Type 0} → (es : List (Vec ℕ × V)) (name : List ℕ) → position (is_name name) (keys_of es) ≡ place_of (named es) name
placed es name =
    ap (λ i. cond (nat_lt i (length (keys_of es))) (Some i) None) (places_same es name)
    ∙ ap (λ l. cond (nat_lt (position_or_len (λ x. bytes_eq name x.name) (named es)) l)
    (Some (position_or_len (λ x. bytes_eq name x.name) (named es))) None) (lengths_same es)

-- ---- the value at a place
abbrev entry_of : {V : Type 0} → Vec ℕ × V → Named V
entry_of e = record { name = e.0.items; value = e.1 }

abbrev value_in : {V : Type 0} → Named V → V
value_in x = x.value

values_get : {V : Type 0} → (es : List (Vec ℕ × V)) (k : ℕ)
    → slice_get (map (λ (x : Named V). x.value) (named es)) k
    ≡ option_map (value_in {V = V}) (option_map (entry_of {V = V}) (slice_get es k))
values_get {V} es k =
    slice_get-map (value_in {V = V}) (named es) k ∙ ap (option_map (value_in {V = V})) (slice_get-map (entry_of {V = V}) es k)

pub value_there : {V : Type 0} → (es : List (Vec ℕ × V)) (k : ℕ) (n : Vec ℕ) (v : V) → slice_get es k ≡ Some (n, v)
    → slice_get (map (λ (x : Named V). x.value) (named es)) k ≡ Some v
value_there {V} es k n v h = values_get es k ∙ ap (λ o. option_map (value_in {V = V}) (option_map (entry_of {V = V}) o)) h

pub value_past : {V : Type 0} → (es : List (Vec ℕ × V)) (k : ℕ) → slice_get es k ≡ None
    → slice_get (map (λ (x : Named V). x.value) (named es)) k ≡ None
value_past {V} es k h = values_get es k ∙ ap (λ o. option_map (value_in {V = V}) (option_map (entry_of {V = V}) o)) h

-- ---- the name at a place
abbrev name_in : {V : Type 0} → Named V → List ℕ
name_in x = x.name

names_get : {V : Type 0} → (es : List (Vec ℕ × V)) (k : ℕ)
    → slice_get (map (λ (x : Named V). x.name) (named es)) k
    ≡ option_map (name_in {V = V}) (option_map (entry_of {V = V}) (slice_get es k))
names_get {V} es k =
    slice_get-map (name_in {V = V}) (named es) k ∙ ap (option_map (name_in {V = V})) (slice_get-map (entry_of {V = V}) es k)

pub name_there : {V : Type 0} → (es : List (Vec ℕ × V)) (k : ℕ) (n : Vec ℕ) (v : V) → slice_get es k ≡ Some (n, v)
    → slice_get (map (λ (x : Named V). x.name) (named es)) k ≡ Some n.items
name_there {V} es k n v h = names_get es k ∙ ap (λ o. option_map (name_in {V = V}) (option_map (entry_of {V = V}) o)) h

pub name_past : {V : Type 0} → (es : List (Vec ℕ × V)) (k : ℕ) → slice_get es k ≡ None
    → slice_get (map (λ (x : Named V). x.name) (named es)) k ≡ None
name_past {V} es k h = names_get es k ∙ ap (λ o. option_map (name_in {V = V}) (option_map (entry_of {V = V}) o)) h
