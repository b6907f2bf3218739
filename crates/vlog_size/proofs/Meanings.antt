-- What a name means in a lawful scope is lawful, and what nothing is found of has a lawful width and a number that fits it.
use Rattle.std.proofs.Common.{◌≡◌, ℕ, zero, suc, ◌%◌, ◌^◌, ◌<◌, ◌≤◌, Bool, true, false, ◌&&◌, nat_le, nat_lt, if◌then◌else◌, take}
use Rattle.std.proofs.Common.{Option, None, Some, is_none, List, [], ◌∷◌, option_map, refl, arith}
use Rattle.std.proofs.Math.Pow.{pow_mono}
use Rattle.std.specs.List.{list_all}
use Rattle.std.specs.Str.{bytes_eq}
use Rattle.std.proofs.lemmas.Bool.{and_from}
use Rattle.vlog_tree.proofs.vidi_bits_lemmas.Bools.{left_of, right_of}
use Rattle.vlog_size.specs.declared.scope.Const.{Const}
use Rattle.vlog_size.specs.declared.scope.Const.TheVariants as const
use Rattle.vlog_size.specs.declared.scope.Param.{Param}
use Rattle.vlog_size.specs.declared.scope.ScopeNet.{ScopeNet}
use Rattle.vlog_size.specs.declared.scope.ScopeMemory.{ScopeMemory}
use Rattle.vlog_size.specs.declared.scope.Scope.{Scope}
use Rattle.vlog_size.specs.declared.names.Meaning.{Meaning}
use Rattle.vlog_size.specs.declared.names.Meaning.TheVariants.{Parameter, Place, Undeclared}
use Rattle.vlog_size.specs.Table.{Named, value_of}
use Rattle.vlog_tree.specs.vidi_bits.Findings.{or_first}
use Rattle.vlog_size.specs.Literal.{is_lawful}
use Rattle.vlog_size.specs.Operators.{in_range}
use Rattle.vlog_size.specs.Names.{Readable, readable_of, fixed, net_meaning, memory_meaning, or_undeclared, place_meaning, or_meaning}
use Rattle.vlog_size.specs.Names.{meaning_of}
use Rattle.vlog_size.specs.Names.{is_lawful_const, are_lawful_params, are_lawful_places, is_lawful_readable, is_lawful_scope}
use Rattle.vlog_tree.proofs.vidi_bits_lemmas.Below.{rest_below}
use Rattle.vlog_size.specs.Size.{of_param, const_width, is_plain_const, const_number, is_past}
use Rattle.vlog_size.proofs.Fits.{Below, below_none, below_some, wider}
use Rattle.vlog_size.proofs.Sized.{IsSized}

in_range_there : (n : ℕ) → nat_le n 2147483647 ≡ true → is_none (in_range n) ≡ false
in_range_there n h = rw h refl

pub not_past : (c : Const) → is_lawful_const c ≡ true → is_past c ≡ false
not_past (const.Plain n) h = in_range_there n h
not_past (const.Sized w n) h = refl

pub const_lawful : (c : Const) → is_lawful_const c ≡ true → is_lawful (const_width c) ≡ true
const_lawful (const.Plain n) h = refl
const_lawful (const.Sized w n) h = left_of (is_lawful w) (nat_lt n (2 ^ w)) h

plain_below : (w n : ℕ) → 32 ≤ w → is_none (in_range n) ≡ false → n < 2 ^ w
plain_below w n h l = let grows : 2 ^ 32 ≤ 2 ^ w = pow_mono h in let small : n ≤ 2147483647 = grind arith in omega arith

const_fits : (c : Const) (w : ℕ) → is_past c ≡ false → const_width c ≤ w → Below w (Some (const_number c))
const_fits (const.Plain n) w h l = below_some w n (plain_below w n l h)
const_fits (const.Sized v n) w h l = wider v w (Some (n % 2 ^ v)) l (below_some v (n % 2 ^ v) (rest_below n v))

known_fits : (b : Bool) (c : Const) (w : ℕ) → is_past c ≡ false → const_width c ≤ w
    → Below w (if b then Some (const_number c) else None)
known_fits true c w h l = const_fits c w h l
known_fits false c w h l = below_none w

known_there : (b : Bool) (n : ℕ) → b ≡ true → is_none (if b then Some n else None) ≡ false
known_there true n h = refl
known_there false n h = (cc)

plain_there : (b : Bool) (c : Const) → b ≡ true → is_past c ≡ false → is_plain_const c ≡ true
    → is_none (if b then in_range (const_number c) else None) ≡ false
plain_there true (const.Plain n) k h p = h
plain_there true (const.Sized w n) k h p = (cc)
plain_there false c k h p = (cc)

pub param_sized : (line : ℕ) (c : Const) (known : Bool) → known ≡ true → is_past c ≡ false → is_lawful (const_width c) ≡ true
    → IsSized (of_param line c known)
param_sized line c known k p l = record {
  lawful = l;
  parts = refl;
  fits = λ w wide top. known_fits known c w p wide;
  known = λ o w. known_there known (const_number c) k;
  whole = plain_there known c k p;
}

-- what is found is lawful
abbrev pub IsLawfulMeaning : Meaning → Type 0
IsLawfulMeaning (Parameter c known) = (known ≡ true) × (is_lawful_const c ≡ true)
IsLawfulMeaning (Place width picked limit) = is_lawful width ≡ true
IsLawfulMeaning Undeclared = Unit {0}

abbrev IsLawfulParam : Option Param → Type 0
IsLawfulParam None = Unit {0}
IsLawfulParam (Some p) = IsLawfulMeaning (Parameter p.value p.known)

abbrev IsLawfulFound : Option Meaning → Type 0
IsLawfulFound None = Unit {0}
IsLawfulFound (Some m) = IsLawfulMeaning m

param_or : (b : Bool) (p : Param) (o : Option Param) → (p.known && is_lawful_const p.value) ≡ true → IsLawfulParam o
    → IsLawfulParam (if b then Some p else o)
param_or true p o h k = (left_of p.known (is_lawful_const p.value) h, right_of p.known (is_lawful_const p.value) h)
param_or false p o h k = k

param_lawful : (ps : List (Named Param)) (name : List ℕ) → are_lawful_params ps ≡ true → IsLawfulParam (value_of ps name)
param_lawful [] name h = tt
param_lawful (p ∷ ps) name h =
    param_or (bytes_eq name p.name) p.value (value_of ps name)
    (left_of (p.value.known && is_lawful_const p.value.value) (are_lawful_params ps) h)
    (param_lawful ps name (right_of (p.value.known && is_lawful_const p.value.value) (are_lawful_params ps) h))

net_or : (b : Bool) (n : ScopeNet) (o : Option ScopeNet) → is_lawful n.width ≡ true → IsLawfulFound (option_map net_meaning o)
    → IsLawfulFound (option_map net_meaning (if b then Some n else o))
net_or true n o h k = h
net_or false n o h k = k

net_lawful : (ns : List (Named ScopeNet)) (name : List ℕ) → list_all (λ (n : Named ScopeNet). is_lawful n.value.width) ns ≡ true
    → IsLawfulFound (option_map net_meaning (value_of ns name))
net_lawful [] name h = tt
net_lawful (n ∷ ns) name h =
    let rest = list_all (λ (n : Named ScopeNet). is_lawful n.value.width) ns in
    net_or (bytes_eq name n.name) n.value (value_of ns name) (left_of (is_lawful n.value.width) rest h)
    (net_lawful ns name (right_of (is_lawful n.value.width) rest h))

memory_or : (b : Bool) (m : ScopeMemory) (o : Option ScopeMemory) → is_lawful m.width ≡ true → IsLawfulFound (option_map memory_meaning o)
    → IsLawfulFound (option_map memory_meaning (if b then Some m else o))
memory_or true m o h k = h
memory_or false m o h k = k

memory_lawful : (ms : List (Named ScopeMemory)) (name : List ℕ) → list_all (λ (m : Named ScopeMemory). is_lawful m.value.width) ms ≡ true
    → IsLawfulFound (option_map memory_meaning (value_of ms name))
memory_lawful [] name h = tt
memory_lawful (m ∷ ms) name h =
    let rest = list_all (λ (m : Named ScopeMemory). is_lawful m.value.width) ms in
    memory_or (bytes_eq name m.name) m.value (value_of ms name) (left_of (is_lawful m.value.width) rest h)
    (memory_lawful ms name (right_of (is_lawful m.value.width) rest h))

first_lawful : (a b : Option Meaning) → IsLawfulFound a → IsLawfulFound b → IsLawfulMeaning (or_undeclared (or_first a b))
first_lawful None None h k = tt
first_lawful None (Some m) h k = k
first_lawful (Some m) b h k = h

or_lawful : (o : Option Param) (m : Meaning) → IsLawfulParam o → IsLawfulMeaning m → IsLawfulMeaning (or_meaning o m)
or_lawful None m h k = k
or_lawful (Some p) m h k = h

place_lawful : (nets : List (Named ScopeNet)) (memories : List (Named ScopeMemory)) (name : List ℕ)
    → are_lawful_places nets memories ≡ true → IsLawfulMeaning (place_meaning nets memories name)
place_lawful nets memories name h =
    let some = list_all (λ (n : Named ScopeNet). is_lawful n.value.width) nets in
    let other = list_all (λ (m : Named ScopeMemory). is_lawful m.value.width) memories in
    first_lawful (option_map net_meaning (value_of nets name)) (option_map memory_meaning (value_of memories name))
    (net_lawful nets name (left_of some other h)) (memory_lawful memories name (right_of some other h))

pub meaning_lawful : (r : Readable) (name : List ℕ) → is_lawful_readable r ≡ true → IsLawfulMeaning (meaning_of r name)
meaning_lawful r name h =
    let params = are_lawful_params r.params && are_lawful_params r.constants in
    let places = are_lawful_places r.nets r.memories in
    or_lawful (value_of r.params name) (place_meaning r.nets r.memories name)
    (param_lawful r.params name (left_of (are_lawful_params r.params) (are_lawful_params r.constants) (left_of params places h)))
    (place_lawful r.nets r.memories name (right_of params places h))

-- a lone index picks a bit, or a word, which has the width of the whole
abbrev pub IsPicked : Meaning → Type 0
IsPicked (Parameter c known) = Unit {0}
IsPicked (Place width picked limit) = is_lawful width ≡ true → is_lawful picked ≡ true
IsPicked Undeclared = Unit {0}

place_picked : (a : Option ScopeNet) (b : Option ScopeMemory)
    → IsPicked (or_undeclared (or_first (option_map net_meaning a) (option_map memory_meaning b)))
place_picked None None = tt
place_picked None (Some m) = λ h. h
place_picked (Some n) b = λ h. refl

or_picked : (o : Option Param) (m : Meaning) → IsPicked m → IsPicked (or_meaning o m)
or_picked None m h = h
or_picked (Some p) m h = tt

pub meaning_picked : (r : Readable) (name : List ℕ) → IsPicked (meaning_of r name)
meaning_picked r name =
    or_picked (value_of r.params name) (place_meaning r.nets r.memories name)
    (place_picked (value_of r.nets name) (value_of r.memories name))

pub constants_lawful : (r : Readable) → are_lawful_params r.constants ≡ true → is_lawful_readable (fixed r) ≡ true
constants_lawful r h = rw h refl

pub fixed_lawful : (r : Readable) → is_lawful_readable r ≡ true → is_lawful_readable (fixed r) ≡ true
fixed_lawful r h =
    let params = are_lawful_params r.params && are_lawful_params r.constants in
    constants_lawful r (right_of (are_lawful_params r.params) (are_lawful_params r.constants)
    (left_of params (are_lawful_places r.nets r.memories) h))

front_lawful : (n : ℕ) (ps : List (Named Param)) → are_lawful_params ps ≡ true → are_lawful_params (take n ps) ≡ true
front_lawful zero ps h = refl
front_lawful (suc n) [] h = refl
front_lawful (suc n) (p ∷ ps) h =
    let own = p.value.known && is_lawful_const p.value.value in
    and_from own (are_lawful_params (take n ps)) (left_of own (are_lawful_params ps) h)
    (front_lawful n ps (right_of own (are_lawful_params ps) h))

pub scope_lawful : (s : Scope) → is_lawful_scope s ≡ true → is_lawful_readable (readable_of s) ≡ true
scope_lawful s h =
    let places = are_lawful_places s.nets s.memories in
    let params : are_lawful_params s.params ≡ true = left_of (are_lawful_params s.params) places h in
    and_from (are_lawful_params s.params && are_lawful_params (take s.declared s.params)) places
    (and_from (are_lawful_params s.params) (are_lawful_params (take s.declared s.params)) params (front_lawful s.declared s.params params))
    (right_of (are_lawful_params s.params) places h)
