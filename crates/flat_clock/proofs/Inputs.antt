-- The 1-bit inputs of the top are inputs, and its ports have different names.
use Rattle.std.proofs.Common.{◌≡◌, ◌≢◌, ℕ, zero, suc, ◌+◌, ◌⊎◌, inl, inr, List, [], ◌∷◌, map, refl, sym, ap}
use Rattle.std.proofs.Common.{◌∙◌, arith, Option, None, Some, slice_get, Bool, true, false, ◌&&◌, if◌then◌else◌, cond, position}
use Rattle.std.specs.List.{Contains, flat_map, position_from}
use Rattle.std.specs.Str.{bytes_eq}
use Rattle.std.proofs.lemmas.Slice.Eq.{bytes_eq-Decides}
use Rattle.std.proofs.lemmas.List.Elements.{Contains-append_cases, All-contains}
use Rattle.std.proofs.lemmas.Iterator.Adapters.{position_from-zero}
use Rattle.std.proofs.lemmas.Bool.{false_from_ne_true}
use Rattle.flat_parts.proofs.vidi_bits_lemmas.Lists.{none_in, head_in, tail_in, cases_in}
use Rattle.flat_parts.proofs.vidi_bits_lemmas.Bools.{left_of}
use Rattle.flat_parts.specs.vidi_bits.Findings.{told_if}
use Rattle.vlog_tree.specs.declared.module.Direction.{Direction}
use Rattle.vlog_tree.specs.declared.module.Direction.TheVariants.{Input, Output}
use Rattle.vlog_tree.specs.Tree.{PortHeadOf, PortOf, ModuleOf}
use Rattle.flat_parts.specs.vlog_size.declared.scope.ScopeNet.{ScopeNet}
use Rattle.flat_parts.specs.vlog_size.declared.scope.Scope.{Scope}
use Rattle.flat_parts.specs.vlog_size.Table.{Named, value_of}
use Rattle.flat_parts.specs.vlog_names.declared.declaration.Declaration.{Declaration}
use Rattle.flat_parts.specs.vlog_names.Entries.{entry, parameter_entry, port_as, port_entries, no_port, item_entries, header_entries, declared}
use Rattle.flat_parts.specs.vlog_names.Different.{Differ, OtherName}
use Rattle.flat_parts.specs.vlog_names.Ports.{is_input_port, input_after}
use Rattle.flat_parts.specs.vlog_elab.Clock as clock
use Rattle.flat_parts.specs.vlog_driver.Names.{Name}
use Rattle.flat_parts.specs.vlog_driver.Settled.{is_input, input_names, inputs_of}
use Rattle.net_design.specs.declared.design.Port.{Port}
use Rattle.flat_parts.specs.Nets.{port_of, flat_ports}
use Rattle.flat_parts.proofs.Lists.{pairs_first, pairs_rest, pairs_behind, pairs_front}
use Rattle.flat_clock.specs.Clock.{port_named}

-- ---- inputs

told_in : (b : Bool) (x y : Name) → Contains (told_if b x) y → (b ≡ true) × (x ≡ y)
told_in true x y h = one (cases_in x [] y h)
  where
    one : (x ≡ y) ⊎ Contains [] y → (true ≡ true) × (x ≡ y)
    one (inl is) = (refl, is)
    one (inr off) = absurd (none_in y off)
told_in false x y h = absurd (none_in y h)

-- what the port before was as an input, as what it was declared as
abbrev Follows : Bool → Declaration → Type 0
Follows b what = b ≡ true → is_input what ≡ true

follows : (b : Bool) (what : Declaration) (head : Option (PortHeadOf ℕ)) → Follows b what
    → Follows (input_after b head) (port_as what head)
follows b what None before h = before h
follows b what (Some head) before h = one head.direction h
  where
    one : (direction : Direction) → is_input_port direction ≡ true
        → is_input (port_as what (Some (record head { direction = direction }))) ≡ true
    one (Input wire) e = refl
    one (Output kind) e = absurd (cc)

-- a port among the names of inputs, where it is one
own_name : (i : Bool) (name x : Name) (names : List Name) → i ≡ true → name ≡ x → Contains (if i then name ∷ names else names) x
own_name true name x names e is = (0, omega arith, is)
own_name false name x names e is = absurd (cc)

other_name : (i : Bool) (name x : Name) (names : List Name) → Contains names x → Contains (if i then name ∷ names else names) x
other_name true name x names there = tail_in name names x there
other_name false name x names there = there

one_bit_input : (nets : List (Named ScopeNet)) (b : Bool) (what : Declaration) (ports : List (PortOf ℕ)) (x : Name) → Follows b what
    → Contains (clock.one_bit_inputs nets b ports) x → Contains (input_names (port_entries what ports)) x
one_bit_input nets b what [] x before h = absurd (none_in x h)
one_bit_input nets b what (p ∷ ports) x before h =
    let now : Follows (input_after b p.head) (port_as what p.head) = follows b what p.head before in
    elim (Contains-append_cases (told_if (input_after b p.head && clock.is_one_bit (value_of nets p.id.name)) p.id.name)
    (clock.one_bit_inputs nets (input_after b p.head) ports) x h) [
      | inl told ↦ let r = told_in (input_after b p.head && clock.is_one_bit (value_of nets p.id.name)) p.id.name x told in
          own_name (is_input (port_as what p.head)) p.id.name x (input_names (port_entries (port_as what p.head) ports))
          (now (left_of (input_after b p.head) (clock.is_one_bit (value_of nets p.id.name)) r.0)) r.1
      | inr rest ↦ other_name (is_input (port_as what p.head)) p.id.name x (input_names (port_entries (port_as what p.head) ports))
          (one_bit_input nets (input_after b p.head) (port_as what p.head) ports x now rest)
    ]

pub one_bit_inputs_are : (nets : List (Named ScopeNet)) (m : ModuleOf ℕ) (x : Name) → Contains (clock.one_bit_inputs nets false m.ports) x
    → Contains (inputs_of m) x
one_bit_inputs_are nets m x h = one_bit_input nets false no_port m.ports x (λ off. absurd (cc)) h

-- ---- ports

abbrev pub port_names : List (PortOf ℕ) → List Name
port_names ports = map (λ (p : PortOf ℕ). p.id.name) ports

same_names : (s : Scope) (what : Declaration) (ports : List (PortOf ℕ))
    → map (λ (p : Port). p.name) (map (port_of s) (port_entries what ports)) ≡ port_names ports
same_names s what [] = refl
same_names s what (p ∷ ports) = ap (λ (ns : List Name). p.id.name ∷ ns) (same_names s (port_as what p.head) ports)

pub flat_names : (m : ModuleOf ℕ) (s : Scope) → map (λ (p : Port). p.name) (flat_ports m s) ≡ port_names m.ports
flat_names m s = same_names s no_port m.ports

-- the entry of a port
named_in : (what : Declaration) (ports : List (PortOf ℕ)) (k : ℕ) (x : Name) → slice_get (port_names ports) k ≡ Some x
    → (e : Named Declaration) × Contains (port_entries what ports) e × (e.name ≡ x)
named_in what [] k x h = absurd (cc)
named_in what (p ∷ ports) zero x h =
    let is : p.id.name ≡ x = cc in
    (entry p.id.name (port_as what p.head), head_in (entry p.id.name (port_as what p.head)) (port_entries (port_as what p.head) ports), is)
named_in what (p ∷ ports) (suc k) x h =
    let r = named_in (port_as what p.head) ports k x h in
    (r.0, tail_in (entry p.id.name (port_as what p.head)) (port_entries (port_as what p.head) ports) r.0 r.1, r.2)

other_named : (x name : Name) → name ≢ x → bytes_eq x name ≡ false
other_named x name other = false_from_ne_true (bytes_eq x name) (λ yes. other (sym ((bytes_eq-Decides x name).0 yes)))

place_from_name : (f : ℕ) (what : Declaration) (ports : List (PortOf ℕ)) (x : Name) (k : ℕ) → Differ (port_entries what ports)
    → slice_get (port_names ports) k ≡ Some x → position_from (λ (p : PortOf ℕ). bytes_eq x p.id.name) f ports ≡ Some (f + k)
place_from_name f what [] x k differ h = absurd (cc)
place_from_name f what (p ∷ ports) x zero differ h =
    let is : x ≡ p.id.name = cc in
    let head_in : f ≡ f + 0 = omega arith in
    ap (λ b. cond b (Some f) (position_from (λ (q : PortOf ℕ). bytes_eq x q.id.name) (f + 1) ports)) ((bytes_eq-Decides x p.id.name).1 is)
    ∙ ap (λ (j : ℕ). Some j) head_in
place_from_name f what (p ∷ ports) x (suc k) differ h =
    let r = named_in (port_as what p.head) ports k x h in
    let other : p.id.name ≢ r.0.name =
    All-contains (OtherName (entry p.id.name (port_as what p.head))) (port_entries (port_as what p.head) ports) r.0
    (pairs_first OtherName (entry p.id.name (port_as what p.head)) (port_entries (port_as what p.head) ports) differ) r.1 in
    let sum : f + 1 + k ≡ f + suc k = omega arith in
    ap (λ b. cond b (Some f) (position_from (λ (q : PortOf ℕ). bytes_eq x q.id.name) (f + 1) ports))
    (other_named x p.id.name (λ same. other (same ∙ sym r.2)))
    ∙ (place_from_name (f + 1) (port_as what p.head) ports x k
    (pairs_rest OtherName (entry p.id.name (port_as what p.head)) (port_entries (port_as what p.head) ports) differ) h
    ∙ ap (λ (j : ℕ). Some j) sum)

-- a port of this name j behind place f
abbrev Behind : ℕ → List (PortOf ℕ) → Name → ℕ → Type 0
Behind f ports x q = (j : ℕ) × (q ≡ f + j) × (slice_get (port_names ports) j ≡ Some x)

behind_one : (f : ℕ) (p : PortOf ℕ) (ports : List (PortOf ℕ)) (x : Name) (q : ℕ) → Behind (f + 1) ports x q → Behind f (p ∷ ports) x q
behind_one f p ports x q (j, at, is) = (suc j, omega (arith, at), is)

behind_test : (f : ℕ) (p : PortOf ℕ) (ports : List (PortOf ℕ)) (x : Name) (q : ℕ) (b : Bool) → bytes_eq x p.id.name ≡ b
    → cond b (Some f) (position_from (λ (y : PortOf ℕ). bytes_eq x y.id.name) (f + 1) ports) ≡ Some q
    → (position_from (λ (y : PortOf ℕ). bytes_eq x y.id.name) (f + 1) ports ≡ Some q → Behind (f + 1) ports x q)
    → Behind f (p ∷ ports) x q
behind_test f p ports x q true is e more =
    let at : f ≡ q = cc in
    (0, omega (arith, at), ap (λ (n : Name). Some n) (sym ((bytes_eq-Decides x p.id.name).0 is)))
behind_test f p ports x q false is e more = behind_one f p ports x q (more e)

name_from_place : (f : ℕ) (ports : List (PortOf ℕ)) (x : Name) (q : ℕ)
    → position_from (λ (p : PortOf ℕ). bytes_eq x p.id.name) f ports ≡ Some q → Behind f ports x q
name_from_place f [] x q h = absurd (cc)
name_from_place f (p ∷ ports) x q h =
    behind_test f p ports x q (bytes_eq x p.id.name) refl h (λ e. name_from_place (f + 1) ports x q e)

by_steps : (ports : List (PortOf ℕ)) (x : Name)
    → position (λ (p : PortOf ℕ). bytes_eq x p.id.name) ports ≡ position_from (λ (p : PortOf ℕ). bytes_eq x p.id.name) 0 ports
by_steps ports x = position_from-zero (λ (p : PortOf ℕ). bytes_eq x p.id.name) ports

ports_differ : (m : ModuleOf ℕ) → Differ (declared m) → Differ (port_entries no_port m.ports)
unfolding declared
ports_differ m differ =
    pairs_behind OtherName (map parameter_entry m.parameters) (port_entries no_port m.ports)
    (pairs_front OtherName (header_entries m) (flat_map item_entries m.items) differ)

pub place_of_name : (m : ModuleOf ℕ) (x : Name) (k : ℕ) → Differ (declared m) → slice_get (port_names m.ports) k ≡ Some x
    → port_named m.ports (Some x) ≡ Some k
place_of_name m x k differ h =
    by_steps m.ports x ∙ place_from_name 0 no_port m.ports x k (ports_differ m differ) h
    ∙ ap (λ (j : ℕ). Some j) (let sum : 0 + k ≡ k = omega arith in sum)

pub name_of_place : (m : ModuleOf ℕ) (x : Name) (k : ℕ) → port_named m.ports (Some x) ≡ Some k → slice_get (port_names m.ports) k ≡ Some x
name_of_place m x k h =
    let r = name_from_place 0 m.ports x k (sym (by_steps m.ports x) ∙ h) in
    let same : k ≡ r.0 = let at = r.1 in omega (arith, at) in
    ap (slice_get (port_names m.ports)) same ∙ r.2
