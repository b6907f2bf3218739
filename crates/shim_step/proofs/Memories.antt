-- No two memories of a flat design have the same full name.
use Rattle.std.proofs.Common.{◌≡◌, ◌≢◌, ℕ, zero, suc, ◌+◌, Bool, true, false, List, [], ◌∷◌, ◌++◌, map, length, refl, sym, ap, subst}
use Rattle.std.proofs.Common.{◌∙◌, arith, Option, None, Some, is_some, if◌then◌else◌}
use Rattle.std.specs.List.{flat_map, AllPairs, AllByRecursion}
use Rattle.std.specs.Str.{bytes_eq}
use Rattle.std.proofs.lemmas.List.{same_from_push, map-append}
use Rattle.std.proofs.lemmas.List.Elements.{All-from_recursion, recursion_from_All}
use Rattle.std.proofs.lemmas.Slice.Eq.{bytes_eq-Decides}
use Rattle.flat_parts.proofs.vidi_bits_lemmas.Each.{each_weaker, each_append}
use Rattle.vlog_tree.specs.Tree.{RegTailOf, InitTail, MemoryTail, Reg1Of, PortOf, ItemOf, WiresItem, DrivenWiresItem, RegsItem, LocalparamsItem}
use Rattle.vlog_tree.specs.Tree.{AssignItem, AlwaysItem, InstanceItem, ModuleOf}
use Rattle.flat_parts.specs.vlog_size.declared.scope.ScopeMemory.{ScopeMemory}
use Rattle.flat_parts.specs.vlog_size.declared.scope.Scope.{Scope}
use Rattle.flat_parts.specs.vlog_size.Size.{Sizes}
use Rattle.flat_parts.specs.vlog_size.Table.{Named, value_of}
use Rattle.flat_parts.specs.vlog_scope.declared.extent.Extent.{Extent}
use Rattle.flat_parts.specs.vlog_scope.declared.extent.Extent.TheVariants.{NoRange}
use Rattle.flat_parts.specs.vlog_scope.Extents.{extent_of, port_extent, net_width, memory_length, or_most}
use Rattle.flat_parts.specs.vlog_scope.Params.{header_params, items_params, overrides_of}
use Rattle.flat_parts.specs.vlog_scope.Scope.{declared_in, readable_at, with_port, with_ports, with_memory, with_reg, with_regs, with_item, with_items}
use Rattle.flat_parts.specs.vlog_scope.Scope.{params_scope, scope_with, words_of}
use Rattle.net_design.specs.declared.design.DesignMemory.{DesignMemory}
use Rattle.net_design.specs.declared.design.Design.{Design}
use Rattle.net_design.specs.Names.{list_at}
use Rattle.flat_parts.specs.vlog_elab.Instances.{ModuleInstance, instances}
use Rattle.flat_parts.specs.vlog_driver.Names.{Full}
use Rattle.flat_parts.specs.vlog_driver.Instances.{Leads}
use Rattle.flat_parts.specs.Instances.{HasOtherPath}
use Rattle.flat_parts.specs.Seats.{seats_from, seats_of}
use Rattle.flat_parts.specs.Nets.{memories_from, seat_memories, flat_memories}
use Rattle.flat_parts.specs.Built.{IsBuilt}
use Rattle.flat_parts.proofs.Listed.{instances_are_all, paths_differ}
use Rattle.shim_step.specs.Maps.{memory_names, MemoriesDiffer}
use Rattle.shim_step.proofs.Elements.{Apart, Distinct, all_members, has_contains}

abbrev Memories : Type 0
Memories = List (Named ScopeMemory)

-- ---- a scope has each memory once
passed : (b : Bool) (x : Named ScopeMemory) (rest : Option ScopeMemory) → is_some (if b then Some x.value else rest) ≡ false
    → (b ≡ false) × (is_some rest ≡ false)
passed true x rest h = absurd (cc)
passed false x rest h = (refl, h)

unlike : (name other : List ℕ) → bytes_eq name other ≡ false → other ≢ name
unlike name other never same = let yes : bytes_eq name other ≡ true = (bytes_eq-Decides name other).1 (sym same) in absurd (cc)

absent : (ms : Memories) (name : List ℕ) → is_some (value_of ms name) ≡ false → AllByRecursion (λ (x : Named ScopeMemory). x.name ≢ name) ms
absent [] name h = tt
absent (x ∷ ms) name h =
    let p = passed (bytes_eq name x.name) x (value_of ms name) h in
    (unlike name x.name p.0, absent ms name p.1)

apart_push : (ms : Memories) (x : Named ScopeMemory) → Apart ms → AllByRecursion (λ (y : Named ScopeMemory). y.name ≢ x.name) ms
    → Apart (ms ++ x ∷ [])
apart_push [] x h o = (tt, tt)
apart_push (y ∷ ms) x h o =
    (each_append (λ (z : Named ScopeMemory). y.name ≢ z.name) ms (x ∷ []) h.0 (o.0, tt), apart_push ms x h.1 o.1)

apart_if : (ms : Memories) (x : Named ScopeMemory) (b : Bool) → is_some (value_of ms x.name) ≡ b → Apart ms
    → Apart (if b then ms else ms ++ x ∷ [])
apart_if ms x true e h = h
apart_if ms x false e h = apart_push ms x h (absent ms x.name e)

memory_apart : (x : Extent) (n : ℕ) (ms : Memories) (name : List ℕ) → Apart ms → Apart (with_memory x n ms name)
memory_apart x n ms name h =
    apart_if ms (record { name = name; value = record { width = net_width x; length = n } }) (is_some (value_of ms name)) refl h

reg_apart : (x : Extent) (s : Scope) (name : List ℕ) (tail : Option (RegTailOf ℕ)) → Apart s.memories → Apart (with_reg x s name tail).memories
reg_apart x s name None h = h
reg_apart x s name (Some (InitTail e)) h = h
reg_apart x s name (Some (MemoryTail range)) h = memory_apart x (or_most (memory_length (declared_in s) range)) s.memories name h

regs_apart : (x : Extent) (s : Scope) (gs : List (Reg1Of ℕ)) → Apart s.memories → Apart (with_regs x s gs).memories
regs_apart x s [] h = h
regs_apart x s (g ∷ gs) h = regs_apart x (with_reg x s g.id.name g.tail) gs (reg_apart x s g.id.name g.tail h)

item_apart : (s : Scope) (i : ItemOf ℕ) → Apart s.memories → Apart (with_item s i).memories
item_apart s (WiresItem range ids) h = h
item_apart s (DrivenWiresItem range ws) h = h
item_apart s (RegsItem range gs) h = regs_apart (extent_of (declared_in s) range) s gs h
item_apart s (LocalparamsItem range vs) h = h
item_apart s (AssignItem assigns) h = h
item_apart s (AlwaysItem a) h = h
item_apart s (InstanceItem i) h = h

items_apart : (s : Scope) (is : List (ItemOf ℕ)) → Apart s.memories → Apart (with_items s is).memories
items_apart s [] h = h
items_apart s (i ∷ is) h = items_apart (with_item s i) is (item_apart s i h)

ports_apart : (x : Extent) (s : Scope) (ps : List (PortOf ℕ)) → Apart s.memories → Apart (with_ports x s ps).memories
ports_apart x s [] h = h
ports_apart x s (p ∷ ps) h =
    ports_apart (port_extent (declared_in s) x p.head) (with_port (port_extent (declared_in s) x p.head) s p.id.name) ps h

scope_apart : (given : List (Named Sizes)) (m : ModuleOf ℕ) → Apart (scope_with given m).memories
scope_apart given m =
    let header = header_params given NoRange [] m.parameters in
    let start : Scope = params_scope (length header) (items_params header m.items) in
    items_apart (with_ports NoRange start m.ports) m.items (ports_apart NoRange start m.ports tt)

-- so has each instance
led_apart : (file : List (ModuleOf ℕ)) (path : Full) (m : ModuleOf ℕ) (s : Scope) (n : ModuleOf ℕ) (t : Scope) → Leads file m s path n t
    → Apart s.memories → Apart t.memories
led_apart file [] m s n t l h = subst (λ (u : Scope). Apart u.memories) l.1 h
led_apart file (x ∷ path) m s n t l h =
    led_apart file path l.1 l.2 n t l.5
    (subst (λ (u : Scope). Apart u.memories) (sym l.4.scope) (scope_apart (overrides_of (readable_at s l.4.declared) l.0.parameters) l.1))

-- ---- the full names of all memories, instance by instance
abbrev paths_of : List ModuleInstance → List Full
paths_of is = map (λ (i : ModuleInstance). i.path) is

abbrev own_names : Full → Memories → List Full
own_names path ms = map (λ (m : Named ScopeMemory). path ++ m.name ∷ []) ms

abbrev names_in : ModuleInstance → List Full
names_in i = own_names i.path i.scope.memories

abbrev name_in : List Full → DesignMemory → Full
name_in known a = list_at known a.instance ++ a.name ∷ []

abbrev AreFrom : List Full → ℕ → List ModuleInstance → Type 0
AreFrom known number is = (j : ℕ) → list_at known (number + j) ≡ list_at (paths_of is) j

module _ (known : List Full) where
  seat_names : (number word : ℕ) (ms : Memories) → map (name_in known) (memories_from number word ms) ≡ own_names (list_at known number) ms
  seat_names number word [] = refl
  seat_names number word (m ∷ ms) = ap (λ l. (list_at known number ++ m.name ∷ []) ∷ l) (seat_names number (word + m.value.length) ms)

  names_from : (number net word : ℕ) (is : List ModuleInstance) → AreFrom known number is
      → map (name_in known) (flat_map seat_memories (seats_from number net word is)) ≡ flat_map names_in is
  names_from number net word [] h = refl
  names_from number net word (i ∷ is) h =
      let rest : List DesignMemory =
      flat_map seat_memories (seats_from (number + 1) (net + length i.scope.nets) (word + words_of i.scope.memories) is) in
      let first : list_at known number ≡ i.path = (let e : number ≡ number + 0 = omega arith in ap (λ k. list_at known k) e ∙ h 0) in
      let later : AreFrom known (number + 1) is =
      λ j. (let e : number + 1 + j ≡ number + suc j = omega arith in ap (λ k. list_at known k) e ∙ h (suc j)) in
      map-append (name_in known) (memories_from number word i.scope.memories) rest
      ∙ ap (λ l. l ++ map (name_in known) rest)
      (seat_names number word i.scope.memories ∙ ap (λ p. own_names p i.scope.memories) first)
      ∙ ap (λ l. names_in i ++ l) (names_from (number + 1) (net + length i.scope.nets) (word + words_of i.scope.memories) is later)

  flat_names : (is : List ModuleInstance) → AreFrom known 0 is → map (name_in known) (flat_memories (seats_of is)) ≡ flat_map names_in is
  unfolding flat_memories seats_of
  flat_names is h = names_from 0 0 0 is h

built_memories : (file : List (ModuleOf ℕ)) (top : ModuleOf ℕ) (is : List ModuleInstance) (d : Design) → IsBuilt file top is d
    → memory_names d ≡ flat_map names_in is
built_memories file top is d h =
    ap (λ known. map (name_in known) d.memories) h.paths
    ∙ ap (λ ms. map (name_in (paths_of is)) ms) h.memories
    ∙ flat_names (paths_of is) is (λ j. (let e : 0 + j ≡ j = omega arith in ap (λ k. list_at (paths_of is) k) e))

-- ---- they differ
abbrev IsOther : Full → Full → Type 0
IsOther a b = a ≢ b

abbrev IsNotBehind : Full → Full → Type 0
IsNotBehind path y = (name : List ℕ) → path ++ name ∷ [] ≢ y

pairs_of : (xs : List Full) → Distinct xs → AllPairs IsOther xs
pairs_of [] h i j d a b = absurd (omega (arith, b))
pairs_of (x ∷ xs) h zero zero d a b = absurd (omega (arith, a))
pairs_of (x ∷ xs) h zero (suc j) d a b = All-from_recursion (IsOther x) xs h.0 j d (omega (arith, b))
pairs_of (x ∷ xs) h (suc i) zero d a b = absurd (omega (arith, a))
pairs_of (x ∷ xs) h (suc i) (suc j) d a b = pairs_of xs h.1 i j d (omega (arith, a)) (omega (arith, b))

other_names : (path : Full) (name : List ℕ) (ms : Memories) → AllByRecursion (λ (b : Named ScopeMemory). name ≢ b.name) ms
    → AllByRecursion (IsOther (path ++ name ∷ [])) (own_names path ms)
other_names path name [] h = tt
other_names path name (m ∷ ms) h = ((λ e. h.0 (same_from_push path path name m.name e).1), other_names path name ms h.1)

other_paths : (path below : Full) (ms : Memories) → path ≢ below → AllByRecursion (IsNotBehind path) (own_names below ms)
other_paths path below [] h = tt
other_paths path below (m ∷ ms) h = ((λ name e. h (same_from_push path below name m.name e).0), other_paths path below ms h)

one_behind : (path : Full) (ms : Memories) (rest : List Full) → Apart ms → AllByRecursion (IsNotBehind path) rest → Distinct rest
    → Distinct (own_names path ms ++ rest)
one_behind path [] rest d h g = g
one_behind path (m ∷ ms) rest d h g = (
  each_append (IsOther (path ++ m.name ∷ [])) (own_names path ms) rest (other_names path m.name ms d.0)
      (each_weaker (IsNotBehind path) (IsOther (path ++ m.name ∷ [])) (λ y f. f m.name) rest h),
  one_behind path ms rest d.1 h g,
)

not_behind : (path : Full) (is : List ModuleInstance) → AllByRecursion (λ (j : ModuleInstance). path ≢ j.path) is
    → AllByRecursion (IsNotBehind path) (flat_map names_in is)
not_behind path [] h = tt
not_behind path (i ∷ is) h =
    each_append (IsNotBehind path) (names_in i) (flat_map names_in is) (other_paths path i.path i.scope.memories h.0) (not_behind path is h.1)

first_others : (i : ModuleInstance) (is : List ModuleInstance) → AllPairs HasOtherPath (i ∷ is)
    → AllByRecursion (λ (j : ModuleInstance). i.path ≢ j.path) is
first_others i is h = recursion_from_All (HasOtherPath i) is (λ k d l. h 0 (suc k) d (omega arith) (omega (arith, l)))

all_differ : (is : List ModuleInstance) → AllPairs HasOtherPath is → AllByRecursion (λ (i : ModuleInstance). Apart i.scope.memories) is
    → Distinct (flat_map names_in is)
all_differ [] h g = tt
all_differ (i ∷ is) h g =
    one_behind i.path i.scope.memories (flat_map names_in is) g.0 (not_behind i.path is (first_others i is h))
    (all_differ is (λ a b d l r. h (suc a) (suc b) d (omega (arith, l)) (omega (arith, r))) g.1)

pub memories_differ : MemoriesDiffer
memories_differ file name top d clear is_top built =
    let is = instances file name in
    let each : AllByRecursion (λ (i : ModuleInstance). Apart i.scope.memories) is =
    all_members (λ (i : ModuleInstance). Apart i.scope.memories) is
    (λ i there.
    led_apart file.modules i.path top (scope_with [] top) i.tree i.scope
    ((instances_are_all file name top clear is_top i.path i.tree i.scope).0 (i, has_contains is i there, refl, refl, refl))
    (scope_apart [] top)) in
    subst (AllPairs IsOther) (sym (built_memories file.modules top is d built)) (pairs_of (flat_map names_in is) (all_differ is (paths_differ file name clear) each))
