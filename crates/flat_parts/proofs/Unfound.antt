-- What holds of a file in which no reason holds: the modules of its instances are declared, its names differ, and its scopes are lawful.
use Rattle.std.proofs.Common.{◌≡◌, ℕ, zero, ◌↔◌, Bool, true, false, if◌then◌else◌, List, [], ◌∷◌, ◌++◌, map}
use Rattle.std.proofs.Common.{Option, Some, None, is_none, refl, ap, sym, subst, ◌∙◌, arith}
use Rattle.std.specs.List.{AllByRecursion, Contains, flat_map}
use Rattle.std.specs.Str.{bytes_eq}
use Rattle.std.proofs.lemmas.List.Elements.{Contains-append_right}
use Rattle.std.proofs.lemmas.Slice.Eq.{bytes_eq-Decides}
use Rattle.vlog_elab.proofs.vidi_bits_lemmas.Lists.{nil_left, nil_right}
use Rattle.vlog_tree.specs.Tree.{InstanceOf, ItemOf, InstanceItem, ModuleOf, FileOf}
use Rattle.vlog_elab.specs.vlog_size.declared.scope.Param.{Param}
use Rattle.vlog_elab.specs.vlog_size.declared.scope.Scope.{Scope}
use Rattle.vlog_elab.specs.vlog_size.Table.{Named, value_of}
use Rattle.vlog_elab.specs.vlog_size.Names.{params_alone, is_lawful_scope}
use Rattle.vlog_elab.specs.vlog_names.Entries.{Names, declared, module_entry, modules_of}
use Rattle.vlog_elab.specs.vlog_names.Unknown.{unknown_parameter, unknown_port, unknown_item, unknown_instance, unknown_in, unknown_module}
use Rattle.vlog_elab.specs.vlog_names.Unknown.{unknown_top, unknown_names}
use Rattle.vlog_elab.specs.vlog_names.Twice.{twice_name, twice_in, twice_modules, twice_names}
use Rattle.vlog_elab.specs.vlog_scope.declared.fault.FaultKind.{FaultKind}
use Rattle.vlog_elab.specs.vlog_scope.declared.fault.FaultKind.TheVariants.{Constant, Width}
use Rattle.vlog_elab.specs.vlog_scope.declared.extent.Extent.TheVariants.{NoRange}
use Rattle.vlog_elab.specs.vlog_scope.Scope.{readable_at, after_item, scope_with}
use Rattle.vlog_elab.specs.vlog_scope.Faults.{parameters_faults, ports_faults, override_faults, conn_faults, item_faults, items_faults, scope_faults}
use Rattle.vlog_elab.specs.vlog_scope.Faults.{const_faults, width_faults}
use Rattle.vlog_elab.proofs.vlog_scope_lemmas.LawfulPlaces.{lawful_scope, lawful_declared}
use Rattle.vlog_elab.specs.Errors.{of_name, of_size}
use Rattle.vlog_elab.specs.Instances.{ModuleInstance, instances}
use Rattle.vlog_elab.specs.Reasons.{Clear, name_findings, kind_findings, text_findings, instance_consts, instance_widths, word_findings}
use Rattle.vlog_elab.specs.Reasons.{instance_findings, clock_findings, late_findings, hierarchy_findings, size_findings}
use Rattle.vlog_driver.specs.Names.{Full}
use Rattle.vlog_driver.specs.Placed.{Placed, placed, placed_items}
use Rattle.vlog_driver.specs.Instances.{IsChild, Leads, IsAt}
use Rattle.flat_parts.specs.Laws.{IsListed}
use Rattle.flat_parts.proofs.SettledLists.{members}
use Rattle.flat_parts.proofs.SettledPaths.{one_further}

-- ---- lists of findings
pub no_image : {A B : Type 0} (f : A → B) (xs : List A) → map f xs ≡ [] → xs ≡ []
no_image f [] h = refl
no_image f (x ∷ xs) h = (cc)

pub each_empty : {A B : Type 0} (f : A → List B) (xs : List A) → flat_map f xs ≡ [] → AllByRecursion (λ x. f x ≡ []) xs
each_empty f [] h = tt
each_empty f (x ∷ xs) h = (nil_left (f x) (flat_map f xs) h, each_empty f xs (nil_right (f x) (flat_map f xs) h))

pub empty_at : {A B : Type 0} (f : A → List B) (xs : List A) (x : A) → flat_map f xs ≡ [] → Contains xs x → f x ≡ []
empty_at f xs x h c = (members (λ y. f y ≡ []) xs).0 (each_empty f xs h) x c

-- ---- the names of a file
names_unfound : (file : FileOf ℕ) (name : List ℕ) → Clear file name → twice_names file ++ unknown_names file name ≡ []
unfolding text_findings name_findings
names_unfound file name h =
    no_image of_name (twice_names file ++ unknown_names file name) (nil_left (name_findings file name) (kind_findings file) h.0)

-- E3 of each module
not_twice : (before : List (Named Names)) (ms : List (ModuleOf ℕ)) → twice_modules before ms ≡ [] → AllByRecursion (λ m. twice_in m ≡ []) ms
not_twice before [] h = tt
not_twice before (m ∷ ms) h =
    let rest = nil_right (twice_name before m.name) (twice_in m ++ twice_modules (before ++ module_entry m ∷ []) ms) h in (
      nil_left (twice_in m) (twice_modules (before ++ module_entry m ∷ []) ms) rest,
      not_twice (before ++ module_entry m ∷ []) ms (nil_right (twice_in m) (twice_modules (before ++ module_entry m ∷ []) ms) rest),
    )

pub once_in : (file : FileOf ℕ) (name : List ℕ) → Clear file name → (m : ModuleOf ℕ) → Contains file.modules m → twice_in m ≡ []
unfolding twice_names
once_in file name h m c =
    (members (λ m. twice_in m ≡ []) file.modules).0
    (not_twice [] file.modules (nil_left (twice_names file) (unknown_names file name) (names_unfound file name h))) m c

-- E4 of an instance's module
pub record IsDeclared (file : List (ModuleOf ℕ)) (name : List ℕ) : Type 0 where
  pub child : ModuleOf ℕ
  pub in_file : Contains file child
  pub named : child.name ≡ name

module _ (m : ModuleOf ℕ) (ms : List (ModuleOf ℕ)) (name : List ℕ) where
  declared_or : (b : Bool) → bytes_eq name m.name ≡ b → (is_none (value_of (map module_entry ms) name) ≡ false → IsDeclared ms name)
      → is_none (value_of (map module_entry (m ∷ ms)) name) ≡ false → IsDeclared (m ∷ ms) name
  declared_or true e later h =
      record { child = m; in_file = (zero, omega arith, refl); named = sym ((bytes_eq-Decides name m.name).0 e) }
  declared_or false e later h =
      let r = later (sym (ap (λ (c : Bool). is_none (if c then Some (declared m) else value_of (map module_entry ms) name)) e) ∙ h) in
      record { child = r.child; in_file = Contains-append_right (m ∷ []) ms r.child r.in_file; named = r.named }

some_declared : (ms : List (ModuleOf ℕ)) (name : List ℕ) → is_none (value_of (map module_entry ms) name) ≡ false → IsDeclared ms name
some_declared [] name h = (cc)
some_declared (m ∷ ms) name h = declared_or m ms name (bytes_eq name m.name) refl (some_declared ms name) h

known_some : (o : Option Names) (names : Names) (i : InstanceOf ℕ) → unknown_instance o names i ≡ [] → is_none o ≡ false
unfolding unknown_instance
known_some None names i h = (cc)
known_some (Some child) names i h = refl

pub child_declared : (file : FileOf ℕ) (name : List ℕ) → Clear file name → (m : ModuleOf ℕ) (i : InstanceOf ℕ) → Contains file.modules m
    → Contains m.items (InstanceItem i) → IsDeclared file.modules i.module_id.name
unfolding unknown_names unknown_module unknown_in modules_of
child_declared file name h m i c there =
    let all : List (Named Names) = modules_of file in
    let unknown : unknown_names file name ≡ [] =
    nil_right (twice_names file) (unknown_names file name) (names_unfound file name h) in
    let own : unknown_module all m ≡ [] =
    empty_at (unknown_module all) file.modules m
    (nil_right (unknown_top all name) (flat_map (unknown_module all) file.modules) unknown) c in
    let items : flat_map (unknown_item all (declared m)) m.items ≡ [] =
    nil_right (flat_map (unknown_port (declared m)) m.ports) (flat_map (unknown_item all (declared m)) m.items)
    (nil_right (flat_map (unknown_parameter (declared m)) m.parameters)
    (flat_map (unknown_port (declared m)) m.ports ++ flat_map (unknown_item all (declared m)) m.items) own) in
    some_declared file.modules i.module_id.name
    (known_some (value_of all i.module_id.name) (declared m) i
    (empty_at (unknown_item all (declared m)) m.items (InstanceItem i) items there))

-- ---- the items of an instance
items_placed : (params : List (Named Param)) (k : ℕ) (items : List (ItemOf ℕ))
    → AllByRecursion (λ (p : Placed). Contains items p.item) (placed params k items)
items_placed params k [] = tt
items_placed params k (i ∷ is) = (
  (zero, omega arith, refl),
  (members (λ (p : Placed). Contains (i ∷ is) p.item) (placed params (after_item params k i) is)).1
      (λ p c. Contains-append_right (i ∷ []) is p.item
      ((members (λ (p : Placed). Contains is p.item) (placed params (after_item params k i) is)).0
      (items_placed params (after_item params k i) is) p c)),
)

pub placed_in : (m : ModuleOf ℕ) (s : Scope) (p : Placed) → Contains (placed_items m s) p → Contains m.items p.item
placed_in m s p c = (members (λ (p : Placed). Contains m.items p.item) (placed_items m s)).0 (items_placed s.params s.declared m.items) p c

item_unfound : (kind : FaultKind) (s : Scope) (k : ℕ) (items : List (ItemOf ℕ)) → items_faults kind s k items ≡ []
    → AllByRecursion (λ (p : Placed). item_faults kind s p.declared p.item ≡ []) (placed s.params k items)
item_unfound kind s k [] h = tt
item_unfound kind s k (i ∷ is) h = (
  nil_left (item_faults kind s k i) (items_faults kind s (after_item s.params k i) is) h,
  item_unfound kind s (after_item s.params k i) is
      (nil_right (item_faults kind s k i) (items_faults kind s (after_item s.params k i) is) h),
)

overrides_unfound : (kind : FaultKind) (m : ModuleOf ℕ) (s : Scope) (k : ℕ) (i : InstanceOf ℕ) → scope_faults kind m s ≡ []
    → Contains (placed_items m s) (record { declared = k; item = InstanceItem i })
    → flat_map (override_faults kind (readable_at s k)) i.parameters ≡ []
unfolding scope_faults item_faults
overrides_unfound kind m s k i h c =
    let items : items_faults kind s s.declared m.items ≡ [] =
    nil_right (ports_faults kind (readable_at s s.declared) NoRange m.ports) (items_faults kind s s.declared m.items)
    (nil_right (parameters_faults kind s 0 NoRange m.parameters)
    (ports_faults kind (readable_at s s.declared) NoRange m.ports ++ items_faults kind s s.declared m.items) h) in
    nil_left (flat_map (override_faults kind (readable_at s k)) i.parameters) (flat_map (conn_faults kind (readable_at s k)) i.ports)
    ((members (λ (p : Placed). item_faults kind s p.declared p.item ≡ []) (placed_items m s)).0
    (item_unfound kind s s.declared m.items items) (record { declared = k; item = InstanceItem i }) c)

-- ---- E5 and E6 of the instances
scopes_unfound : (file : FileOf ℕ) (name : List ℕ) → Clear file name → instance_findings (instances file name) ≡ []
unfolding size_findings late_findings
scopes_unfound file name h =
    nil_left (instance_findings (instances file name)) (clock_findings file name (instances file name))
    (nil_right (hierarchy_findings file name) (late_findings file name (instances file name)) h.1.1)

consts_unfound : (is : List ModuleInstance) → instance_findings is ≡ [] → (i : ModuleInstance) → Contains is i
    → const_faults i.tree i.scope ≡ []
unfolding instance_findings instance_consts
consts_unfound is h i c =
    no_image of_size (const_faults i.tree i.scope)
    (empty_at instance_consts is i (nil_left (flat_map instance_consts is) (flat_map instance_widths is ++ word_findings is) h) c)

widths_unfound : (is : List ModuleInstance) → instance_findings is ≡ [] → (i : ModuleInstance) → Contains is i
    → width_faults i.tree i.scope ≡ []
unfolding instance_findings instance_widths
widths_unfound is h i c =
    no_image of_size (width_faults i.tree i.scope)
    (empty_at instance_widths is i
    (nil_left (flat_map instance_widths is) (word_findings is)
    (nil_right (flat_map instance_consts is) (flat_map instance_widths is ++ word_findings is) h)) c)

-- nothing is found in an instance
record IsSound (m : ModuleOf ℕ) (s : Scope) : Type 0 where
  consts : const_faults m s ≡ []
  widths : width_faults m s ≡ []

module _ (file : List (ModuleOf ℕ)) (top : ModuleOf ℕ)
    (sound : (path : Full) (m : ModuleOf ℕ) (s : Scope) → IsAt file top path m s → IsSound m s) where
  lawful_top : is_lawful_scope (scope_with [] top) ≡ true
  lawful_top =
      let h = sound [] top (scope_with [] top) (refl, refl) in
      lawful_scope (params_alone []) [] top refl refl refl h.consts h.widths

  lawful_child : (path : Full) (m : ModuleOf ℕ) (s : Scope) (i : InstanceOf ℕ) (n : ModuleOf ℕ) (t : Scope) → IsAt file top path m s
      → is_lawful_scope s ≡ true → IsChild file m s i n t → is_lawful_scope t ≡ true
  lawful_child path m s i n t there l c =
      let h = sound path m s there in
      let g = sound (path ++ i.id.name ∷ []) n t (one_further file top (scope_with [] top) path m s i n t there c) in
      ap is_lawful_scope c.scope
      ∙ lawful_scope (readable_at s c.declared) i.parameters n (lawful_declared s c.declared l)
      (overrides_unfound Constant m s c.declared i h.consts c.stands) (overrides_unfound Width m s c.declared i h.widths c.stands)
      (subst (λ z. const_faults n z ≡ []) c.scope g.consts) (subst (λ z. width_faults n z ≡ []) c.scope g.widths)

  lawful_below : (front path : Full) (m : ModuleOf ℕ) (s : Scope) (n : ModuleOf ℕ) (t : Scope) → IsAt file top front m s
      → is_lawful_scope s ≡ true → Leads file m s path n t → is_lawful_scope t ≡ true
  lawful_below front [] m s n t there l h = sym (ap is_lawful_scope h.1) ∙ l
  lawful_below front (x ∷ path) m s n t there l h =
      lawful_below (front ++ h.0.id.name ∷ []) path h.1 h.2 n t
      (one_further file top (scope_with [] top) front m s h.0 h.1 h.2 there h.4) (lawful_child front m s h.0 h.1 h.2 there l h.4) h.5

  lawful_at : (path : Full) (m : ModuleOf ℕ) (s : Scope) → IsAt file top path m s → is_lawful_scope s ≡ true
  lawful_at path m s there = lawful_below [] path top (scope_with [] top) m s (refl, refl) lawful_top there

sound_at : (is : List ModuleInstance) → instance_findings is ≡ [] → (m : ModuleOf ℕ) (s : Scope) (i : ModuleInstance) → Contains is i
    → i.tree ≡ m → i.scope ≡ s → IsSound m s
sound_at is h m s i c tree scope =
    subst (λ z. IsSound z s) tree
    (subst (λ z. IsSound i.tree z) scope (record { consts = consts_unfound is h i c; widths = widths_unfound is h i c }))

-- the scopes of all instances are lawful
pub lawful_scopes : (file : FileOf ℕ) (name : List ℕ) (top : ModuleOf ℕ) → Clear file name
    → ((path : Full) (m : ModuleOf ℕ) (s : Scope) → IsListed (instances file name) path m s ↔ IsAt file.modules top path m s)
    → (path : Full) (m : ModuleOf ℕ) (s : Scope) → IsAt file.modules top path m s → is_lawful_scope s ≡ true
lawful_scopes file name top h listed =
    lawful_at file.modules top
    (λ path m s there. let l = (listed path m s).1 there in
    sound_at (instances file name) (scopes_unfound file name h) m s l.0 l.1 l.3 l.4)
