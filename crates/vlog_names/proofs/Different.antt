-- Where E3 finds nothing, names are all different.
use Rattle.std.proofs.Common.{◌≡◌, ◌≢◌, ℕ, zero, suc, ◌<◌, Bool, true, false, if◌then◌else◌, List, [], ◌∷◌, ◌++◌, map, length}
use Rattle.std.proofs.Common.{get_or, Option, Some, is_some, refl, sym, subst, arith, append_assoc}
use Rattle.std.proofs.lemmas.List.{append-nil}
use Rattle.std.proofs.lemmas.List.Quantifiers.{all_pairs_push}
use Rattle.std.proofs.lemmas.Slice.Eq.{bytes_eq-Decides}
use Rattle.std.specs.List.{flat_map, AllByRecursion}
use Rattle.std.specs.Str.{bytes_eq}
use Rattle.vlog_size.proofs.vidi_bits_lemmas.FindingLaws.{told_none}
use Rattle.vlog_size.proofs.vidi_bits_lemmas.Lists.{nil_left, nil_right}
use Rattle.vlog_tree.specs.Tree.{ItemOf, WiresItem, DrivenWiresItem, RegsItem, LocalparamsItem, AssignItem, AlwaysItem, InstanceItem}
use Rattle.vlog_tree.specs.Tree.{ModuleOf}
use Rattle.vlog_tree.specs.Tree.{FileOf}
use Rattle.vlog_size.specs.Table.{Named, value_of}
use Rattle.vlog_names.specs.Entries.{Names, item_entries, header_entries, declared, module_entry, modules_of}
use Rattle.vlog_names.specs.Twice.{twice_name, twice_among, twice_connected, twice_item, twice_items, twice_in, twice_modules, twice_names}
use Rattle.vlog_names.specs.Different.{Differ}

not_here : {V : Type 0} → (b : Bool) (v : V) (o : Option V) → is_some (if b then Some v else o) ≡ false → b ≡ false
not_here true v o h = (cc)
not_here false v o h = refl

not_later : {V : Type 0} → (b : Bool) (v : V) (o : Option V) → is_some (if b then Some v else o) ≡ false → is_some o ≡ false
not_later true v o h = (cc)
not_later false v o h = h

absent_at : {V : Type 0} → (name : List ℕ) (xs : List (Named V)) → is_some (value_of xs name)
    ≡ false → (k : ℕ) (d : Named V) → k < length xs
    → (get_or xs k d).name ≢ name
absent_at name [] e k d within same = absurd (omega arith)
absent_at name (x ∷ xs) e zero d within same =
    let yes : bytes_eq name x.name ≡ true = (bytes_eq-Decides name x.name).1 (sym same) in
    let no : bytes_eq name x.name ≡ false = not_here (bytes_eq name x.name) x.value (value_of xs name) e in
    absurd (cc)
absent_at name (x ∷ xs) e (suc k) d within same =
    absent_at name xs (not_later (bytes_eq name x.name) x.value (value_of xs name) e) k d (omega arith) same

differ_more : {V : Type 0} → (before : List (Named V)) (x : Named V) → twice_name before x.name
    ≡ [] → Differ before → Differ (before ++ x ∷ [])
differ_more {V} before x none differ =
    all_pairs_push (λ (a b : Named V). a.name ≢ b.name) before x differ (absent_at x.name before (told_none _ _ none))

differ_among : {V : Type 0} → (before xs : List (Named V)) → twice_among before xs ≡ [] → Differ before → Differ (before ++ xs)
differ_among {V} before [] none differ = subst (Differ {V = V}) (sym (append-nil before)) differ
differ_among {V} before (x ∷ xs) none differ =
    let one : Differ (before ++ x ∷ []) = differ_more before x (nil_left (twice_name before x.name) _ none) differ in
    subst (Differ {V = V}) (append_assoc before (x ∷ []) xs)
    (differ_among (before ++ x ∷ []) xs (nil_right (twice_name before x.name) _ none) one)

differ_item : (before : Names) (item : ItemOf ℕ) → twice_item before item ≡ [] → Differ before → Differ (before ++ item_entries item)
differ_item before (WiresItem range ids) none differ = differ_among before (item_entries (WiresItem range ids)) none differ
differ_item before (DrivenWiresItem range wires) none differ = differ_among before (item_entries (DrivenWiresItem range wires)) none differ
differ_item before (RegsItem range regs) none differ = differ_among before (item_entries (RegsItem range regs)) none differ
differ_item before (LocalparamsItem range params) none differ =
    differ_among before (item_entries (LocalparamsItem range params)) none differ
differ_item before (AssignItem assigns) none differ = differ_among before [] none differ
differ_item before (AlwaysItem a) none differ = differ_among before [] none differ
differ_item before (InstanceItem i) none differ =
    differ_more before _
    (nil_left (twice_name before i.id.name) (twice_connected i.ports) (nil_right (twice_connected i.parameters) _ none)) differ

differ_items : (before : Names) (items : List (ItemOf ℕ)) → twice_items before items ≡ [] → Differ before
    → Differ (before ++ flat_map item_entries items)
differ_items before [] none differ = subst Differ (sym (append-nil before)) differ
differ_items before (x ∷ xs) none differ =
    subst Differ (append_assoc before (item_entries x) (flat_map item_entries xs))
    (differ_items (before ++ item_entries x) xs (nil_right (twice_item before x) _ none)
    (differ_item before x (nil_left (twice_item before x) _ none) differ))

none_differ : {V : Type 0} → Differ {V = V} []
none_differ = λ i j d less within same. absurd (omega arith)

differ_in : (m : ModuleOf ℕ) → twice_in m ≡ [] → Differ (declared m)
unfolding declared twice_in
differ_in m none =
    differ_items (header_entries m) m.items (nil_right (twice_among [] (header_entries m)) _ none)
    (differ_among [] (header_entries m) (nil_left (twice_among [] (header_entries m)) _ none) none_differ)

differ_modules : (before : List (Named Names)) (ms : List (ModuleOf ℕ)) → twice_modules before ms ≡ [] → Differ before
    → Differ (before ++ map module_entry ms)
differ_modules before [] none differ = subst (Differ {V = Names}) (sym (append-nil before)) differ
differ_modules before (m ∷ ms) none differ =
    let name = twice_name before m.name in
    let one : Differ (before ++ module_entry m ∷ []) = differ_more before (module_entry m) (nil_left name _ none) differ in
    subst (Differ {V = Names}) (append_assoc before (module_entry m ∷ []) (map module_entry ms))
    (differ_modules (before ++ module_entry m ∷ []) ms (nil_right (twice_in m) _ (nil_right name _ none)) one)

each_differs : (before : List (Named Names)) (ms : List (ModuleOf ℕ)) → twice_modules before ms ≡ []
    → AllByRecursion (λ (m : ModuleOf ℕ). Differ (declared m)) ms
each_differs before [] none = tt
each_differs before (m ∷ ms) none =
    let name = twice_name before m.name in
    let rest = nil_right name _ none in (
      differ_in m (nil_left (twice_in m) _ rest),
      each_differs (before ++ module_entry m ∷ []) ms (nil_right (twice_in m) _ rest),
    )

pub modules_differ : (file : FileOf ℕ) → twice_names file ≡ [] → Differ (modules_of file)
unfolding twice_names modules_of
modules_differ file none = differ_modules [] file.modules none none_differ

pub names_differ : (file : FileOf ℕ) → twice_names file ≡ [] → AllByRecursion (λ (m : ModuleOf ℕ). Differ (declared m)) file.modules
unfolding twice_names
names_differ file none = each_differs [] file.modules none
