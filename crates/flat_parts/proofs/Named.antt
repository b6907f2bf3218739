-- Modules by name.
use Rattle.std.proofs.Common.{◌≡◌, ◌≢◌, ℕ, suc, ◌+◌, inl, inr, List, [], ◌∷◌, map, refl, sym, ap, ◌∙◌, arith}
use Rattle.std.proofs.Common.{None, Some, slice_get, Bool, true, false, if◌then◌else◌, subst}
use Rattle.std.specs.List.{Contains}
use Rattle.std.specs.Str.{bytes_eq}
use Rattle.std.proofs.lemmas.Slice.Eq.{bytes_eq-Decides}
use Rattle.std.proofs.lemmas.List.Elements.{All-contains}
use Rattle.std.proofs.lemmas.Bool.{false_from_ne_true}
use Rattle.vlog_elab.proofs.vidi_bits_lemmas.Lists.{none_in, head_in, tail_in, cases_in}
use Rattle.vlog_tree.specs.Tree.{ModuleOf}
use Rattle.vlog_elab.specs.vlog_size.Table.{Named}
use Rattle.vlog_elab.specs.vlog_names.Entries.{Names, module_entry}
use Rattle.vlog_elab.specs.vlog_names.Different.{Differ}
use Rattle.vlog_elab.specs.vlog_hierarchy.Outlines.{place_from, place_of}
use Rattle.flat_parts.proofs.Lists.{pairs_first, pairs_rest}

-- ---- the module at the place of a name

-- the module of this name that stands j behind place f
pub record At (f : ℕ) (ms : List (ModuleOf ℕ)) (name : List ℕ) (p : ℕ) : Type 0 where
  pub behind : ℕ
  pub tree : ModuleOf ℕ
  pub place : p ≡ f + behind
  pub there : slice_get ms behind ≡ Some tree
  pub named : tree.name ≡ name
  pub listed : Contains ms tree

at_next : (f : ℕ) (m : ModuleOf ℕ) (ms : List (ModuleOf ℕ)) (name : List ℕ) (p : ℕ) → At (f + 1) ms name p → At f (m ∷ ms) name p
at_next f m ms name p a = record {
  behind = suc a.behind;
  tree = a.tree;
  place = let is = a.place in omega (arith, is);
  there = a.there;
  named = a.named;
  listed = tail_in m ms a.tree a.listed;
}

at_first : (f : ℕ) (m : ModuleOf ℕ) (ms : List (ModuleOf ℕ)) (name : List ℕ) (p : ℕ) (b : Bool) → bytes_eq name m.name ≡ b
    → (if b then Some f else place_from (f + 1) ms name) ≡ Some p → (place_from (f + 1) ms name ≡ Some p → At (f + 1) ms name p)
    → At f (m ∷ ms) name p
at_first f m ms name p true is h more = record {
  behind = 0;
  tree = m;
  place = let same : f ≡ p = cc in omega (arith, same);
  there = refl;
  named = sym ((bytes_eq-Decides name m.name).0 is);
  listed = head_in m ms;
}
at_first f m ms name p false is h more = at_next f m ms name p (more h)

at_from : (f : ℕ) (ms : List (ModuleOf ℕ)) (name : List ℕ) (p : ℕ) → place_from f ms name ≡ Some p → At f ms name p
at_from f [] name p e = let off : None ≡ Some p = e in absurd (cc)
at_from f (m ∷ ms) name p e = at_first f m ms name p (bytes_eq name m.name) refl e (λ h. at_from (f + 1) ms name p h)

-- the module that is there has the name, and is in the file
pub named_at : (ms : List (ModuleOf ℕ)) (name : List ℕ) (p : ℕ) (m : ModuleOf ℕ) → place_of ms name ≡ Some p → slice_get ms p ≡ Some m
    → (m.name ≡ name) × Contains ms m
named_at ms name p m e at =
    let a : At 0 ms name p = at_from 0 ms name p e in
    let same : p ≡ a.behind = let is = a.place in omega (arith, is) in
    let one : Some a.tree ≡ Some m = sym a.there ∙ sym (ap (slice_get ms) same) ∙ at in
    let it : a.tree ≡ m = cc in
    (subst (λ (x : ModuleOf ℕ). x.name ≡ name) it a.named, subst (Contains ms) it a.listed)

-- ---- the place of a module, where no two have the same name

pub record Placed (f : ℕ) (ms : List (ModuleOf ℕ)) (m : ModuleOf ℕ) : Type 0 where
  pub place : ℕ
  pub behind : ℕ
  pub found : place_from f ms m.name ≡ Some place
  pub sum : place ≡ f + behind
  pub there : slice_get ms behind ≡ Some m

entry_in : (ms : List (ModuleOf ℕ)) (m : ModuleOf ℕ) → Contains ms m → Contains (map module_entry ms) (module_entry m)
entry_in [] m h = absurd (none_in m h)
entry_in (x ∷ ms) m h =
    elim (cases_in x ms m h) [
      | inl is ↦ (0, omega arith, ap module_entry is)
      | inr more ↦ tail_in (module_entry x) (map module_entry ms) (module_entry m) (entry_in ms m more)
    ]

placed_first : (f : ℕ) (x m : ModuleOf ℕ) (ms : List (ModuleOf ℕ)) → x ≡ m → Placed f (x ∷ ms) m
placed_first f x m ms is = record {
  place = f;
  behind = 0;
  found =
      ap (λ b. if b then Some f else place_from (f + 1) ms m.name)
      ((bytes_eq-Decides m.name x.name).1 (ap (λ (y : ModuleOf ℕ). y.name) (sym is)));
  sum = omega arith;
  there = ap (λ (y : ModuleOf ℕ). Some y) is;
}

placed_next : (f : ℕ) (x m : ModuleOf ℕ) (ms : List (ModuleOf ℕ)) → x.name ≢ m.name → Placed (f + 1) ms m → Placed f (x ∷ ms) m
placed_next f x m ms other p = record {
  place = p.place;
  behind = suc p.behind;
  found =
      ap (λ b. if b then Some f else place_from (f + 1) ms m.name)
      (false_from_ne_true (bytes_eq m.name x.name) (λ yes. other (sym ((bytes_eq-Decides m.name x.name).0 yes))))
      ∙ p.found;
  sum = let is = p.sum in omega (arith, is);
  there = p.there;
}

abbrev OtherName : Named Names → Named Names → Type 0
OtherName a b = a.name ≢ b.name

place_it : (f : ℕ) (ms : List (ModuleOf ℕ)) (m : ModuleOf ℕ) → Contains ms m → Differ (map module_entry ms) → Placed f ms m
place_it f [] m listed differ = absurd (none_in m listed)
place_it f (x ∷ ms) m listed differ =
    elim (cases_in x ms m listed) [
      | inl is ↦ placed_first f x m ms is
      | inr more ↦ placed_next f x m ms
          (All-contains (OtherName (module_entry x)) (map module_entry ms) (module_entry m)
          (pairs_first OtherName (module_entry x) (map module_entry ms) differ) (entry_in ms m more))
          (place_it (f + 1) ms m more (pairs_rest OtherName (module_entry x) (map module_entry ms) differ))
    ]

-- a module of the file is the first of its name
pub place_is : (ms : List (ModuleOf ℕ)) (m : ModuleOf ℕ) → Contains ms m → Differ (map module_entry ms)
    → (p : ℕ) × (place_of ms m.name ≡ Some p) × (slice_get ms p ≡ Some m)
place_is ms m listed differ =
    let q : Placed 0 ms m = place_it 0 ms m listed differ in
    let same : q.behind ≡ q.place = let is = q.sum in omega (arith, is) in
    (q.place, q.found, sym (ap (slice_get ms) same) ∙ q.there)
