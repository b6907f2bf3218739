-- Registers of shims in the next state.
use Rattle.std.proofs.Common.{◌≡◌, ℕ, ◌-◌, ◌<◌, true}
use Rattle.std.proofs.Common.{List, [], ◌∷◌, ◌++◌, None, Some, refl, sym, ap, ◌∙◌, subst, arith, length, get_or, map, nat_lt, min}
use Rattle.std.specs.List.{AllByRecursion, flat_map}
use Rattle.std.proofs.lemmas.List.{length-map}
use Rattle.vlog_tree.specs.Tree.{ItemOf, WiresItem, DrivenWiresItem, RegsItem, LocalparamsItem, AssignItem, AlwaysItem, InstanceItem, ModuleOf}
use Rattle.vlog_tree.specs.Tree.{NoLast}
use Rattle.shim_trees.specs.vlog_size.declared.scope.ScopeNet.{ScopeNet}
use Rattle.shim_trees.specs.vlog_size.declared.scope.Scope.{Scope}
use Rattle.shim_trees.specs.vlog_size.Names.{Readable}
use Rattle.shim_trees.specs.vlog_size.Table.{Named, place_of}
use Rattle.net_design.specs.declared.values.Target.TheVariants as targets
use Rattle.net_design.specs.declared.values.Update.{Update}
use Rattle.net_design.specs.declared.values.Values.{Values}
use Rattle.net_design.specs.Updates.{apply, update}
use Rattle.flat_parts.specs.vlog_block.Targets.{target_updates, source_updates}
use Rattle.flat_parts.specs.vlog_block.declared.source.Source.{Source}
use Rattle.flat_parts.specs.vlog_driver.Names.{Full, State, numbers_at}
use Rattle.flat_parts.specs.vlog_driver.Placed.{Placed, placed, names_at}
use Rattle.flat_parts.specs.vlog_driver.Next.{IsNext, item_updates, clocked_updates}
use Rattle.shim_trees.specs.Pieces.{Name, ident, target}
use Rattle.shim_step.specs.Plain.{nets_of}
use Rattle.shim_step.specs.Nets.{IsNet}
use Rattle.shim_step.proofs.Elements.{Found, place_some}
use Rattle.shim_step.proofs.Scopes.{bare}
use Rattle.shim_step.proofs.Standing as standing
use Rattle.shim_step.proofs.Whole.{source}
use Rattle.shim_step.proofs.Stand.{Stand, HasNet, V}

-- ---- one whole register gets a number
module _ (r : Readable) (v : Values) (x : Name) (w n : ℕ) (is : IsNet r v x w n) where
  pub one_update : (y : ℕ) → 0 < w → target_updates r v (target x) y ≡ update (targets.Net is.place) 0 w y ∷ []
  one_update y some =
      let low : nat_lt 0 w ≡ true = less w some in
      let all : min w (w - 0) ≡ w = omega arith in
      ap (λ (s : Source). source_updates r s None NoLast None y) (source r v (ident x) w n is)
      ∙ rw (low, all) refl where
        less : (w : ℕ) → 0 < w → nat_lt 0 w ≡ true
        less w some = grind arith

-- ---- clocked blocks among items
abbrev pub IsStill : ItemOf ℕ → Type 0
IsStill (LocalparamsItem range vs) = ⊥
IsStill (AlwaysItem a) = ⊥
IsStill item = Unit {0}

module _ (s : Scope) (v : Values) where
  abbrev pub updates_in : List Placed → List Update
  updates_in ps = flat_map (λ (p : Placed). item_updates (names_at s p.declared) p.item v) ps

  still_first : (i : ItemOf ℕ) (is : List (ItemOf ℕ)) → IsStill i → updates_in (placed [] 0 (i ∷ is)) ≡ updates_in (placed [] 0 is)
  still_first (WiresItem range ids) is h = refl
  still_first (DrivenWiresItem range ws) is h = refl
  still_first (RegsItem range gs) is h = refl
  still_first (LocalparamsItem range vs) is h = absurd h
  still_first (AssignItem assigns) is h = refl
  still_first (AlwaysItem a) is h = absurd h
  still_first (InstanceItem i) is h = refl

  pub stills_first : (xs is : List (ItemOf ℕ)) → AllByRecursion IsStill xs → updates_in (placed [] 0 (xs ++ is)) ≡ updates_in (placed [] 0 is)
  stills_first [] is h = refl
  stills_first (x ∷ xs) is h = still_first x (xs ++ is) h.0 ∙ stills_first xs is h.1

same_place : (a b : ℕ) → Some a ≡ Some b → a ≡ b
same_place a b e = (cc)

-- ---- the numbers of a net before and after the clock, by its place
module _ {file : List (ModuleOf ℕ)} {top : ModuleOf ℕ} {s : State} {pins : List ℕ} {v : Full → ℕ} {path : Full} {m : ModuleOf ℕ}
    (st : Stand file top s pins v path m) where
  abbrev pub S : Values
  S = numbers_at s.nets s.words path (bare (nets_of m))

  module _ (x : Name) (w : ℕ) (h : HasNet m x w) (p : ℕ) (placed_so : place_of (nets_of m) x ≡ Some p) where
    abbrev z : Named ScopeNet
    z = record { name = x; value = record { width = w } }

    f : Found (nets_of m) z
    f = standing.found_net file top s pins v st.settled path m st.plain st.at z h.0

    same : f.place ≡ p
    same = same_place f.place p (sym (place_some (nets_of m) z f) ∙ placed_so)

    number_of : (nets : Full → ℕ) → get_or (map (λ (y : Named ScopeNet). nets (path ++ y.name ∷ [])) (nets_of m)) p 0 ≡ nets (path ++ x ∷ [])
    number_of nets =
        subst (λ k. get_or (map (λ (y : Named ScopeNet). nets (path ++ y.name ∷ [])) (nets_of m)) k 0 ≡ nets (path ++ x ∷ [])) same
        (standing.number_at nets path (nets_of m) f.place z f.there f.within)

    pub place_there : p < length S.nets
    place_there =
        let less : p < length (nets_of m) = subst (λ k. k < length (nets_of m)) same f.within in
        let long : length S.nets ≡ length (nets_of m) = length-map (nets_of m) (λ (y : Named ScopeNet). s.nets (path ++ y.name ∷ [])) in
        omega (arith, less, long)

    pub old_at : get_or S.nets p 0 ≡ s.nets (path ++ x ∷ [])
    old_at = number_of s.nets

    pub next_at : (after : State) → IsNext file top s v after → (us : List Update) → clocked_updates m (bare (nets_of m)) (V st) ≡ us
        → after.nets (path ++ x ∷ []) ≡ get_or (apply us S).nets p 0
    next_at after goes us is =
        sym (number_of after.nets)
        ∙ ap (λ (u : Values). get_or u.nets p 0) (standing.next_is file top s pins v st.settled path m st.plain st.at after goes)
        ∙ ap (λ us. get_or (apply us S).nets p 0) is
