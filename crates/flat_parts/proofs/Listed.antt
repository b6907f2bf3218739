-- The instances of a file and its top.
use Rattle.std.proofs.Common.{◌≡◌, ℕ, suc, ◌<◌, inl, inr, List, [], ◌∷◌, ◌++◌, length, refl, sym, ap, subst, ◌∙◌}
use Rattle.std.proofs.Common.{arith, append-nil, Option, None, Some, slice_get}
use Rattle.std.specs.List.{Contains, AllPairs, flat_map}
use Rattle.flat_parts.specs.Instances.{HasOtherPath}
use Rattle.vlog_elab.proofs.Added.{deeper}
use Rattle.vlog_tree.specs.Tree.{ModuleOf, FileOf}
use Rattle.vlog_elab.specs.vlog_size.declared.scope.Scope.{Scope}
use Rattle.vlog_elab.specs.vlog_scope.Scope.{scope_with}
use Rattle.vlog_elab.specs.vlog_hierarchy.Outlines.{place_of}
use Rattle.vlog_elab.specs.Instances.{ModuleInstance, children, within, top_of, top_at, instances}
use Rattle.vlog_elab.specs.Reasons.{Clear}
use Rattle.vlog_elab.proofs.Places.{there}
use Rattle.vlog_driver.specs.Names.{Full}
use Rattle.vlog_driver.specs.Instances.{Leads, IsAt}
use Rattle.flat_parts.specs.Laws.{IsTop, IsListed, InstancesAreAll, PathsDiffer, FirstIsTop}
use Rattle.flat_parts.proofs.Lists.{in_got, no_pairs}
use Rattle.flat_parts.proofs.Within.{Led, led, Reached, reached}
use Rattle.flat_parts.proofs.Differing.{paths_apart}
use Rattle.flat_parts.proofs.Found.{modules_apart, names_apart, few}
use Rattle.vlog_elab.specs.vlog_hierarchy.declared.nodes.TheConstants.{MOST_INSTANCES, MOST_LEVELS}

-- the instance that the top is
abbrev pub top_instance : ℕ → ModuleOf ℕ → ModuleInstance
top_instance k m = record { path = []; place = k; tree = m; scope = scope_with [] m }

listed_at : (levels : ℕ) (ms : List (ModuleOf ℕ)) (o : Option ℕ) (k : ℕ) (m : ModuleOf ℕ) → o ≡ Some k → slice_get ms k ≡ Some m
    → flat_map (within levels ms) (top_at ms o) ≡ within levels ms (top_instance k m)
listed_at levels ms o k m found at =
    ap (λ (x : Option ℕ). flat_map (within levels ms) (top_at ms x)) found
    ∙ ap (λ (x : Option (ModuleOf ℕ)). flat_map (within levels ms) (top_of k x)) at
    ∙ append-nil (within levels ms (top_instance k m))

pub all_listed : (file : FileOf ℕ) (name : List ℕ) (k : ℕ) (m : ModuleOf ℕ) → place_of file.modules name ≡ Some k
    → slice_get file.modules k ≡ Some m → instances file name ≡ within MOST_LEVELS file.modules (top_instance k m)
unfolding instances
all_listed file name k m found at = listed_at MOST_LEVELS file.modules (place_of file.modules name) k m found at

none_listed : (file : FileOf ℕ) (name : List ℕ) → place_of file.modules name ≡ None → instances file name ≡ []
unfolding instances
none_listed file name none = ap (λ (x : Option ℕ). flat_map (within MOST_LEVELS file.modules) (top_at file.modules x)) none

-- ---- the laws

at_path : (file : FileOf ℕ) (name : List ℕ) (top : ModuleOf ℕ) → IsTop file name top → (path : Full) (m : ModuleOf ℕ) (s : Scope)
    → IsListed (instances file name) path m s → IsAt file.modules top path m s
at_path file name top (k, found, at) path m s (i, listed, is_path, tree, scope) =
    let l : Led file.modules (top_instance k top) i =
    led MOST_LEVELS file.modules (top_instance k top) i
    (subst (λ (is : List ModuleInstance). Contains is i) (all_listed file name k top found at) listed) in
    let same : l.names ≡ path = sym l.path ∙ is_path in
    subst (λ (p : Full). Leads file.modules top (scope_with [] top) p m s) same
    (subst (λ (x : ModuleOf ℕ). Leads file.modules top (scope_with [] top) l.names x s) tree
    (subst (λ (x : Scope). Leads file.modules top (scope_with [] top) l.names i.tree x) scope l.leads))

listed_there : (levels : ℕ) (is : List ModuleInstance) (ms : List (ModuleOf ℕ)) (i : ModuleInstance) (path : Full) (m : ModuleOf ℕ)
    (s : Scope) → is ≡ within levels ms i → length is < levels → i.path ≡ [] → Reached levels ms i path m s → IsListed is path m s
listed_there levels is ms i path m s all few' root (inl listed) =
    subst (λ (p : Full). IsListed is p m s) (ap (λ (p : Full). p ++ path) root)
    (subst (λ (xs : List ModuleInstance). IsListed xs (i.path ++ path) m s) (sym all) listed)
listed_there levels is ms i path m s all few' root (inr many) =
    let long : length is ≡ length (within levels ms i) = ap (λ (xs : List ModuleInstance). length xs) all in
    absurd (omega (arith, long, many, few'))

listed_path : (file : FileOf ℕ) (name : List ℕ) (top : ModuleOf ℕ) → Clear file name → IsTop file name top → (path : Full)
    (m : ModuleOf ℕ) (s : Scope) → IsAt file.modules top path m s → IsListed (instances file name) path m s
listed_path file name top clear (k, found, at) path m s leads =
    let l = few file name clear in
    listed_there MOST_LEVELS (instances file name) file.modules (top_instance k top) path m s (all_listed file name k top found at)
    (omega (arith, l)) refl
    (reached MOST_LEVELS file.modules (modules_apart file name clear) (top_instance k top) path m s leads)

pub instances_are_all : InstancesAreAll
instances_are_all file name top clear is_top path m s =
    (at_path file name top is_top path m s, listed_path file name top clear is_top path m s)

pub paths_differ : PathsDiffer
paths_differ file name clear = one (place_of file.modules name) refl
  where
    one : (o : Option ℕ) → place_of file.modules name ≡ o → AllPairs HasOtherPath (instances file name)
    one None none = subst (AllPairs HasOtherPath) (sym (none_listed file name none)) (no_pairs HasOtherPath)
    one (Some k) found =
        let at = there file.modules name k found in
        subst (AllPairs HasOtherPath) (sym (all_listed file name k at.0 found at.1))
        (paths_apart MOST_LEVELS file.modules (names_apart file name clear) (top_instance k at.0) (in_got file.modules k at.0 at.1))

first_of_levels : (levels n : ℕ) (ms : List (ModuleOf ℕ)) (i : ModuleInstance) → levels ≡ suc n
    → within levels ms i ≡ i ∷ flat_map (within n ms) (children ms i)
first_of_levels levels n ms i is = ap (λ j. within j ms i) is ∙ deeper n ms i

pub first_is_top : FirstIsTop
first_is_top file name top clear (k, found, at) = (
  k,
  flat_map (within MOST_INSTANCES file.modules) (children file.modules (top_instance k top)),
  all_listed file name k top found at ∙ first_of_levels MOST_LEVELS MOST_INSTANCES file.modules (top_instance k top) (omega arith),
)
