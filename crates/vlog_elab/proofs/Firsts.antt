-- First findings of the crates below, as reasons.
use Rattle.std.proofs.Common.{◌≡◌, ℕ, suc, ◌+◌, ◌-◌, ◌^◌, ◌<◌, ◌≤◌, ◌⊎◌, inl, inr, min, List, [], ◌∷◌, ◌++◌, map, drop, length, get_or}
use Rattle.std.proofs.Common.{Option, None, Some, slice_get, option_map, drop-cons}
use Rattle.std.proofs.Common.{ap, subst, arith, refl, sym, ◌∙◌}
use Rattle.std.specs.List.{Contains, flat_map}
use Rattle.std.proofs.lemmas.List.{drop_all}
use Rattle.std.proofs.lemmas.Option.{slice_get_cases, slice_get-map, slice_get_read}
use Rattle.vlog_hierarchy.proofs.vidi_bits_lemmas.Lists.{none_in, nil_left}
use Rattle.vlog_hierarchy.proofs.vidi_bits_lemmas.FindingLaws.{first_map, is_first_more}
use Rattle.vlog_hierarchy.specs.vidi_bits.Findings.{first}
use Rattle.vlog_tree.specs.Tree.{ModuleOf}
use Rattle.vlog_tree.specs.declared.module.Module.{Module}
use Rattle.vlog_tree.specs.Plain.{plain_module}
use Rattle.vlog_names.specs.declared.error.NameError.{NameError}
use Rattle.vlog_names.specs.declared.error.NameError.TheVariants as name
use Rattle.vlog_names.specs.Told.{name_told}
use Rattle.vlog_names.specs.declared.kinds.error.KindError.{KindError}
use Rattle.vlog_hierarchy.specs.declared.error.HierarchyError.{HierarchyError}
use Rattle.vlog_hierarchy.specs.declared.error.HierarchyError.TheVariants as hierarchy
use Rattle.vlog_hierarchy.specs.Told.{hierarchy_told}
use Rattle.vlog_hierarchy.specs.Outlines.{Child, Outline, children_in, outlines_of}
use Rattle.vlog_hierarchy.specs.Nested.{Below, direct, through, IsNestedAnswer}
use Rattle.vlog_hierarchy.proofs.Closed.{long_outlines}
use Rattle.vlog_hierarchy.specs.vlog_size.declared.error.SizeError.{SizeError}
use Rattle.vlog_hierarchy.specs.vlog_size.declared.error.SizeError.TheVariants as size
use Rattle.vlog_elab.specs.Errors.{of_name, of_line, of_kind, of_hierarchy, of_size}
use Rattle.vlog_elab.specs.declared.error.ElabError.{ElabError}
use Rattle.vlog_elab.specs.declared.instance.ModuleInstance as code
use Rattle.vlog_elab.specs.Instances.{ModuleInstance}
use Rattle.vlog_elab.specs.Plain.{plain_instance, plain_instances}
use Rattle.vlog_elab.specs.Reasons.{word_total}
use Rattle.vlog_hierarchy.specs.vidi_bits.Findings.{IsFirst}
use Rattle.vlog_elab.specs.Told.{elab_told}

pub name_first : (x : NameError) (fs : List NameError) → IsFirst name_told fs x → IsFirst elab_told (map of_name fs) (of_name x)
name_first (name.Twice n) fs h = first_map of_name fs (name.Twice n) h
name_first (name.Unknown n) fs h = first_map of_name fs (name.Unknown n) h
name_first name.Memory fs h = tt

pub kind_first : (x : KindError) (lines : List ℕ) → first lines ≡ Some x.line → IsFirst elab_told (map of_line lines) (of_kind x)
kind_first x lines h = first_map of_line lines x.line h

pub hierarchy_first : (x : HierarchyError) (fs : List HierarchyError) → IsFirst hierarchy_told fs x
    → IsFirst elab_told (map of_hierarchy fs) (of_hierarchy x)
hierarchy_first (hierarchy.TooBig what) fs h = first_map of_hierarchy fs (hierarchy.TooBig what) h
hierarchy_first (hierarchy.Clock line) fs h = first_map of_hierarchy fs (hierarchy.Clock line) h
hierarchy_first hierarchy.Memory fs h = tt

pub size_first : (x : SizeError) (fs : List SizeError) → first fs ≡ Some x → IsFirst elab_told (map of_size fs) (of_size x)
size_first (size.Const line) fs h = first_map of_size fs (size.Const line) h
size_first (size.Width line got) fs h = first_map of_size fs (size.Width line got) h

-- ---- a module that contains itself is in the file

has_kids : (os : List Outline) (a b : ℕ) → Below os a b → slice_get os a ≡ None → ⊥
has_kids os a b (direct h) none =
    none_in b (subst (λ (o : Option Outline). Contains (map (λ (c : Child). c.place) (children_in o)) b) none h)
has_kids os a b (through c p h) none = has_kids os a c p none

some_within : (os : List Outline) (k : ℕ) → (slice_get os k ≡ None → ⊥) → k < length os
some_within os k some = one (slice_get_cases os k).1
  where
    one : ((x : Outline) × (k < length os) × (slice_get os k ≡ Some x) × (get_or os k x ≡ x))
        ⊎ ((length os ≤ k) × (slice_get os k ≡ None)) → k < length os
    one (inl (x, l, is, r)) = l
    one (inr (l, none)) = absurd (some none)

pub nested_there : (ms : List (ModuleOf ℕ)) (top : Option ℕ) (k : ℕ) → IsNestedAnswer (outlines_of ms) top (Some k) → k < length ms
nested_there ms None k h = (cc)
nested_there ms (Some top) k h =
    let l = some_within (outlines_of ms) k (has_kids (outlines_of ms) k k h.0.1) in omega (arith, l, long_outlines ms)

-- ---- its name

pub name_there : (all ms : List Module) (k : ℕ) (m : Module) (bytes copy : List ℕ) → ms ≡ all → k < length all → m ≡ get_or ms k m
    → bytes ≡ (get_or ms k m).name → copy ≡ bytes
    → slice_get (map (λ (x : ModuleOf ℕ). x.name) (map plain_module all)) k ≡ Some copy
name_there all ms k m bytes copy is within at b c =
    let long : length ms ≡ length all = ap (λ (xs : List Module). length xs) is in
    let there : slice_get ms k ≡ Some m = slice_get_read ms (length ms) k m refl (omega (arith, within, long)) at in
    ap (λ (xs : List Module). slice_get (map (λ (x : ModuleOf ℕ). x.name) (map plain_module xs)) k) (sym is)
    ∙ (slice_get-map (λ (x : ModuleOf ℕ). x.name) (map plain_module ms) k
    ∙ (ap (option_map (λ (x : ModuleOf ℕ). x.name)) (slice_get-map plain_module ms k ∙ ap (option_map plain_module) there)
    ∙ ap Some (sym (c ∙ (b ∙ ap (λ (x : Module). x.name) (sym at))))))

-- ---- findings over the instances

pub found_here : (f : ModuleInstance → List ElabError) (is : List code.ModuleInstance) (i : ℕ) (x : code.ModuleInstance) (error : ElabError)
    → i < length is → x ≡ get_or is i x → flat_map f (plain_instances (drop i is)) ≡ flat_map f (plain_instances is)
    → IsFirst elab_told (f (plain_instance x)) error → IsFirst elab_told (flat_map f (plain_instances is)) error
found_here f is i x error within at same h =
    subst (λ (fs : List ElabError). IsFirst elab_told fs error)
    (sym (ap (λ (ys : List code.ModuleInstance). flat_map f (plain_instances ys))
    (drop-cons is i x within ∙ ap (λ (y : code.ModuleInstance). y ∷ drop (suc i) is) (sym at)))
    ∙ same)
    (is_first_more elab_told error (f (plain_instance x)) (flat_map f (plain_instances (drop (suc i) is))) h)

-- what is found in an instance and in those behind it
pub found_from : (f : ModuleInstance → List ElabError) (is : List code.ModuleInstance) (i : ℕ) (x : code.ModuleInstance) → i < length is
    → x ≡ get_or is i x → flat_map f (plain_instances (drop i is)) ≡ f (plain_instance x) ++ flat_map f (plain_instances (drop (suc i) is))
found_from f is i x within at =
    ap (λ (ys : List code.ModuleInstance). flat_map f (plain_instances ys))
    (drop-cons is i x within ∙ ap (λ (y : code.ModuleInstance). y ∷ drop (suc i) is) (sym at))

-- nothing is found in an instance where nothing is found at all
pub none_here : (f : ModuleInstance → List ElabError) (is : List code.ModuleInstance) (i : ℕ) (x : code.ModuleInstance) → i < length is
    → x ≡ get_or is i x → flat_map f (plain_instances (drop i is)) ≡ flat_map f (plain_instances is)
    → flat_map f (plain_instances is) ≡ [] → f (plain_instance x) ≡ []
none_here f is i x within at same none =
    nil_left (f (plain_instance x)) (flat_map f (plain_instances (drop (suc i) is))) (sym (found_from f is i x within at) ∙ same ∙ none)

-- an instance in which nothing is found may be passed over
pub none_passed : (f : ModuleInstance → List ElabError) (is : List code.ModuleInstance) (i : ℕ) (x : code.ModuleInstance) → i < length is
    → x ≡ get_or is i x → flat_map f (plain_instances (drop i is)) ≡ flat_map f (plain_instances is) → f (plain_instance x) ≡ []
    → flat_map f (plain_instances (drop (suc i) is)) ≡ flat_map f (plain_instances is)
none_passed f is i x within at same none =
    sym (ap (λ (ys : List ElabError). ys ++ flat_map f (plain_instances (drop (suc i) is))) none)
    ∙ sym (found_from f is i x within at) ∙ same

-- ---- words

pub words_end : (is : List code.ModuleInstance) (i words w : ℕ) → length is ≤ i → words ≤ 2 ^ 64 - 1
    → min (words + word_total (plain_instances (drop i is))) (2 ^ 64 - 1) ≡ min w (2 ^ 64 - 1) → words ≡ min w (2 ^ 64 - 1)
words_end is i words w past small h =
    let none : word_total (plain_instances (drop i is)) ≡ 0 =
    ap (λ (ys : List code.ModuleInstance). word_total (plain_instances ys)) (drop_all i is past) in
    omega (arith, none, small, h)
