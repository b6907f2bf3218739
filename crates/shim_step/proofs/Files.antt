-- The modules of a wrapped file.
use Rattle.std.proofs.Common.{◌≡◌, ◌≢◌, ℕ, zero, suc, ◌+◌, ◌<◌, Bool, true, false, if◌then◌else◌, List, [], ◌∷◌, ◌++◌, map, length}
use Rattle.std.proofs.Common.{Some, refl, sym, ap, ◌∙◌, subst, arith, inl, inr, slice_get}
use Rattle.std.specs.List.{find}
use Rattle.std.specs.Str.{bytes_eq}
use Rattle.std.proofs.lemmas.Slice.Eq.{bytes_eq-Decides}
use Rattle.net_order.proofs.vidi_bits_lemmas.Lists.{nil_left, nil_right}
use Rattle.vlog_tree.specs.Tree.{ModuleOf, FileOf}
use Rattle.shim_trees.specs.vlog_size.Table.{Named}
use Rattle.flat_parts.specs.vlog_hierarchy.Outlines.{place_from}
use Rattle.flat_parts.specs.vlog_names.Entries.{Names, declared, module_entry, modules_of}
use Rattle.flat_parts.specs.vlog_names.Twice.{twice_name, twice_in, twice_modules, twice_names}
use Rattle.flat_parts.specs.vlog_names.Different.{Differ}
use Rattle.flat_parts.proofs.vlog_names_lemmas.Different.{modules_differ, names_differ}
use Rattle.chan_replayer.specs.trace_model.declared.channel.Channel.{Channel}
use Rattle.chan_replayer.specs.chan_map.declared.pins.Map.{Map}
use Rattle.net_design.specs.declared.design.Design.{Design}
use Rattle.flat_parts.specs.Laws.{IsTop}
use Rattle.shim_trees.specs.Pieces.{Name, each_some}
use Rattle.shim_trees.specs.Monitor.{monitor}
use Rattle.shim_trees.specs.Replayer.{replayer}
use Rattle.shim_trees.specs.RecordTop.{record_top}
use Rattle.shim_trees.specs.ReplayTop.{replay_top}
use Rattle.shim_trees.specs.Wrapped.{channel_shims, shims, ports_in, module_named, wrapped}
use Rattle.shim_step.specs.Part.{Extends}
use Rattle.shim_step.proofs.Elements.{Has, has_left, has_right, has_contains, contains_has, at_member, has_map, Apart, apart_from}
use Rattle.shim_step.specs.Wrapped.{IsWrapped}
use Rattle.shim_step.proofs.Lists.{has_some}

-- ---- the module of a name
some_same : (a b : ℕ) → Some a ≡ Some b → a ≡ b
some_same a b e = (cc)

test_cases : (b : Bool) → (b ≡ true → ⊥) → b ≡ false
test_cases true never = absurd (never refl)
test_cases false never = refl

-- the first module of a name, by its place and by search
pub record FirstNamed (ms : List (ModuleOf ℕ)) (name : Name) (m : ModuleOf ℕ) : Type 0 where
  pub found : module_named ms name ≡ Some m
  pub named : m.name ≡ name
  pub there : Has ms m

module _ (name : Name) where
  by_test : (j k : ℕ) (x m : ModuleOf ℕ) (ms : List (ModuleOf ℕ)) (b : Bool) → bytes_eq name x.name ≡ b
      → (if b then Some j else place_from (j + 1) ms name) ≡ Some (j + k) → slice_get (x ∷ ms) k ≡ Some m
      → ((i : ℕ) → place_from (j + 1) ms name ≡ Some (j + 1 + i) → slice_get ms i ≡ Some m → FirstNamed ms name m)
      → (if b then Some x else find (λ (y : ModuleOf ℕ). bytes_eq name y.name) ms) ≡ Some m × (m.name ≡ name) × Has (x ∷ ms) m
  by_test j zero x m ms true e at is later =
      let same : x ≡ m = cc in
      (ap Some same, sym (ap (λ (y : ModuleOf ℕ). y.name) same) ∙ sym ((bytes_eq-Decides name x.name).0 e), inl same)
  by_test j (suc k) x m ms true e at is later =
      let here : j ≡ j + suc k = some_same j (j + suc k) at in
      absurd (omega (arith, here))
  by_test j zero x m ms false e at is later =
      absurd (past_itself j (j + 1) ms (omega arith) (at ∙ ap Some (plus_zero j)))
    where
      plus_zero : (n : ℕ) → n + 0 ≡ n
      plus_zero n = omega arith

      past_itself : (n k : ℕ) (ys : List (ModuleOf ℕ)) → n < k → place_from k ys name ≡ Some n → ⊥
      past_itself n k [] less h = (cc)
      past_itself n k (y ∷ ys) less h = past_or n k ys (bytes_eq name y.name) less h (λ g. past_itself n (k + 1) ys (omega (arith, less)) g)
        where
          past_or : (n k : ℕ) (ys : List (ModuleOf ℕ)) (b : Bool) → n < k → (if b then Some k else place_from (k + 1) ys name) ≡ Some n
              → (place_from (k + 1) ys name ≡ Some n → ⊥) → ⊥
          past_or n k ys true less h never = (let same : k ≡ n = some_same k n h in absurd (omega (arith, same, less)))
          past_or n k ys false less h never = never h
  by_test j (suc k) x m ms false e at is later =
      let shift : j + suc k ≡ j + 1 + k = omega arith in
      let f = later k (at ∙ ap Some shift) is in
      (f.found, f.named, inr f.there)

  first_from : (j k : ℕ) (ms : List (ModuleOf ℕ)) (m : ModuleOf ℕ) → place_from j ms name ≡ Some (j + k) → slice_get ms k ≡ Some m
      → FirstNamed ms name m
  first_from j k [] m at is = absurd (cc)
  first_from j k (x ∷ ms) m at is =
      let r = by_test j k x m ms (bytes_eq name x.name) refl at is (λ i a s. first_from (j + 1) i ms m a s) in
      record { found = r.0; named = r.1; there = r.2 }

pub top_first : (file : FileOf ℕ) (name : Name) (m : ModuleOf ℕ) → IsTop file name m → FirstNamed file.modules name m
top_first file name m t = first_from name 0 t.0 file.modules m (t.1 ∙ ap Some (from_zero t.0)) t.2 where
  from_zero : (n : ℕ) → n ≡ 0 + n
  from_zero n = omega arith

-- modules of different names: one of this name
one_named : (ms : List (ModuleOf ℕ)) (x y : ModuleOf ℕ) → Apart (map module_entry ms) → Has ms x → Has ms y → x.name ≡ y.name → x ≡ y
one_named [] x y apart a b same = absurd a
one_named (z ∷ ms) x y apart (inl e) (inl f) same = sym e ∙ f
one_named (z ∷ ms) x y apart (inl e) (inr b) same =
    absurd (at_member (λ (w : Named Names). z.name ≢ w.name) (map module_entry ms) (module_entry y) apart.0 (has_map module_entry ms y b)
    (ap (λ (w : ModuleOf ℕ). w.name) e ∙ same))
one_named (z ∷ ms) x y apart (inr a) (inl f) same =
    absurd (at_member (λ (w : Named Names). z.name ≢ w.name) (map module_entry ms) (module_entry x) apart.0 (has_map module_entry ms x a)
    (ap (λ (w : ModuleOf ℕ). w.name) f ∙ sym same))
one_named (z ∷ ms) x y apart (inr a) (inr b) same = one_named ms x y apart.1 a b same

-- no name of a module stands twice
once_in : (before : List (Named Names)) (ms : List (ModuleOf ℕ)) (m : ModuleOf ℕ) → twice_modules before ms ≡ [] → Has ms m → twice_in m ≡ []
once_in before [] m none h = absurd h
once_in before (x ∷ ms) m none (inl e) =
    subst (λ (y : ModuleOf ℕ). twice_in y ≡ []) e
    (nil_left (twice_in x) (twice_modules (before ++ module_entry x ∷ []) ms) (nil_right (twice_name before x.name) _ none))
once_in before (x ∷ ms) m none (inr h) =
    once_in (before ++ module_entry x ∷ []) ms m
    (nil_right (twice_in x) (twice_modules (before ++ module_entry x ∷ []) ms) (nil_right (twice_name before x.name) _ none)) h

-- a wrapped file's modules
abbrev pub more_of : FileOf ℕ → Map → List (ModuleOf ℕ)
more_of f a = (wrapped f a).modules

module _ {f : FileOf ℕ} {a : Map} {m : ModuleOf ℕ} {d : Design} (w : IsWrapped f a m d) where
  abbrev more : List (ModuleOf ℕ)
  more = more_of f a

  first : FirstNamed f.modules a.top m
  first = top_first f a.top m w.top

  pub named : m.name ≡ a.top
  named = first.named

  modules_are : more ≡ f.modules ++ shims a m.ports
  modules_are = ap (λ o. f.modules ++ shims a (ports_in o)) first.found

  pub extends : Extends f.modules more
  extends x c = has_contains more x (has_left f.modules (shims a (ports_in (module_named f.modules a.top))) x (contains_has f.modules x c))

  pub design_there : Has more m
  design_there = has_left f.modules (shims a (ports_in (module_named f.modules a.top))) m first.there

  shim_there : (x : ModuleOf ℕ) → Has (shims a m.ports) x → Has more x
  shim_there x h = subst (λ ms. Has ms x) (sym modules_are) (has_right f.modules (shims a m.ports) x h)

  abbrev of_channels : List (ModuleOf ℕ)
  of_channels = each_some (channel_shims (length a.channels)) 0 a.channels

  pub record_there : Has more (record_top a m.ports)
  record_there = shim_there _ (has_right of_channels (record_top a m.ports ∷ replay_top a m.ports ∷ []) _ (inl refl))

  pub replay_there : Has more (replay_top a m.ports)
  replay_there = shim_there _ (has_right of_channels (record_top a m.ports ∷ replay_top a m.ports ∷ []) _ (inr (inl refl)))

  pub monitor_there : (c : ℕ) (x : Channel) → slice_get a.channels c ≡ Some x → Has more (monitor c x.widths)
  monitor_there c x at =
      shim_there _ (has_left of_channels (record_top a m.ports ∷ replay_top a m.ports ∷ []) (monitor c x.widths)
      (has_some (channel_shims (length a.channels)) 0 a.channels c x c (monitor c x.widths) (omega arith) at (inl refl)))

  pub replayer_there : (c : ℕ) (x : Channel) → slice_get a.channels c ≡ Some x → Has more (replayer (length a.channels) c x)
  replayer_there c x at =
      shim_there _ (has_left of_channels (record_top a m.ports ∷ replay_top a m.ports ∷ []) (replayer (length a.channels) c x)
      (has_some (channel_shims (length a.channels)) 0 a.channels c x c (replayer (length a.channels) c x) (omega arith) at (inr (inl refl))))

  -- names differ
  pub differ : (x : ModuleOf ℕ) → Has more x → Differ (declared x)
  differ x h = at_member (λ (y : ModuleOf ℕ). Differ (declared y)) more x (names_differ (wrapped f a) w.once) h

  pub once : (x : ModuleOf ℕ) → Has more x → twice_in x ≡ []
  unfolding twice_names
  once x h = once_in [] more x w.once h

  names_apart : Apart (map module_entry more)
  unfolding modules_of
  names_apart = apart_from (map module_entry more) (modules_differ (wrapped f a) w.once)

  -- the module that a name is
  pub top_is : (name : Name) (T x : ModuleOf ℕ) → IsTop (wrapped f a) name T → Has more x → x.name ≡ name → T ≡ x
  top_is name T x t there is =
      let first = top_first (wrapped f a) name T t in
      one_named more T x names_apart first.there there (first.named ∙ sym is)
