-- The part of a map below an instance.
use Rattle.std.proofs.Common.{◌≡◌, ℕ, List, [], ◌∷◌, refl}
use Rattle.std.specs.List.{AllByRecursion}
use Rattle.vlog_tree.specs.Tree.{InstanceOf, ModuleOf, ItemOf, WiresItem, DrivenWiresItem, RegsItem, LocalparamsItem, AssignItem}
use Rattle.vlog_tree.specs.Tree.{AlwaysItem, InstanceItem}
use Rattle.flat_parts.specs.vlog_size.declared.scope.Scope.{Scope}
use Rattle.flat_parts.specs.vlog_scope.Scope.{scope_with}
use Rattle.flat_parts.specs.vlog_driver.Names.{Name, Full, State}
use Rattle.flat_parts.specs.vlog_driver.Placed.{Placed, placed_items}
use Rattle.flat_parts.specs.vlog_driver.Instances.{IsChild, Leads, IsAt}
use Rattle.flat_parts.specs.vlog_driver.Items.{HoldsAt, ItemHolds}
use Rattle.flat_parts.specs.vlog_driver.Settled.{IsSettled, IsClock}
use Rattle.flat_parts.specs.vlog_driver.Next.{IsNext, IsInitial}
use Rattle.shim_step.specs.Part.{under, part, pins_below, Extends, HasPart, PartIsSettled, PartIsNext, PartIsInitial}

module _ (file more : List (ModuleOf ℕ)) (keep : Extends file more) where
  child_more : (m : ModuleOf ℕ) (s : Scope) (i : InstanceOf ℕ) (n : ModuleOf ℕ) (t : Scope) → IsChild file m s i n t → IsChild more m s i n t
  child_more m s i n t c = record {
    declared = c.declared;
    stands = c.stands;
    in_file = keep n c.in_file;
    named = c.named;
    scope = c.scope;
  }

  leads_more : (path : Full) (m : ModuleOf ℕ) (s : Scope) (n : ModuleOf ℕ) (t : Scope) → Leads file m s path n t → Leads more m s path n t
  leads_more [] m s n t l = l
  leads_more (x ∷ path) m s n t l =
      (l.0, l.1, l.2, l.3, child_more m s l.0 l.1 l.2 l.4, leads_more path l.1 l.2 n t l.5)

  module _ (nets : Full → ℕ) (words : Full → ℕ → ℕ) (x : Name) (path : Full) (s : Scope) where
    holds_part : (k : ℕ) (item : ItemOf ℕ) → HoldsAt more nets words (x ∷ path) s k item
        → HoldsAt file (under x nets) (under x words) path s k item
    holds_part k (WiresItem range ids) h = h
    holds_part k (DrivenWiresItem range ws) h = h
    holds_part k (RegsItem range gs) h = h
    holds_part k (LocalparamsItem range vs) h = h
    holds_part k (AssignItem assigns) h = h
    holds_part k (AlwaysItem a) h = h
    holds_part k (InstanceItem i) h = λ child there. h child (keep child there)

    all_part : (ps : List Placed) → AllByRecursion (ItemHolds more nets words (x ∷ path) s) ps
        → AllByRecursion (ItemHolds file (under x nets) (under x words) path s) ps
    all_part [] h = tt
    all_part (p ∷ ps) h = (holds_part p.declared p.item h.0, all_part ps h.1)

  module _ (top m : ModuleOf ℕ) (x : Name) (has : HasPart more top x m) where
    pub at_part : (path : Full) (n : ModuleOf ℕ) (c : Scope) → IsAt file m path n c → IsAt more top (x ∷ path) n c
    at_part path n c a =
        (has.instance, m, scope_with [] m, has.named, has.child, leads_more path m (scope_with [] m) n c a)

    settled : (s : State) (pins : List ℕ) (v : Full → ℕ) → IsSettled more top s pins v
        → ((n : Name) → IsClock file m n → v (x ∷ n ∷ []) ≡ 0)
        → IsSettled file m (part x s) (pins_below m x v) (under x v)
    settled s pins v h low = record {
      fits = λ path n c a. h.fits (x ∷ path) n c (at_part path n c a);
      held = λ path n c j k net a. h.held (x ∷ path) n c j k net (at_part path n c a);
      inputs = refl;
      clock = low;
      items = λ path n c a. all_part v s.words x path c (placed_items n c) (h.items (x ∷ path) n c (at_part path n c a));
    }

    next : (s after : State) (v : Full → ℕ) → IsNext more top s v after → IsNext file m (part x s) (under x v) (part x after)
    next s after v h = record { instances = λ path n c a. h.instances (x ∷ path) n c (at_part path n c a) }

    initial : (s : State) → IsInitial more top s → IsInitial file m (part x s)
    initial s h = record {
      nets = λ path n c j k net a. h.nets (x ∷ path) n c j k net (at_part path n c a);
      words = λ path n c a. h.words (x ∷ path) n c (at_part path n c a);
    }

pub part_is_settled : PartIsSettled
part_is_settled file more top m x p = settled file more p.extends top m x p.has

pub part_is_next : PartIsNext
part_is_next file more top m x p = next file more p.extends top m x p.has

pub part_is_initial : PartIsInitial
part_is_initial file more top m x p = initial file more p.extends top m x p.has
