-- Plain modules without initialisers begin with 0 in all nets.
use Rattle.std.proofs.Common.{◌≡◌, ℕ, Bool, true, false, ◌&&◌, if◌then◌else◌, nat_lt, List, [], ◌∷◌, ◌++◌}
use Rattle.std.proofs.Common.{None, Some, refl, sym, ap, ◌∙◌, subst, slice_get}
use Rattle.std.specs.Int.{bit_at}
use Rattle.std.specs.List.{AllByRecursion, flat_map}
use Rattle.std.proofs.lemmas.Nat.Bits.{same_from_bits, bit_at-zero}
use Rattle.vlog_tree.specs.Tree.{Reg1Of, PortOf, ItemOf, WiresItem, DrivenWiresItem, RegsItem, LocalparamsItem}
use Rattle.vlog_tree.specs.Tree.{AssignItem, AlwaysItem, InstanceItem, ModuleOf}
use Rattle.flat_parts.specs.vlog_size.declared.scope.Param.{Param}
use Rattle.flat_parts.specs.vlog_size.declared.scope.Scope.{Scope}
use Rattle.flat_parts.specs.vlog_size.Names.{Readable}
use Rattle.flat_parts.specs.vlog_size.Size.{or_zero}
use Rattle.flat_parts.specs.vlog_size.Table.{Named, value_of}
use Rattle.flat_parts.specs.vlog_scope.Scope.{scope_with, after_item}
use Rattle.flat_parts.specs.vlog_driver.Placed.{Placed, placed, placed_items, names_at}
use Rattle.flat_parts.specs.vlog_driver.Settled.{is_held}
use Rattle.flat_parts.specs.vlog_driver.Next.{port_initials, reg_initials, item_initials, initials, initial_number}
use Rattle.shim_step.specs.Plain.{nets_of, HasNoInit, HasNoInits}
use Rattle.shim_step.specs.Nets.{NetsBegin}
use Rattle.shim_step.proofs.Elements.{Found, found, contains_has}
use Rattle.shim_step.proofs.Standing.{plain_nets_differ, plain_scope}

no_port_init : (r : Readable) (s : Scope) (ps : List (PortOf ℕ)) → AllByRecursion (λ (p : PortOf ℕ). p.init ≡ None) ps
    → flat_map (λ (p : PortOf ℕ). port_initials r s p.id p.init) ps ≡ []
no_port_init r s [] h = refl
no_port_init r s (p ∷ ps) h =
    ap (λ o. port_initials r s p.id o ++ flat_map (λ (q : PortOf ℕ). port_initials r s q.id q.init) ps) h.0 ∙ no_port_init r s ps h.1

no_reg_init : (r : Readable) (s : Scope) (gs : List (Reg1Of ℕ)) → AllByRecursion (λ (g : Reg1Of ℕ). g.tail ≡ None) gs
    → flat_map (λ (g : Reg1Of ℕ). reg_initials r s g.id g.tail) gs ≡ []
no_reg_init r s [] h = refl
no_reg_init r s (g ∷ gs) h =
    ap (λ o. reg_initials r s g.id o ++ flat_map (λ (q : Reg1Of ℕ). reg_initials r s q.id q.tail) gs) h.0 ∙ no_reg_init r s gs h.1

no_item_init : (r : Readable) (s : Scope) (i : ItemOf ℕ) → HasNoInit i → item_initials r s i ≡ []
no_item_init r s (WiresItem range ids) h = refl
no_item_init r s (DrivenWiresItem range ws) h = refl
no_item_init r s (RegsItem range gs) h = no_reg_init r s gs h
no_item_init r s (LocalparamsItem range vs) h = refl
no_item_init r s (AssignItem assigns) h = refl
no_item_init r s (AlwaysItem a) h = refl
no_item_init r s (InstanceItem i) h = refl

no_items_init : (s : Scope) (params : List (Named Param)) (k : ℕ) (is : List (ItemOf ℕ)) → AllByRecursion HasNoInit is
    → flat_map (λ (p : Placed). item_initials (names_at s p.declared) s p.item) (placed params k is) ≡ []
no_items_init s params k [] h = refl
no_items_init s params k (i ∷ is) h =
    ap (λ xs. xs ++ flat_map (λ (p : Placed). item_initials (names_at s p.declared) s p.item) (placed params (after_item params k i) is))
    (no_item_init (names_at s k) s i h.0)
    ∙ no_items_init s params (after_item params k i) is h.1

no_initials : (m : ModuleOf ℕ) (s : Scope) → HasNoInits m → initials m s ≡ []
no_initials m s h =
    ap (λ xs. xs ++ flat_map (λ (p : Placed). item_initials (names_at s p.declared) s p.item) (placed_items m s))
    (no_port_init (names_at s s.declared) s m.ports h.ports)
    ∙ no_items_init s s.params s.declared m.items h.items

zero_if : (b : Bool) (k : ℕ) → (if b then bit_at 0 k else 0) ≡ 0
zero_if true k = bit_at-zero k
zero_if false k = refl

pub nets_begin : NetsBegin
nets_begin file top s begins path m plain none at n there =
    let f : Found (nets_of m) n = found (nets_of m) n (plain_nets_differ m plain) (contains_has (nets_of m) n there) in
    let c : Scope = scope_with [] m in
    let here : slice_get c.nets f.place ≡ Some n =
    subst (λ (t : Scope). slice_get t.nets f.place ≡ Some n) (sym (plain_scope m plain)) f.there in
    let number : initial_number m c n.name ≡ 0 = ap (λ xs. or_zero (value_of xs n.name)) (no_initials m c none) in
    same_from_bits (s.nets (path ++ n.name ∷ [])) 0
    (λ k.
    begins.nets path m c f.place k n at here
    ∙ ap (λ y. if nat_lt k n.value.width && is_held m c n.name f.place k then bit_at y k else 0) number
    ∙ zero_if (nat_lt k n.value.width && is_held m c n.name f.place k) k
    ∙ sym (bit_at-zero k))
