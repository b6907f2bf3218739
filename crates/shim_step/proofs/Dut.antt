-- The design below a top: its ports have the numbers of the nets that they are joined to.
use Rattle.std.proofs.Common.{◌≡◌, ℕ, zero, suc, ◌<◌, ◌^◌, List, [], ◌∷◌, map, Some, refl, ap, ◌∙◌, subst, inl, inr}
use Rattle.std.proofs.Common.{slice_get}
use Rattle.std.specs.Prelude.{option_map}
use Rattle.std.specs.List.{AllByRecursion, Contains}
use Rattle.vlog_tree.specs.Tree.{PortOf, ConnOf, ModuleOf}
use Rattle.shim_trees.specs.vlog_size.declared.scope.ScopeNet.{ScopeNet}
use Rattle.shim_trees.specs.vlog_size.declared.scope.Scope.{Scope}
use Rattle.shim_trees.specs.vlog_size.Table.{Named, value_of}
use Rattle.flat_parts.specs.vlog_names.declared.declaration.Declaration.{Declaration}
use Rattle.flat_parts.specs.vlog_names.Entries.{no_port, port_as, port_entries, declared}
use Rattle.flat_parts.specs.vlog_names.Twice.{twice_in}
use Rattle.flat_parts.specs.vlog_scope.Scope.{scope_with}
use Rattle.net_design.specs.declared.design.Port.{Port}
use Rattle.flat_parts.specs.vlog_driver.Names.{Full, State, numbers_at}
use Rattle.flat_parts.specs.vlog_driver.Placed.{names_at}
use Rattle.flat_parts.specs.vlog_driver.Instances.{IsAt}
use Rattle.flat_parts.specs.vlog_driver.Settled.{IsSettled}
use Rattle.flat_parts.specs.vlog_driver.Next.{net_width}
use Rattle.flat_parts.specs.Nets.{flat_ports, port_of}
use Rattle.flat_parts.proofs.Ports.{ports_first}
use Rattle.shim_trees.specs.Pieces.{Name, ident, net, conn}
use Rattle.shim_trees.specs.Links.{dut, dut_conn}
use Rattle.shim_step.specs.Plain.{IsPlain}
use Rattle.shim_step.specs.Part.{HasPart}
use Rattle.shim_step.proofs.Elements.{Has, has_map, mapped, Apart}
use Rattle.shim_step.proofs.PortNets.{port_net}
use Rattle.shim_step.proofs.Whole.{nets_are_joined}
use Rattle.shim_step.specs.Wrapped.{DUT}
use Rattle.shim_step.proofs.Stand.{HasNet, at_top, R, V, I, child_of, is_at, conns_hold, joint, is_net}

-- the number of a port of the design
abbrev pub at_dut : (Full → ℕ) → Name → ℕ
at_dut v x = v (DUT ∷ x ∷ [])

-- the port of an entry
pub record Behind (ps : List (PortOf ℕ)) (name : Name) : Type 0 where
  pub p : PortOf ℕ
  pub there : Has ps p
  pub named : p.id.name ≡ name

pub behind : (was : Declaration) (ps : List (PortOf ℕ)) (k : ℕ) (e : Named Declaration) → slice_get (port_entries was ps) k ≡ Some e
    → Behind ps e.name
behind was [] k e at = absurd (cc)
behind was (p ∷ ps) zero e at =
    let here : record { name = p.id.name; value = port_as was p.head } ≡ e = cc in
    record { p = p; there = inl refl; named = ap (λ (y : Named Declaration). y.name) here }
behind was (p ∷ ps) (suc k) e at =
    let b = behind (port_as was p.head) ps k e at in
    record { p = b.p; there = inr b.there; named = b.named }

-- a top in which the design is joined by these links
pub record HasDut (more : List (ModuleOf ℕ)) (top m : ModuleOf ℕ) (ls : List (Named Name)) : Type 0 where
  pub plain : IsPlain top
  pub stands : Has top.items (dut ls m.name m.ports)
  pub design : Contains more m
  pub own : Apart (declared m)
  pub once : twice_in m ≡ []

pub dut_part : {more : List (ModuleOf ℕ)} {T m : ModuleOf ℕ} {ls : List (Named Name)} → HasDut more T m ls → HasPart more T DUT m
dut_part {m = m} {ls = ls} h = record {
  instance = I m.name DUT (map (dut_conn ls) m.ports);
  named = refl;
  child = child_of h.plain m.name DUT (map (dut_conn ls) m.ports) h.stands m h.design refl;
}

module _ {more : List (ModuleOf ℕ)} {T m : ModuleOf ℕ} {ls : List (Named Name)} (h : HasDut more T m ls) {s : State} {pins : List ℕ}
    {v : Full → ℕ} (settled : IsSettled more T s pins v) where
  abbrev conns : List (ConnOf ℕ)
  conns = map (dut_conn ls) m.ports

  abbrev S : Scope
  S = scope_with [] m

  pub dut_at : IsAt more T (DUT ∷ []) m (scope_with [] m)
  dut_at = is_at settled h.plain m.name DUT conns h.stands m h.design refl

  fits_dut : AllByRecursion (λ (z : Named ScopeNet). v (DUT ∷ z.name ∷ []) < 2 ^ z.value.width) (scope_with [] m).nets
  fits_dut = settled.fits (DUT ∷ []) m (scope_with [] m) dut_at

  abbrev W : Named Declaration → ℕ
  W e = net_width (value_of S.nets e.name)

  there : (k : ℕ) (e : Named Declaration) → slice_get (port_entries no_port m.ports) k ≡ Some e → (y : Name) → value_of ls e.name ≡ Some y
      → Has conns (conn e.name y)
  there k e at y joined =
      let b = behind no_port m.ports k e at in
      let named : dut_conn ls b.p ≡ conn e.name y =
      ap (λ (x : Name). record { line = 0; id = ident x; value = option_map net (value_of ls x) }) b.named
      ∙ ap (λ o. record { line = 0; id = ident e.name; value = option_map net o }) joined in
      subst (λ c. Has conns c) named (has_map (dut_conn ls) m.ports b.p b.there)

  entry_joined : (k : ℕ) (e : Named Declaration) → slice_get (port_entries no_port m.ports) k ≡ Some e → (y : Name)
      → value_of ls e.name ≡ Some y → HasNet T y (W e) → at_dut v e.name ≡ v (y ∷ [])
  entry_joined k e at y joined is =
      let first = ports_first m h.once in
      nets_are_joined m (R (at_top settled h.plain)) (V (at_top settled h.plain)) (names_at S S.declared) (numbers_at v s.words (DUT ∷ []) S)
      (I m.name DUT conns)
      (conns_hold settled h.plain m.name DUT conns h.stands m h.design refl)
      e.name y (W e) (at_dut v e.name) (v (y ∷ []))
      (joint settled h.plain m.name DUT conns h.stands m h.design refl e.name y (there k e at y joined))
      (port_net m h.own v s.words (DUT ∷ []) fits_dut first.0 first.1 k e at is.1)
      (is_net (at_top settled h.plain) y (W e) is)

  pub port_joined : (k : ℕ) (p : Port) → slice_get (flat_ports m (scope_with [] m)) k ≡ Some p → (y : Name) → value_of ls p.name ≡ Some y
      → HasNet T y p.width → at_dut v p.name ≡ v (y ∷ [])
  port_joined k p at y joined is =
      let e = mapped (port_of S) (port_entries no_port m.ports) k p at in
      subst (λ (q : Port). value_of ls q.name ≡ Some y → HasNet T y q.width → at_dut v q.name ≡ v (y ∷ [])) e.is
      (λ g w. entry_joined k e.x e.at y g w) joined is
