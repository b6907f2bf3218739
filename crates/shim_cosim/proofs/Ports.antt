-- The ports of a top whose ports all have heads: the flat design's inputs and outputs by place, with their names.
use Rattle.std.proofs.Common.{◌≡◌, ℕ, List, [], ◌∷◌, ◌++◌, map, Option, Some, None, inl, inr, refl, sym, ap, ◌∙◌, subst}
use Rattle.std.specs.List.{AllByRecursion}
use Rattle.std.proofs.lemmas.List.{map-append}
use Rattle.net_sim.specs.vidi_bits.Number.{IsWidth}
use Rattle.vlog_tree.specs.declared.module.Direction.{Direction as TreeDirection}
use Rattle.vlog_tree.specs.declared.module.Direction.TheVariants as tree
use Rattle.vlog_tree.specs.Tree.{PortHeadOf, PortOf, ModuleOf}
use Rattle.vlog_design.specs.vlog_size.declared.scope.Scope.{Scope}
use Rattle.vlog_design.specs.vlog_size.Table.{value_of}
use Rattle.vlog_design.specs.vlog_names.declared.declaration.Declaration.{Declaration}
use Rattle.vlog_design.specs.vlog_names.Entries.{entry, port_as, no_port, port_entries}
use Rattle.shim_step.specs.vlog_scope.Extents.{net_width}
use Rattle.shim_step.specs.vlog_scope.Scope.{scope_with}
use Rattle.shim_step.specs.vlog_driver.Names.{Name, Full}
use Rattle.shim_step.specs.vlog_driver.Next as next
use Rattle.net_design.specs.declared.design.Direction.{Direction}
use Rattle.net_design.specs.declared.design.Direction.TheVariants.{Input, Output}
use Rattle.net_design.specs.declared.design.Net.{Net}
use Rattle.net_design.specs.declared.design.Port.{Port}
use Rattle.net_design.specs.declared.design.Design.{Design}
use Rattle.net_design.specs.Lawful.{IsLawful}
use Rattle.net_design.specs.Names.{list_at, paths}
use Rattle.net_design.specs.Settled.{pins_of}
use Rattle.vlog_design.specs.flat_parts.Meaning.{values_of}
use Rattle.vlog_design.specs.flat_parts.Nets.{port_of, flat_ports}
use Rattle.shim_gen.specs.shim_trees.Pieces.{range_of}
use Rattle.shim_step.specs.Plain.{net_named, extent, nets_of, IsPlain}
use Rattle.shim_step.proofs.Elements.{Has, found}
use Rattle.shim_step.proofs.Standing.{port_net, plain_nets_differ, plain_scope}
use Rattle.shim_step.proofs.Texts.{range_width}
use Rattle.shim_cosim.proofs.Zips.{ways_of, ways_append, first_path, named_from}

-- ---- the flat port of a port with a head
abbrev pub flat_way : TreeDirection → Direction
flat_way (tree.Input wire) = Input
flat_way (tree.Output kind) = Output

abbrev pub flat_head : Name → Option (PortHeadOf ℕ) → Port
flat_head x None = record { name = x; direction = Input; width = 1 }
flat_head x (Some h) = record { name = x; direction = flat_way h.direction; width = net_width (extent h.range) }

abbrev pub flat : PortOf ℕ → Port
flat p = flat_head p.id.name p.head

abbrev pub IsHeaded : PortOf ℕ → Type 0
IsHeaded p = (h : PortHeadOf ℕ) × (p.head ≡ Some h)

-- the flat ports of one direction among these ports
abbrev pub side : Direction → List (PortOf ℕ) → List Port
side way ps = ways_of way (map flat ps)

pub side_append : (way : Direction) (xs ys : List (PortOf ℕ)) → side way (xs ++ ys) ≡ side way xs ++ side way ys
side_append way xs ys = ap (ways_of way) (map-append flat xs ys) ∙ ways_append way (map flat xs) (map flat ys)

-- a generated port has the width that was asked
pub flat_width : (w : ℕ) → IsWidth w → net_width (extent (range_of w)) ≡ w
flat_width w is = range_width w is

module _ (T : ModuleOf ℕ) (plain : IsPlain T) where
  way_is : (direction : TreeDirection) (x : Name) (h : PortHeadOf ℕ) → h.direction ≡ direction
      → (port_of (scope_with [] T) (entry x (port_as no_port (Some h)))).direction ≡ flat_way h.direction
  way_is (tree.Input wire) x h e = rw e refl
  way_is (tree.Output kind) x h e = rw e refl

  width_is : (p : PortOf ℕ) (h : PortHeadOf ℕ) → Has T.ports p → p.head ≡ Some h
      → next.net_width (value_of (scope_with [] T).nets p.id.name) ≡ net_width (extent h.range)
  width_is p h there headed =
      ap (λ (s : Scope). next.net_width (value_of s.nets p.id.name)) (plain_scope T plain)
      ∙ ap next.net_width
      (found (nets_of T) (net_named p.id.name (extent h.range)) (plain_nets_differ T plain) (port_net T p h there headed)).value

  one_is : (was : Declaration) (p : PortOf ℕ) (h : PortHeadOf ℕ) → Has T.ports p → (o : Option (PortHeadOf ℕ)) → p.head ≡ Some h → o ≡ Some h
      → port_of (scope_with [] T) (entry p.id.name (port_as was o)) ≡ flat_head p.id.name o
  one_is was p h there o headed e =
      subst (λ z. port_of (scope_with [] T) (entry p.id.name (port_as was z)) ≡ flat_head p.id.name z) (sym e)
      (λ i. record {
        name = p.id.name;
        direction = way_is h.direction p.id.name h refl i;
        width = width_is p h there headed i;
      })

  ports_from : (was : Declaration) (ps : List (PortOf ℕ)) → ((p : PortOf ℕ) → Has ps p → Has T.ports p) → AllByRecursion IsHeaded ps
      → map (port_of (scope_with [] T)) (port_entries was ps) ≡ map flat ps
  ports_from was [] all headed = refl
  ports_from was (p ∷ ps) all headed =
      ap (λ q. q ∷ map (port_of (scope_with [] T)) (port_entries (port_as was p.head) ps))
      (one_is was p headed.0.0 (all p (inl refl)) p.head headed.0.1 headed.0.1)
      ∙ ap (λ qs. flat p ∷ qs) (ports_from (port_as was p.head) ps (λ q h. all q (inr h)) headed.1)

  pub flat_ports_are : AllByRecursion IsHeaded T.ports → flat_ports T (scope_with [] T) ≡ map flat T.ports
  flat_ports_are headed = ports_from no_port T.ports (λ p h. h) headed

pub pins_named : (d : Design) → IsLawful d → (v : Full → ℕ) (words : Full → ℕ → ℕ) (way : Direction)
    → pins_of way d.ports (values_of d v words).nets ≡ map (λ (p : Port). v (p.name ∷ [])) (ways_of way d.ports)
pins_named d law v words way =
    named_from way v (λ (n : Net). list_at (paths d.instances) n.instance ++ n.name ∷ []) d.ports d.nets law.ports
    (λ k p n a b.
    (let is = law.port_nets k p n a b in
    ap (λ i. list_at (paths d.instances) i ++ n.name ∷ []) is.2
    ∙ ap (λ path. path ++ n.name ∷ []) (first_path d.instances) ∙ ap (λ x. x ∷ []) is.0))
