-- The design settles as the file does.
use Rattle.std.proofs.Common.{◌≡◌, ℕ, ◌↔◌, List, [], ◌∷◌, ◌++◌, map, get_or, Some, refl, ap, sym, subst, ◌∙◌}
use Rattle.std.proofs.Common.{slice_get, append_assoc, true}
use Rattle.std.specs.List.{All, Contains, flat_map}
use Rattle.std.proofs.lemmas.List.{map-append}
use Rattle.std.proofs.lemmas.Option.{slice_get_within, get_or_from_slice_get}
use Rattle.vlog_elab.proofs.vidi_bits_lemmas.Each.{then_so}
use Rattle.vlog_tree.specs.Tree.{ModuleOf, FileOf}
use Rattle.vlog_elab.specs.vlog_size.declared.scope.ScopeNet.{ScopeNet}
use Rattle.vlog_elab.specs.vlog_size.declared.scope.Scope.{Scope}
use Rattle.vlog_elab.specs.vlog_size.Names.{is_lawful_scope}
use Rattle.vlog_elab.specs.vlog_size.Table.{Named}
use Rattle.vlog_elab.specs.vlog_names.Entries.{Names, no_port, port_entries}
use Rattle.vlog_elab.specs.vlog_scope.Scope.{scope_with}
use Rattle.net_design.specs.declared.design.Design.{Design}
use Rattle.net_design.specs.declared.design.Direction.TheVariants.{Input}
use Rattle.net_design.specs.declared.design.Driver.{Driver}
use Rattle.net_design.specs.declared.design.Port.{Port}
use Rattle.net_design.specs.declared.values.Values.{Values}
use Rattle.net_design.specs.Last.{IsNarrow}
use Rattle.net_design.specs.Settled.{pins_of, FitNets}
use Rattle.net_design.specs.Settled as design
use Rattle.net_design.specs.Updates.{run}
use Rattle.vlog_elab.specs.Instances.{ModuleInstance, instances}
use Rattle.vlog_elab.specs.Reasons.{Clear}
use Rattle.vlog_driver.specs.Names.{Name, Full, State}
use Rattle.vlog_driver.specs.Instances.{IsAt}
use Rattle.vlog_driver.specs.Settled.{inputs_of, IsClock}
use Rattle.vlog_driver.specs.Settled as meaning
use Rattle.vlog_driver.specs.Held.{DutiesHold}
use Rattle.vlog_driver.proofs.Held.{drivers_do}
use Rattle.flat_parts.specs.Seats.{seats_of}
use Rattle.flat_parts.specs.Nets.{port_of}
use Rattle.flat_parts.specs.Drivers.{all_duties}
use Rattle.flat_parts.specs.Built.{IsBuilt}
use Rattle.flat_parts.specs.Meaning.{values_of, state_of}
use Rattle.flat_parts.specs.Laws.{IsTop, IsListed, InstancesAreAll, PathsDiffer, FirstIsTop, numbers_of, BuiltNumbers, SeatsStand}
use Rattle.flat_parts.specs.Laws.{NetsHaveSeats, HeldAlike}
use Rattle.flat_parts.specs.Meaning.{AreNarrow}
use Rattle.flat_parts.specs.Settled.{NarrowByLaws, SettledByLaws}
use Rattle.flat_parts.proofs.SettledLists.{members, all_each, map_map}
use Rattle.flat_parts.proofs.SettledPaths.{over_instances, each_seat}
use Rattle.flat_parts.proofs.Unfound.{once_in, child_declared, lawful_scopes}
use Rattle.flat_parts.proofs.Fits.{FitAt, fit_alike, NarrowAt, memory_narrow, numbers_narrow}
use Rattle.flat_parts.proofs.Ports.{names, ports_first, pins_are, port_number, inputs_placed}
use Rattle.flat_parts.proofs.Items.{AreInstances, Stand, ItemsHold, duties_alike}
use Rattle.flat_parts.proofs.Held.{HeldAt, DesignHolds, held_alike}

top_there : (file : FileOf ℕ) (name : List ℕ) (top : ModuleOf ℕ) → IsTop file name top → Contains file.modules top
top_there file name top h =
    (h.0, slice_get_within file.modules h.0 top h.2, get_or_from_slice_get file.modules h.0 top top h.2)

-- ---- the numbers of the ports
module _ (v : Full → ℕ) (words : Full → ℕ → ℕ) (top : ModuleOf ℕ) where
  abbrev at_top : Name → ℕ
  at_top x = v (x ∷ [])

  abbrev entries : Names
  entries = port_entries no_port top.ports

  -- a list of numbers begins with those of the ports
  abbrev Begins : List ℕ → Type 0
  Begins xs = (tail : List ℕ) × (xs ≡ map at_top (names entries) ++ tail)

  instance_begins : (k : ℕ) (rest : List ModuleInstance) (more : List Name)
      → names (scope_with [] top).nets ≡ names entries ++ more
      → Begins (numbers_of v words (record { path = []; place = k; tree = top; scope = scope_with [] top } ∷ rest)).nets
  instance_begins k rest more h =
      let others : List ℕ = flat_map (λ (i : ModuleInstance). map (λ (n : Named ScopeNet). v (i.path ++ n.name ∷ [])) i.scope.nets) rest in
      let own : map (λ (n : Named ScopeNet). v (n.name ∷ [])) (scope_with [] top).nets ≡ map at_top (names entries) ++ map at_top more =
      sym (map_map at_top (λ (n : Named ScopeNet). n.name) (scope_with [] top).nets)
      ∙ ap (map at_top) h ∙ map-append at_top (names entries) more in
      (map at_top more ++ others, ap (λ xs. xs ++ others) own ∙ append_assoc (map at_top (names entries)) (map at_top more) others)

module _ (file : FileOf ℕ) (top : ModuleOf ℕ) (is : List ModuleInstance) (d : Design) (v : Full → ℕ) (s : State)
    (built : IsBuilt file.modules top is d) (begins : Begins v s.words top (values_of d v s.words).nets) where
  port_names : map (λ (p : Port). p.name) d.ports ≡ names (port_entries no_port top.ports)
  port_names =
      ap (map (λ (p : Port). p.name)) built.ports
      ∙ map_map (λ (p : Port). p.name) (port_of (scope_with [] top)) (port_entries no_port top.ports)

  -- the input pins
  inputs_same : pins_of Input d.ports (values_of d v s.words).nets ≡ map (at_top v s.words top) (inputs_of top)
  inputs_same =
      ap (λ ports. pins_of Input ports (values_of d v s.words).nets) built.ports
      ∙ ap (λ xs. pins_of Input (map (port_of (scope_with [] top)) (port_entries no_port top.ports)) xs) begins.1
      ∙ pins_are (at_top v s.words top) (scope_with [] top) (port_entries no_port top.ports) begins.0

  port_has : (k : ℕ) (x : Name) → slice_get (names (port_entries no_port top.ports)) k ≡ Some x
      → get_or (values_of d v s.words).nets k 0 ≡ v (x ∷ [])
  port_has k x h =
      ap (λ xs. get_or xs k 0) begins.1 ∙ port_number (at_top v s.words top) (names (port_entries no_port top.ports)) begins.0 k x h

  -- the clock
  clock_same : ((k : ℕ) → d.clock ≡ Some k → get_or (values_of d v s.words).nets k 0 ≡ 0)
      ↔ ((x : Name) → IsClock file.modules top x → v (x ∷ []) ≡ 0)
  clock_same = (
    (λ h x c. let p = (members (λ x. (k : ℕ) × (slice_get (names (port_entries no_port top.ports)) k ≡ Some x)) (inputs_of top)).0
        (inputs_placed (port_entries no_port top.ports)) x c.0 in
        let clock : d.clock ≡ Some p.0 = (built.clock p.0).1 (x, ap (λ xs. slice_get xs p.0) port_names ∙ p.1, c) in
        sym (port_has p.0 x p.1) ∙ h p.0 clock),
    (λ h k e. let p = (built.clock k).0 e in
        port_has k p.0 (sym (ap (λ xs. slice_get xs k) port_names) ∙ p.1) ∙ h p.0 p.2),
  )

-- ---- all of it
module _ (instances_are : InstancesAreAll) (paths_differ : PathsDiffer) (first_is_top : FirstIsTop) (built_numbers : BuiltNumbers)
    (seats_stand : SeatsStand) (have_seats : NetsHaveSeats) (held_same : HeldAlike)
    (file : FileOf ℕ) (name : List ℕ) (top : ModuleOf ℕ) (d : Design) (clear : Clear file name) (is_top : IsTop file name top)
    (built : IsBuilt file.modules top (instances file name) d) (s : State) (pins : List ℕ) (v : Full → ℕ)
    (narrow : AreNarrow file.modules top s.words) where
  abbrev is : List ModuleInstance
  is = instances file name

  abbrev At : Full → ModuleOf ℕ → Scope → Type 0
  At = IsAt file.modules top

  abbrev now : Values
  now = values_of d v s.words

  listed : (path : Full) (m : ModuleOf ℕ) (c : Scope) → IsListed is path m c ↔ At path m c
  listed = instances_are file name top clear is_top

  tree : AreInstances file.modules top is
  tree = record {
    listed = listed;
    differ = paths_differ file name clear;
    top_there = top_there file name top is_top;
    known = λ m i c there. child_declared file name clear m i c there;
  }

  numbers : (f : Full → ℕ) → values_of d f s.words ≡ numbers_of f s.words is
  numbers f = built_numbers file.modules top is d built f s.words

  stand : (f : Full → ℕ) → Stand f s.words is
  stand f x k c = seats_stand f s.words is x k c

  fits : FitNets d now.nets ↔ ((path : Full) (m : ModuleOf ℕ) (c : Scope) → At path m c → FitAt v path m c)
  fits = then_so (fit_alike v s.words is d built.nets (numbers v)) (over_instances is At listed (FitAt v))

  abbrev Held : Full → ModuleOf ℕ → Scope → Type 0
  Held path m c = HeldAt d is v s.nets s.words (stand v) (stand s.nets) (numbers v) (numbers s.nets)
      (λ x j k n there e. held_same file.modules top is d built x j k n there e) (λ m less. have_seats is m less) built.nets path m c

  abbrev HoldsState : Type 0
  HoldsState = DesignHolds d is v s.nets s.words (stand v) (stand s.nets) (numbers v) (numbers s.nets)
      (λ x j k n there e. held_same file.modules top is d built x j k n there e) (λ m less. have_seats is m less) built.nets

  held : HoldsState ↔ ((path : Full) (m : ModuleOf ℕ) (c : Scope) → At path m c → Held path m c)
  held =
      then_so (held_alike d is v s.nets s.words (stand v) (stand s.nets) (numbers v) (numbers s.nets)
      (λ x j k n there e. held_same file.modules top is d built x j k n there e) (λ m less. have_seats is m less) built.nets)
      (then_so (each_seat (λ i. Held i.path i.tree i.scope) is) (over_instances is At listed Held))

  begins : Begins v s.words top now.nets
  begins =
      let first = first_is_top file name top clear is_top in
      let more = ports_first top (once_in file name clear top (top_there file name top is_top)) in
      subst (λ (u : Values). Begins v s.words top u.nets) (sym (numbers v))
      (subst (λ js. Begins v s.words top (numbers_of v s.words js).nets) (sym first.2)
      (instance_begins v s.words top first.0 first.1 more.0 more.1))

  narrow_now : ((path : Full) (m : ModuleOf ℕ) (c : Scope) → At path m c → FitAt v path m c) → IsNarrow now
  narrow_now fit =
      subst IsNarrow (sym (numbers v))
      (numbers_narrow v s.words is
      ((over_instances is At listed (λ path m c. is_lawful_scope c ≡ true)).1 (lawful_scopes file name top clear listed))
      ((over_instances is At listed (FitAt v)).1 fit) ((over_instances is At listed (NarrowAt s.words)).1 narrow))

  abbrev Items : Full → ModuleOf ℕ → Scope → Type 0
  Items path m c = ItemsHold file.modules top is tree v s.words (stand v) path m c

  driven : IsNarrow now → All (λ (x : Driver). run x.code.acts now ≡ now) d.drivers
      ↔ ((path : Full) (m : ModuleOf ℕ) (c : Scope) → At path m c → Items path m c)
  driven small =
      then_so (all_each (λ (x : Driver). run x.code.acts now ≡ now) d.drivers)
      (then_so (drivers_do (all_duties (seats_of is)) d.drivers now built.drivers small)
      (subst (λ u. DutiesHold u (all_duties (seats_of is))
      ↔ ((path : Full) (m : ModuleOf ℕ) (c : Scope) → At path m c → Items path m c)) (sym (numbers v))
      (duties_alike file.modules top is tree v s.words (stand v))))

  settled_so : design.IsSettled d (state_of d s) pins now → meaning.IsSettled file.modules top s pins v
  settled_so h =
      let fit = fits.0 h.keeps.fit in record {
        fits = fit;
        held = λ path m c j k n there e less kept. held.0 h.keeps.state path m c there j k n e less kept;
        inputs = sym (inputs_same file top is d v s built begins) ∙ h.inputs;
        clock = (clock_same file top is d v s built begins).0 h.keeps.clock;
        items = (driven (narrow_now fit)).0 h.driven;
      }

  settled_back : meaning.IsSettled file.modules top s pins v → design.IsSettled d (state_of d s) pins now
  settled_back h = record {
    keeps = record {
      fit = fits.1 h.fits;
      clock = (clock_same file top is d v s built begins).1 h.clock;
      state = held.1 (λ path m c there j k n e less kept. h.held path m c j k n there e less kept);
      words = refl;
    };
    inputs = inputs_same file top is d v s built begins ∙ h.inputs;
    driven = (driven (narrow_now h.fits)).1 h.items;
  }

pub settled_by_laws : SettledByLaws
settled_by_laws ia pd ft bn ss hs ha file name top d clear is_top built s pins v narrow = (
  settled_so ia pd ft bn ss hs ha file name top d clear is_top built s pins v narrow,
  settled_back ia pd ft bn ss hs ha file name top d clear is_top built s pins v narrow,
)

pub narrow_by_laws : NarrowByLaws
narrow_by_laws ia file name top clear is_top words fit path m c there =
    memory_narrow words path m c (lawful_scopes file name top clear (ia file name top clear is_top) path m c there) (fit path m c there)
