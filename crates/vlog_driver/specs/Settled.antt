-- *Settled map* of a file and top (this project's profile: all settles between two clock edges).
use Rattle.std.specs.Prelude.{◌≡◌, ℕ, ◌^◌, ◌<◌, Bool, true, false, ◌&&◌, not, if◌then◌else◌, List, [], ◌∷◌, ◌++◌, map, slice_get}
use Rattle.std.specs.Prelude.{Some}
use Rattle.std.specs.Int.{bit_at}
use Rattle.std.specs.List.{Contains, AllByRecursion, list_any}
use Rattle.vlog_tree.specs.Tree.{IdentOf, EventOf, PosedgeEvent, ImplicitEvent, AlwaysOf, ConnOf, InstanceOf}
use Rattle.vlog_tree.specs.Tree.{ItemOf, AlwaysItem, ModuleOf}
use Rattle.vlog_names.specs.vlog_size.declared.scope.ScopeNet.{ScopeNet}
use Rattle.vlog_names.specs.vlog_size.declared.scope.Scope.{Scope}
use Rattle.vlog_names.specs.vlog_size.Table.{Named}
use Rattle.vlog_names.specs.vlog_size.Names.{Readable}
use Rattle.vlog_names.specs.declared.declaration.Declaration.{Declaration}
use Rattle.vlog_names.specs.declared.declaration.Declaration.TheVariants as d
use Rattle.vlog_names.specs.Entries.{Names, port_entries, no_port}
use Rattle.vlog_scope.specs.Scope.{scope_with}
use Rattle.vlog_block.specs.Written.{always_writes}
use Rattle.vlog_driver.specs.Names.{Name, Full, State}
use Rattle.vlog_names.specs.Ports.{is_output_port, has_reg}
use Rattle.vlog_driver.specs.Placed.{Placed, placed_items, names_at}
use Rattle.vlog_driver.specs.Instances.{IsChild, IsAt}
use Rattle.vlog_driver.specs.Items.{ItemHolds, read}

-- ---- the bits of regs that the state holds

-- whether a block is an `always @*` that may write bit k of net j
abbrev pub event_writes : EventOf ℕ → Readable → AlwaysOf ℕ → ℕ → ℕ → Bool
event_writes (PosedgeEvent clock) r a j k = false
event_writes (ImplicitEvent parens) r a j k = always_writes r a j k

abbrev pub item_writes : Readable → ItemOf ℕ → ℕ → ℕ → Bool
item_writes r (AlwaysItem a) j k = event_writes a.event r a j k
item_writes r _ j k = false

-- whether the net of this name, which is net j of an instance, is a reg whose bit k no `always @*` writes
abbrev pub is_held : ModuleOf ℕ → Scope → Name → ℕ → ℕ → Bool
is_held m s name j k =
    has_reg m name
    && not (list_any (λ (p : Placed). item_writes (names_at s p.declared) p.item j k) (placed_items m s))

-- ---- the pins

abbrev pub is_input : Declaration → Bool
is_input (d.Port direction shape) = not (is_output_port direction)
is_input _ = false

-- the names of the inputs among these ports
abbrev pub input_names : Names → List Name
input_names [] = []
input_names (p ∷ ps) = if is_input p.value then p.name ∷ input_names ps else input_names ps

-- the names of a module's inputs, in port order
abbrev pub inputs_of : ModuleOf ℕ → List Name
inputs_of m = input_names (port_entries no_port m.ports)

-- ---- the clock: the input of the top to which the name of a clocked block is joined, by plain names through ports

-- a connection of the port `inner` to the plain name `outer`
abbrev pub ConnJoins : Name → Name → ConnOf ℕ → Type 0
ConnJoins outer inner c = (c.id.name ≡ inner) × (line : ℕ) × (c.value ≡ Some (read (record { name = outer; line = line })))

-- from the name `outer` in an instance of module m with scope s plain names through ports lead down this path to the name `inner` of the
-- instance of module n with scope t
abbrev pub Joins : List (ModuleOf ℕ) → ModuleOf ℕ → Scope → Name → Full → ModuleOf ℕ → Scope → Name → Type 0
Joins file m s outer [] n t inner = (m ≡ n) × (s ≡ t) × (outer ≡ inner)
Joins file m s outer (x ∷ path) n t inner =
    (i : InstanceOf ℕ) × (child : ModuleOf ℕ) × (below : Scope) × (port : Name) × (i.id.name ≡ x) × IsChild file m s i child below
    × ((c : ConnOf ℕ) × Contains i.ports c × ConnJoins outer port c) × Joins file child below port path n t inner

-- a clocked block of an instance of module m with scope s waits for this name
abbrev pub Waits : ModuleOf ℕ → Scope → Name → Type 0
Waits m s name = (p : Placed) × Contains (placed_items m s) p × (a : AlwaysOf ℕ) × (id : IdentOf ℕ) × (p.item ≡ AlwaysItem a)
    × (a.event ≡ PosedgeEvent id) × (id.name ≡ name)

-- an input of the top to which the name of some clocked block is joined
abbrev pub IsClock : List (ModuleOf ℕ) → ModuleOf ℕ → Name → Type 0
IsClock file top x =
    Contains (inputs_of top) x
    × ((path : Full) × (m : ModuleOf ℕ) × (s : Scope) × (inner : Name)
    × Joins file top (scope_with [] top) x path m s inner × Waits m s inner)

-- ---- the settled map

-- v is settled for the state s and the numbers of the top's inputs in port order: its numbers fit the nets, it has what inputs and state
-- hold, the clock is 0, and the items of all instances hold
pub record IsSettled (file : List (ModuleOf ℕ)) (top : ModuleOf ℕ) (s : State) (pins : List ℕ) (v : Full → ℕ) : Type 0 where
  pub fits : (path : Full) (m : ModuleOf ℕ) (c : Scope) → IsAt file top path m c
      → AllByRecursion (λ (n : Named ScopeNet). v (path ++ n.name ∷ []) < 2 ^ n.value.width) c.nets
  pub held : (path : Full) (m : ModuleOf ℕ) (c : Scope) (j k : ℕ) (n : Named ScopeNet) → IsAt file top path m c
      → slice_get c.nets j ≡ Some n → k < n.value.width → is_held m c n.name j k ≡ true
      → bit_at (v (path ++ n.name ∷ [])) k ≡ bit_at (s.nets (path ++ n.name ∷ [])) k
  pub inputs : map (λ (x : Name). v (x ∷ [])) (inputs_of top) ≡ pins
  pub clock : (x : Name) → IsClock file top x → v (x ∷ []) ≡ 0
  pub items : (path : Full) (m : ModuleOf ℕ) (c : Scope) → IsAt file top path m c
      → AllByRecursion (ItemHolds file v s.words path c) (placed_items m c)
