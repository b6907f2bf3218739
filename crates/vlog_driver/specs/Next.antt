-- *Next state* and the initial state of a file and top (IEEE 1364-2005, 9.2.2 nonblocking assignments, 9.9.2, 4.2.2 initialisers; memories
-- and registers without initialiser begin at 0, this project's profile).
use Rattle.std.specs.Prelude.{◌≡◌, ℕ, nat_lt, ◌&&◌, if◌then◌else◌, List, [], ◌∷◌, ◌++◌, slice_get, replicate, Option, None, Some}
use Rattle.std.specs.Int.{bit_at}
use Rattle.std.specs.List.{flat_map}
use Rattle.vlog_tree.specs.Tree.{IdentOf, ExprOf, RegTailOf, InitTail, MemoryTail, Reg1Of, PortOf, EventOf, PosedgeEvent, ImplicitEvent}
use Rattle.vlog_tree.specs.Tree.{AlwaysOf, ItemOf, RegsItem, AlwaysItem, ModuleOf}
use Rattle.vlog_names.specs.vlog_size.declared.scope.ScopeNet.{ScopeNet}
use Rattle.vlog_names.specs.vlog_size.declared.scope.Scope.{Scope}
use Rattle.vlog_names.specs.vlog_size.Table.{Named, value_of}
use Rattle.vlog_names.specs.vlog_size.Names.{Readable}
use Rattle.vlog_names.specs.vlog_size.Size.{or_zero, assigned_number}
use Rattle.vlog_scope.specs.Extents.{constant_sizes}
use Rattle.vlog_scope.specs.Scope.{words_of}
use Rattle.net_design.specs.declared.values.Update.{Update}
use Rattle.net_design.specs.declared.values.Values.{Values}
use Rattle.net_design.specs.Updates.{apply}
use Rattle.vlog_block.specs.Updates.{always_updates}
use Rattle.vlog_driver.specs.Names.{Name, Full, State, numbers_at}
use Rattle.vlog_driver.specs.Placed.{Placed, placed_items, names_at}
use Rattle.vlog_driver.specs.Instances.{IsAt}
use Rattle.vlog_driver.specs.Settled.{is_held}

-- ---- the next state

-- the updates of an item that is a clocked block, all of whose reads see v
abbrev pub event_updates : EventOf ℕ → Readable → AlwaysOf ℕ → Values → List Update
event_updates (PosedgeEvent clock) r a v = always_updates r a v
event_updates (ImplicitEvent parens) r a v = []

abbrev pub item_updates : Readable → ItemOf ℕ → Values → List Update
item_updates r (AlwaysItem a) v = event_updates a.event r a v
item_updates r _ v = []

-- the updates of all clocked blocks of an instance, in text order
abbrev pub clocked_updates : ModuleOf ℕ → Scope → Values → List Update
clocked_updates m s v = flat_map (λ (p : Placed). item_updates (names_at s p.declared) p.item v) (placed_items m s)

-- `after` is the next state of s, where v is the map settled for it: in each instance, s after the updates of its clocked blocks at v
pub record IsNext (file : List (ModuleOf ℕ)) (top : ModuleOf ℕ) (s : State) (v : Full → ℕ) (after : State) : Type 0 where
  pub instances : (path : Full) (m : ModuleOf ℕ) (c : Scope) → IsAt file top path m c
      → numbers_at after.nets after.words path c
      ≡ apply (clocked_updates m c (numbers_at v s.words path c)) (numbers_at s.nets s.words path c)

-- ---- the initial state

-- the width of a net that is there
abbrev pub net_width : Option ScopeNet → ℕ
net_width None = 0
net_width (Some n) = n.width

-- the number that an initialiser gives to its register, as by assignment
abbrev pub initial_at : Readable → Scope → IdentOf ℕ → ExprOf ℕ → Named ℕ
initial_at r s id e =
    record { name = id.name; value = or_zero (assigned_number (net_width (value_of s.nets id.name)) (constant_sizes r e)) }

abbrev pub port_initials : Readable → Scope → IdentOf ℕ → Option (ExprOf ℕ) → List (Named ℕ)
port_initials r s id None = []
port_initials r s id (Some e) = initial_at r s id e ∷ []

abbrev pub reg_initials : Readable → Scope → IdentOf ℕ → Option (RegTailOf ℕ) → List (Named ℕ)
reg_initials r s id None = []
reg_initials r s id (Some (InitTail e)) = initial_at r s id e ∷ []
reg_initials r s id (Some (MemoryTail range)) = []

abbrev pub item_initials : Readable → Scope → ItemOf ℕ → List (Named ℕ)
item_initials r s (RegsItem range regs) = flat_map (λ (g : Reg1Of ℕ). reg_initials r s g.id g.tail) regs
item_initials r s _ = []

-- the initialisers of an instance's registers, by name
abbrev pub initials : ModuleOf ℕ → Scope → List (Named ℕ)
initials m s =
    flat_map (λ (p : PortOf ℕ). port_initials (names_at s s.declared) s p.id p.init) m.ports
    ++ flat_map (λ (p : Placed). item_initials (names_at s p.declared) s p.item) (placed_items m s)

-- a register's initialiser, else 0
abbrev pub initial_number : ModuleOf ℕ → Scope → Name → ℕ
initial_number m s name = or_zero (value_of (initials m s) name)

-- s has the initialisers in the bits that the state holds, and 0 elsewhere
pub record IsInitial (file : List (ModuleOf ℕ)) (top : ModuleOf ℕ) (s : State) : Type 0 where
  pub nets : (path : Full) (m : ModuleOf ℕ) (c : Scope) (j k : ℕ) (n : Named ScopeNet) → IsAt file top path m c
      → slice_get c.nets j ≡ Some n
      → bit_at (s.nets (path ++ n.name ∷ [])) k
      ≡ (if nat_lt k n.value.width && is_held m c n.name j k then bit_at (initial_number m c n.name) k else 0)
  pub words : (path : Full) (m : ModuleOf ℕ) (c : Scope) → IsAt file top path m c
      → (numbers_at s.nets s.words path c).words ≡ replicate (words_of c.memories) 0
