-- *A net by its name*: a name that is a net of an instance, with its number; what reading, assigning and joining whole nets asks.
use Rattle.std.specs.Prelude.{◌≡◌, ℕ, ◌<◌, ◌≤◌, ◌^◌, ◌%◌, max, true, List, [], ◌∷◌, ◌++◌, length, slice_index, None, Some}
use Rattle.std.specs.List.{Contains, AllByRecursion}
use Rattle.vlog_tree.specs.Tree.{IdentOf, ExprOf, ConnOf, InstanceOf, ModuleOf}
use Rattle.flat_parts.specs.vlog_size.declared.scope.ScopeNet.{ScopeNet}
use Rattle.flat_parts.specs.vlog_size.Names.{Readable}
use Rattle.flat_parts.specs.vlog_size.Table.{Named, value_of, place_of}
use Rattle.flat_parts.specs.vlog_names.Ports.{has_reg}
use Rattle.flat_parts.specs.vlog_scope.Scope.{scope_with}
use Rattle.net_design.specs.declared.values.Values.{Values}
use Rattle.flat_parts.specs.vlog_block.Value.{value, width_of}
use Rattle.flat_parts.specs.vlog_driver.Names.{Full, State, numbers_at}
use Rattle.flat_parts.specs.vlog_driver.Placed.{names_at}
use Rattle.flat_parts.specs.vlog_driver.Instances.{IsAt}
use Rattle.flat_parts.specs.vlog_driver.Items.{IsAssigned, ConnsHold, whole, read}
use Rattle.flat_parts.specs.vlog_driver.Settled.{IsSettled}
use Rattle.flat_parts.specs.vlog_driver.Next.{IsInitial}
use Rattle.shim_step.specs.Plain.{nets_of, IsPlain, IsClockedItem, HasNoInits}

-- the name is a net of w bits that has the number x in v
pub record IsNet (r : Readable) (v : Values) (name : List ℕ) (w x : ℕ) : Type 0 where
  pub no_param : value_of r.params name ≡ None
  pub width : value_of r.nets name ≡ Some (record { width = w })
  pub place : ℕ
  pub placed : place_of r.nets name ≡ Some place
  pub there : place < length v.nets
  pub number : slice_index v.nets place ≡ x
  pub fits : x < 2 ^ w
  pub lawful : w ≤ 128

-- read whole, it has its width and its number, whatever the width that is asked
abbrev pub NetIsRead : Type 0
NetIsRead = (r : Readable) (v : Values) (id : IdentOf ℕ) (w x : ℕ) → IsNet r v id.name w x
    → (width_of r (read id) ≡ w) × ((m : ℕ) → value r v (read id) m ≡ x)

-- where it is assigned to whole, it has the expression's value at the larger of both widths (5.4.1), cut to its own
abbrev pub NetIsAssigned : Type 0
NetIsAssigned = (r : Readable) (v : Values) (id : IdentOf ℕ) (w x : ℕ) → IsNet r v id.name w x
    → (q : Readable) (u : Values) (e : ExprOf ℕ) → IsAssigned r v (whole id) q u e
    → x ≡ value q u e (max w (width_of q e)) % 2 ^ w

-- a connection of the port `inner` to the plain name `outer`
pub record IsJoint (i : InstanceOf ℕ) (inner outer : List ℕ) : Type 0 where
  pub conn : ConnOf ℕ
  pub there : Contains i.ports conn
  pub port : conn.id.name ≡ inner
  pub line : ℕ
  pub value : conn.value ≡ Some (read (record { name = outer; line = line }))

-- where a child's port is joined to a net of its parent of the same width, they have the same number
abbrev pub NetsAreJoined : Type 0
NetsAreJoined = (child : ModuleOf ℕ) (r : Readable) (v : Values) (q : Readable) (u : Values) (i : InstanceOf ℕ) → ConnsHold child r v q u i
    → (inner outer : List ℕ) (w n m : ℕ) → IsJoint i inner outer → IsNet q u inner w n → IsNet r v outer w m → n ≡ m

-- ---- instances of plain modules

-- in an instance of a plain module at this path each net is one by its name, in a settled map
abbrev pub NetsStand : Type 0
NetsStand = (file : List (ModuleOf ℕ)) (top : ModuleOf ℕ) (s : State) (pins : List ℕ) (v : Full → ℕ) → IsSettled file top s pins v
    → (path : Full) (m : ModuleOf ℕ) → IsPlain m → IsAt file top path m (scope_with [] m)
    → (n : Named ScopeNet) → Contains (nets_of m) n → n.value.width ≤ 128
    → IsNet (names_at (scope_with [] m) 0) (numbers_at v s.words path (scope_with [] m)) n.name n.value.width (v (path ++ n.name ∷ []))

-- without `always @*` a reg of it has all its bits from the state
abbrev pub RegsAreHeld : Type 0
RegsAreHeld = (file : List (ModuleOf ℕ)) (top : ModuleOf ℕ) (s : State) (pins : List ℕ) (v : Full → ℕ) → IsSettled file top s pins v
    → (path : Full) (m : ModuleOf ℕ) → IsPlain m → AllByRecursion IsClockedItem m.items → IsAt file top path m (scope_with [] m)
    → (n : Named ScopeNet) → Contains (nets_of m) n → has_reg m n.name ≡ true
    → v (path ++ n.name ∷ []) ≡ s.nets (path ++ n.name ∷ []) % 2 ^ n.value.width

-- without initialisers all its nets are 0 in the initial state
abbrev pub NetsBegin : Type 0
NetsBegin = (file : List (ModuleOf ℕ)) (top : ModuleOf ℕ) (s : State) → IsInitial file top s
    → (path : Full) (m : ModuleOf ℕ) → IsPlain m → HasNoInits m → IsAt file top path m (scope_with [] m)
    → (n : Named ScopeNet) → Contains (nets_of m) n → s.nets (path ++ n.name ∷ []) ≡ 0
