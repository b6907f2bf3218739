-- Laws of the parts, which the crates above prove and use.
use Rattle.std.specs.Prelude.{◌≡◌, ◌≢◌, ℕ, ◌+◌, ◌<◌, ◌↔◌, nat_lt, ◌&&◌, if◌then◌else◌, List, [], ◌∷◌, length, slice_get, slice_index}
use Rattle.std.specs.Prelude.{option_map, Some}
use Rattle.std.specs.Int.{bit_at}
use Rattle.std.specs.List.{Contains, AllPairs, flat_map}
use Rattle.vlog_tree.specs.Tree.{ModuleOf, FileOf}
use Rattle.vlog_elab.specs.vlog_size.declared.scope.ScopeNet.{ScopeNet}
use Rattle.vlog_elab.specs.vlog_size.declared.scope.Scope.{Scope}
use Rattle.vlog_elab.specs.vlog_size.Table.{Named}
use Rattle.vlog_elab.specs.Outlines.{place_of}
use Rattle.vlog_elab.specs.vlog_scope.Scope.{scope_with}
use Rattle.net_design.specs.declared.design.Design.{Design}
use Rattle.net_design.specs.declared.values.Values.{Values}
use Rattle.net_design.specs.Names.{net_names}
use Rattle.net_design.specs.Settled.{held, initial}
use Rattle.vlog_elab.specs.Instances.{ModuleInstance, instances}
use Rattle.vlog_elab.specs.Reasons.{Clear}
use Rattle.vlog_driver.specs.Names.{Full, numbers_at}
use Rattle.vlog_driver.specs.Instances.{IsAt}
use Rattle.vlog_driver.specs.Settled.{is_held}
use Rattle.vlog_driver.specs.Next.{initial_number}
use Rattle.vlog_driver.specs.Held.{StandsAt}
use Rattle.flat_parts.specs.Seats.{Seat, seats_of, site_at}
use Rattle.flat_parts.specs.Nets.{net_of, flat_nets}
use Rattle.flat_parts.specs.Built.{IsBuilt}
use Rattle.flat_parts.specs.Meaning.{values_of}

-- ---- instances and paths (this crate)

-- the first module of this name
abbrev pub IsTop : FileOf ℕ → List ℕ → ModuleOf ℕ → Type 0
IsTop file name top = (k : ℕ) × (place_of file.modules name ≡ Some k) × (slice_get file.modules k ≡ Some top)

-- one of the instances has this path, module and scope
abbrev pub IsListed : List ModuleInstance → Full → ModuleOf ℕ → Scope → Type 0
IsListed is path m s = (i : ModuleInstance) × Contains is i × (i.path ≡ path) × (i.tree ≡ m) × (i.scope ≡ s)

-- the instances are those at the paths below the top
abbrev pub InstancesAreAll : Type 0
InstancesAreAll = (file : FileOf ℕ) (name : List ℕ) (top : ModuleOf ℕ) → Clear file name → IsTop file name top
    → (path : Full) (m : ModuleOf ℕ) (s : Scope) → IsListed (instances file name) path m s ↔ IsAt file.modules top path m s

-- no two have the same path
abbrev pub PathsDiffer : Type 0
PathsDiffer = (file : FileOf ℕ) (name : List ℕ) → Clear file name
    → AllPairs (λ (a b : ModuleInstance). a.path ≢ b.path) (instances file name)

-- the first is the top
abbrev pub FirstIsTop : Type 0
FirstIsTop = (file : FileOf ℕ) (name : List ℕ) (top : ModuleOf ℕ) → Clear file name → IsTop file name top
    → (k : ℕ) × (rest : List ModuleInstance)
    × (instances file name ≡ record { path = []; place = k; tree = top; scope = scope_with [] top } ∷ rest)

-- ---- numbers and nets (flat_layout)

-- the numbers of a map, instance by instance
abbrev pub numbers_of : (Full → ℕ) → (Full → ℕ → ℕ) → List ModuleInstance → Values
numbers_of nets words is = record {
  nets = flat_map (λ (i : ModuleInstance). (numbers_at nets words i.path i.scope).nets) is;
  words = flat_map (λ (i : ModuleInstance). (numbers_at nets words i.path i.scope).words) is;
}

-- the list of a map for the design has them
abbrev pub BuiltNumbers : Type 0
BuiltNumbers = (file : List (ModuleOf ℕ)) (top : ModuleOf ℕ) (is : List ModuleInstance) (d : Design) → IsBuilt file top is d
    → (nets : Full → ℕ) (words : Full → ℕ → ℕ) → values_of d nets words ≡ numbers_of nets words is

-- each instance's numbers stand there from its seat's places on
abbrev pub SeatsStand : Type 0
SeatsStand = (nets : Full → ℕ) (words : Full → ℕ → ℕ) (is : List ModuleInstance) (x : Seat) (k : ℕ) → Contains (seats_of is) x
    → StandsAt nets words x.instance.path x.instance.scope k (site_at x k) (numbers_of nets words is)

-- net m of the design is net j of the instance at this seat
pub record IsNetOf (xs : List Seat) (m : ℕ) (x : Seat) (j : ℕ) : Type 0 where
  pub seat : Contains xs x
  pub place : m ≡ x.base.net + j
  pub there : j < length x.instance.scope.nets

abbrev pub NetsHaveSeats : Type 0
NetsHaveSeats = (is : List ModuleInstance) (m : ℕ) → m < length (flat_nets (seats_of is))
    → (x : Seat) × (j : ℕ) × IsNetOf (seats_of is) m x j

abbrev pub NetsHaveOneSeat : Type 0
NetsHaveOneSeat = (is : List ModuleInstance) (m j i : ℕ) (x y : Seat) → IsNetOf (seats_of is) m x j → IsNetOf (seats_of is) m y i
    → (x ≡ y) × (j ≡ i)

abbrev pub NetsAreThose : Type 0
NetsAreThose = (is : List ModuleInstance) (m j : ℕ) (x : Seat) → IsNetOf (seats_of is) m x j
    → slice_get (flat_nets (seats_of is)) m ≡ option_map (net_of x.number) (slice_get x.instance.scope.nets j)

-- no two nets of the design have the same full name
abbrev pub NamesDiffer : Type 0
NamesDiffer = (file : FileOf ℕ) (name : List ℕ) (top : ModuleOf ℕ) (d : Design) → Clear file name
    → IsBuilt file.modules top (instances file name) d → AllPairs (λ (a b : Full). a ≢ b) (net_names d)

-- ---- the state (flat_registers)

-- the design holds the bits that the file's state does
abbrev pub HeldAlike : Type 0
HeldAlike = (file : List (ModuleOf ℕ)) (top : ModuleOf ℕ) (is : List ModuleInstance) (d : Design) → IsBuilt file top is d
    → (x : Seat) (j k : ℕ) (n : Named ScopeNet) → Contains (seats_of is) x → slice_get x.instance.scope.nets j ≡ Some n
    → held d (x.base.net + j) k ≡ (nat_lt k n.value.width && is_held x.instance.tree x.instance.scope n.name j k)

-- and begins with the file's initial numbers there
abbrev pub InitialAlike : Type 0
InitialAlike = (file : List (ModuleOf ℕ)) (top : ModuleOf ℕ) (is : List ModuleInstance) (d : Design) → IsBuilt file top is d
    → (x : Seat) (j k : ℕ) (n : Named ScopeNet) → Contains (seats_of is) x → slice_get x.instance.scope.nets j ≡ Some n
    → bit_at (slice_index (initial d).nets (x.base.net + j)) k
    ≡ (if nat_lt k n.value.width && is_held x.instance.tree x.instance.scope n.name j k
    then bit_at (initial_number x.instance.tree x.instance.scope n.name) k else 0)
