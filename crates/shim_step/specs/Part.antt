-- *An instance means its module*: the part of a map below an instance of the top, in which no parameter is overridden.
use Rattle.std.specs.Prelude.{◌≡◌, ℕ, List, [], ◌∷◌, map}
use Rattle.std.specs.List.{Contains}
use Rattle.vlog_tree.specs.Tree.{InstanceOf, ModuleOf}
use Rattle.flat_parts.specs.vlog_scope.Scope.{scope_with}
use Rattle.flat_parts.specs.vlog_driver.Names.{Name, Full, State}
use Rattle.flat_parts.specs.vlog_driver.Instances.{IsChild}
use Rattle.flat_parts.specs.vlog_driver.Settled.{IsSettled, IsClock, inputs_of}
use Rattle.flat_parts.specs.vlog_driver.Next.{IsNext, IsInitial}

-- what a map of full names has below the instance x
abbrev pub under : {X : Type 0} → Name → (Full → X) → Full → X
under x v full = v (x ∷ full)

abbrev pub part : Name → State → State
part x s = record { nets = under x s.nets; words = under x s.words }

-- the numbers of the inputs of module m, in port order, that the instance x of it has
abbrev pub pins_below : ModuleOf ℕ → Name → (Full → ℕ) → List ℕ
pins_below m x v = map (λ (n : Name). v (x ∷ n ∷ [])) (inputs_of m)

-- `more` has each module of the file
abbrev pub Extends : List (ModuleOf ℕ) → List (ModuleOf ℕ) → Type 0
Extends file more = (m : ModuleOf ℕ) → Contains file m → Contains more m

-- in the top of `more` stands an instance x of module m, of which no parameter is overridden
pub record HasPart (more : List (ModuleOf ℕ)) (top : ModuleOf ℕ) (x : Name) (m : ModuleOf ℕ) : Type 0 where
  pub instance : InstanceOf ℕ
  pub named : instance.id.name ≡ x
  pub child : IsChild more top (scope_with [] top) instance m (scope_with [] m)

-- such an instance, of a module of the file, whose modules `more` has
pub record IsPart (file more : List (ModuleOf ℕ)) (top : ModuleOf ℕ) (x : Name) (m : ModuleOf ℕ) : Type 0 where
  pub extends : Extends file more
  pub has : HasPart more top x m

-- where a map is settled for this top, its part is settled for the file with top m, at the pins that the instance has there; the clock of
-- that file is 0 there
abbrev pub PartIsSettled : Type 0
PartIsSettled = (file more : List (ModuleOf ℕ)) (top m : ModuleOf ℕ) (x : Name) → IsPart file more top x m
    → (s : State) (pins : List ℕ) (v : Full → ℕ) → IsSettled more top s pins v
    → ((n : Name) → IsClock file m n → v (x ∷ n ∷ []) ≡ 0)
    → IsSettled file m (part x s) (pins_below m x v) (under x v)

-- the part of the next state is the next state of the part, and that of the initial state is initial
abbrev pub PartIsNext : Type 0
PartIsNext = (file more : List (ModuleOf ℕ)) (top m : ModuleOf ℕ) (x : Name) → IsPart file more top x m
    → (s after : State) (v : Full → ℕ) → IsNext more top s v after → IsNext file m (part x s) (under x v) (part x after)

abbrev pub PartIsInitial : Type 0
PartIsInitial = (file more : List (ModuleOf ℕ)) (top m : ModuleOf ℕ) (x : Name) → IsPart file more top x m
    → (s : State) → IsInitial more top s → IsInitial file m (part x s)
