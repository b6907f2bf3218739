-- The part of a flat design below an instance of its top, against the flat design of the instance's module.
use Rattle.std.specs.Prelude.{◌≡◌, ℕ, List, [], ◌∷◌}
use Rattle.vlog_tree.specs.Tree.{ModuleOf}
use Rattle.net_design.specs.declared.design.Design.{Design}
use Rattle.net_design.specs.Settled as design
use Rattle.flat_parts.specs.vlog_driver.Names.{Name, Full, State}
use Rattle.flat_parts.specs.vlog_driver.Settled.{IsClock}
use Rattle.flat_parts.specs.Meaning.{values_of, state_of, AreNarrow, Means}
use Rattle.shim_step.specs.Part.{under, part, pins_below, IsPart}

-- `whole` means a file with this top, in which module m of the other file, which d means, is the instance x
pub record IsPartOf (file more : List (ModuleOf ℕ)) (top m : ModuleOf ℕ) (x : Name) (whole d : Design) : Type 0 where
  pub means : Means more top whole
  pub own : Means file m d
  pub part : IsPart file more top x m

abbrev pub PartSettles : Type 0
PartSettles = (file more : List (ModuleOf ℕ)) (top m : ModuleOf ℕ) (x : Name) (whole d : Design) → IsPartOf file more top m x whole d
    → (s : State) (pins : List ℕ) (v : Full → ℕ) → AreNarrow more top s.words
    → design.IsSettled whole (state_of whole s) pins (values_of whole v s.words)
    → ((n : Name) → IsClock file m n → v (x ∷ n ∷ []) ≡ 0)
    → design.IsSettled d (state_of d (part x s)) (pins_below m x v) (values_of d (under x v) (under x s.words))

abbrev pub PartGoesOn : Type 0
PartGoesOn = (file more : List (ModuleOf ℕ)) (top m : ModuleOf ℕ) (x : Name) (whole d : Design) → IsPartOf file more top m x whole d
    → (s after : State) (v : Full → ℕ)
    → design.next whole (values_of whole v s.words) (state_of whole s) ≡ state_of whole after
    → design.next d (values_of d (under x v) (under x s.words)) (state_of d (part x s)) ≡ state_of d (part x after)

abbrev pub PartBegins : Type 0
PartBegins = (file more : List (ModuleOf ℕ)) (top m : ModuleOf ℕ) (x : Name) (whole d : Design) → IsPartOf file more top m x whole d
    → (s : State) → design.initial whole ≡ state_of whole s → design.initial d ≡ state_of d (part x s)
