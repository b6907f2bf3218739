-- The part of a flat design below an instance.
use Rattle.std.proofs.Common.{ℕ, List, ◌∷◌}
use Rattle.vlog_tree.specs.Tree.{ModuleOf}
use Rattle.flat_parts.specs.vlog_driver.Names.{Name, Full}
use Rattle.flat_parts.specs.Meaning.{AreNarrow}
use Rattle.shim_step.specs.Part.{under, part, pins_below, IsPart}
use Rattle.shim_step.specs.FlatPart.{PartSettles, PartGoesOn, PartBegins}
use Rattle.shim_step.proofs.Part.{at_part, part_is_settled, part_is_next, part_is_initial}

pub narrow : (file more : List (ModuleOf ℕ)) (top m : ModuleOf ℕ) (x : Name) → IsPart file more top x m
    → (words : Full → ℕ → ℕ) → AreNarrow more top words → AreNarrow file m (under x words)
narrow file more top m x p words h path n c at = h (x ∷ path) n c (at_part file more p.extends top m x p.has path n c at)

pub part_settles : PartSettles
part_settles file more top m x whole d p s pins v small h low =
    (p.own.settled (part x s) (pins_below m x v) (under x v) (narrow file more top m x p.part s.words small)).1
    (part_is_settled file more top m x p.part s pins v ((p.means.settled s pins v small).0 h) low)

pub part_goes_on : PartGoesOn
part_goes_on file more top m x whole d p s after v h =
    (p.own.next (part x s) (part x after) (under x v)).1
    (part_is_next file more top m x p.part s after v ((p.means.next s after v).0 h))

pub part_begins : PartBegins
part_begins file more top m x whole d p s h =
    (p.own.initial (part x s)).1 (part_is_initial file more top m x p.part s ((p.means.initial s).0 h))
