-- Drivers and clocked blocks that are added item by item.
use Rattle.std.specs.Prelude.{ℕ, List, [], ◌∷◌, ◌++◌}
use Rattle.std.specs.List.{AllZip, AllByRecursion}
use Rattle.vlog_tree.specs.Tree.{ItemOf, AssignItem, AlwaysItem, InstanceItem}
use Rattle.flat_parts.specs.vlog_size.declared.scope.Scope.{Scope}
use Rattle.net_design.specs.declared.act.Code.{Code}
use Rattle.flat_parts.specs.vlog_driver.Names.{Full}
use Rattle.flat_parts.specs.vlog_driver.Placed.{Placed, names_at}
use Rattle.flat_parts.specs.vlog_driver.Sites.{Site}
use Rattle.flat_parts.specs.vlog_driver.Faultless.{IsFaultlessBody}
use Rattle.flat_parts.specs.vlog_driver.Duties.{Duty, IsFaultlessAssign}
use Rattle.flat_parts.specs.vlog_driver.Held.{item_duties}
use Rattle.flat_parts.specs.Seats.{Seat, seat_named}
use Rattle.flat_parts.specs.Drivers.{joined_duties, ClockedBlock, IsBlockOf, item_blocks}
use Rattle.flat_parts.specs.net_code.declared.base.Base.{Base}

-- the clocked blocks of one list are these, and those of another are these and then more
abbrev pub BlocksMore : List ClockedBlock → List Code → List Code → Type 0
BlocksMore more old new = (before : List ClockedBlock) → AllZip IsBlockOf before old → AllZip IsBlockOf (before ++ more) new

-- where the code of an item stands, before which the names of the first k parameters of a scope stand
abbrev pub site_from : Base → Scope → ℕ → Site
site_from base s k = record { names = names_at s k; base = base }

-- what the drivers of an item are to do, where its instance has this path and its code stands there
abbrev pub duties_in : List Seat → Full → Site → ItemOf ℕ → List Duty
duties_in xs path p (InstanceItem i) = joined_duties p i (seat_named xs (path ++ i.id.name ∷ []))
duties_in xs path p item = item_duties p item

-- the same of an item among those of its instance
abbrev pub placed_in : List Seat → Full → Base → Scope → Placed → List Duty
placed_in xs path base s p = duties_in xs path (site_from base s p.declared) p.item

abbrev pub blocks_in : Base → Scope → Placed → List ClockedBlock
blocks_in base s p = item_blocks (site_from base s p.declared) p.item

-- nothing is found in an `assign` or in an always block
abbrev pub IsFaultlessItem : Site → ItemOf ℕ → Type 0
IsFaultlessItem p (AssignItem assigns) = AllByRecursion (IsFaultlessAssign p) assigns
IsFaultlessItem p (AlwaysItem a) = IsFaultlessBody p.names a.body
IsFaultlessItem p item = Unit {0}

-- the same of an item among those of its instance
abbrev pub IsFaultlessPlaced : Base → Scope → Placed → Type 0
IsFaultlessPlaced base s p = IsFaultlessItem (site_from base s p.declared) p.item
