-- The drivers and clocked blocks of the flat design: the instances in preorder, each in text order; a connection belongs to the parent
-- (this project's profile).
use Rattle.std.specs.Prelude.{ℕ, List, [], ◌∷◌, ◌++◌, Option, None, Some}
use Rattle.std.specs.List.{flat_map}
use Rattle.vlog_tree.specs.Tree.{EventOf, PosedgeEvent, ImplicitEvent, AlwaysOf, InstanceOf, ItemOf, WiresItem, DrivenWiresItem}
use Rattle.vlog_tree.specs.Tree.{RegsItem, LocalparamsItem, AssignItem, AlwaysItem, InstanceItem}
use Rattle.vlog_elab.specs.vlog_names.Entries.{declared}
use Rattle.net_design.specs.declared.act.Code.{Code}
use Rattle.vlog_driver.specs.Placed.{Placed, placed_items}
use Rattle.vlog_driver.specs.Sites.{Site}
use Rattle.vlog_driver.specs.Drivers.{IsClocked}
use Rattle.vlog_driver.specs.Duties.{Duty, conn_duties}
use Rattle.vlog_driver.specs.Held.{item_duties}
use Rattle.flat_parts.specs.Seats.{Seat, site_at, seat_named}

-- ---- drivers

-- those of the connections of an instance's ports, where its seat is this
abbrev pub joined_duties : Site → InstanceOf ℕ → Option Seat → List Duty
joined_duties p i None = []
joined_duties p i (Some q) = flat_map (conn_duties (declared q.instance.tree) p (site_at q q.instance.scope.declared)) i.ports

abbrev pub child_duties : List Seat → Seat → ℕ → ItemOf ℕ → List Duty
child_duties xs x k (WiresItem range ids) = []
child_duties xs x k (DrivenWiresItem range ws) = []
child_duties xs x k (RegsItem range gs) = []
child_duties xs x k (LocalparamsItem range vs) = []
child_duties xs x k (AssignItem assigns) = []
child_duties xs x k (AlwaysItem a) = []
child_duties xs x k (InstanceItem i) = joined_duties (site_at x k) i (seat_named xs (x.instance.path ++ i.id.name ∷ []))

-- those of an item, before which the names of the first k parameters stand; one of both lists is empty
abbrev pub duties_at : List Seat → Seat → ℕ → ItemOf ℕ → List Duty
duties_at xs x k item = item_duties (site_at x k) item ++ child_duties xs x k item

abbrev pub placed_duties : List Seat → Seat → Placed → List Duty
placed_duties xs x p = duties_at xs x p.declared p.item

unfoldable pub seat_duties : List Seat → Seat → List Duty
seat_duties xs x = flat_map (placed_duties xs x) (placed_items x.instance.tree x.instance.scope)

-- those of all instances, which stand at these seats
unfoldable pub all_duties : List Seat → List Duty
all_duties xs = flat_map (seat_duties xs) xs

-- ---- clocked blocks

-- a clocked block and where its code stands
pub record ClockedBlock : Type 0 where
  pub site : Site
  pub block : AlwaysOf ℕ

abbrev pub IsBlockOf : ClockedBlock → Code → Type 0
IsBlockOf b code = IsClocked b.site b.block code

abbrev pub event_blocks : EventOf ℕ → Site → AlwaysOf ℕ → List ClockedBlock
event_blocks (PosedgeEvent clock) p a = record { site = p; block = a } ∷ []
event_blocks (ImplicitEvent parens) p a = []

abbrev pub item_blocks : Site → ItemOf ℕ → List ClockedBlock
item_blocks p (WiresItem range ids) = []
item_blocks p (DrivenWiresItem range ws) = []
item_blocks p (RegsItem range gs) = []
item_blocks p (LocalparamsItem range vs) = []
item_blocks p (AssignItem assigns) = []
item_blocks p (AlwaysItem a) = event_blocks a.event p a
item_blocks p (InstanceItem i) = []

abbrev pub placed_blocks : Seat → Placed → List ClockedBlock
placed_blocks x p = item_blocks (site_at x p.declared) p.item

unfoldable pub seat_blocks : Seat → List ClockedBlock
seat_blocks x = flat_map (placed_blocks x) (placed_items x.instance.tree x.instance.scope)

unfoldable pub all_blocks : List Seat → List ClockedBlock
all_blocks xs = flat_map seat_blocks xs
