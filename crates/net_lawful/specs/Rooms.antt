-- The memories of a design, found by their first words.
use Rattle.std.specs.Prelude.{ℕ, ◌==◌, ◌&&◌, nat_le, Bool, false, IsTrue, List, Option, None, Some}
use Rattle.std.specs.Ordering.{nat_cmp}
use Rattle.std.specs.BTreeMap as tree
use Rattle.net_design.specs.declared.rhs.Span.{Span}
use Rattle.net_design.specs.declared.rhs.Room.{Room}
use Rattle.net_design.specs.declared.rhs.Rhs.{Rhs}
use Rattle.net_design.specs.declared.act.Place.{Place}
use Rattle.net_design.specs.declared.act.Guard.{Guard}
use Rattle.net_design.specs.declared.act.Act.{Act}
use Rattle.net_design.specs.declared.design.DesignMemory.{DesignMemory}
use Rattle.net_design.specs.declared.design.Design.{Design}
use Rattle.net_design.specs.Sized.{IsRhs, IsPlace, IsAct, IsBlock, AreGuards}
use Rattle.net_design.specs.Lawful.{is_span}
use Rattle.net_lawful.specs.declared.rooms.Extent.{Extent}
use Rattle.net_lawful.specs.declared.rooms.Rooms.{Rooms}

-- the memory whose words begin at this one
abbrev pub extent_at : Rooms → ℕ → Option Extent
extent_at rooms first = tree.get nat_cmp rooms.extents first

-- how many words a memory has, and their width
abbrev pub extent_of : DesignMemory → Extent
extent_of a = record { length = a.room.length; width = a.width }

-- so many words, of n bits or more
abbrev pub is_extent : Option Extent → ℕ → ℕ → Bool
is_extent None length n = false
is_extent (Some e) length n = (e.length == length) && nat_le n e.width

unfoldable pub has_room : Rooms → Room → ℕ → Bool
has_room rooms r n = is_extent (extent_at rooms r.first) r.length n

-- one of the design's memories has these words, and n bits or more in each
abbrev pub is_room_of : Room → ℕ → DesignMemory → Bool
is_room_of r n a = (a.room.first == r.first) && ((a.room.length == r.length) && nat_le n a.width)

-- ---- code in range of a design's nets, and of memories that are found

abbrev pub IsSpan : Design → Span → Type 0
IsSpan d s = IsTrue (is_span d s)

abbrev pub IsRoom : Rooms → Room → ℕ → Type 0
IsRoom rooms r n = IsTrue (has_room rooms r n)

abbrev pub IsRhsIn : Design → Rooms → Rhs → Type 0
IsRhsIn d rooms e = IsRhs (IsSpan d) (IsRoom rooms) e

abbrev pub IsPlaceIn : Design → Rooms → Place → Type 0
IsPlaceIn d rooms p = IsPlace (IsSpan d) (IsRoom rooms) p

abbrev pub IsActIn : Design → Rooms → Act → Type 0
IsActIn d rooms a = IsAct (IsSpan d) (IsRoom rooms) a

abbrev pub IsBlockIn : Design → Rooms → List Act → Type 0
IsBlockIn d rooms acts = IsBlock (IsSpan d) (IsRoom rooms) acts

abbrev pub AreGuardsIn : Design → Rooms → List Guard → Type 0
AreGuardsIn d rooms guards = AreGuards (IsSpan d) (IsRoom rooms) guards
