-- What holds where nothing is found.
use Rattle.std.specs.Prelude.{◌≡◌, ℕ, ◌<◌, ◌≤◌, min, List, [], Some, slice_get}
use Rattle.net_design.specs.declared.act.Code.{Code}
use Rattle.net_design.specs.declared.act.Place.{Place}
use Rattle.net_design.specs.declared.design.Net.{Net}
use Rattle.net_design.specs.declared.design.DesignMemory.{DesignMemory}
use Rattle.net_design.specs.declared.design.Driver.{Driver}
use Rattle.net_drive.specs.declared.findings.NetKind.{NetKind}
use Rattle.net_drive.specs.declared.findings.NetKind.TheVariants.{Pin, Wire, Reg}
use Rattle.net_code.specs.Targets.{nets_named, rooms_named, bit_count}
use Rattle.net_drive.specs.Drive.{block_count, block_names, wire_places, kind_at, drive_faults}

-- a pin's bits are written by no driver, a wire's each by one and once, and a reg is named by at most one always block
abbrev pub IsDriven : List Place → List (List ℕ) → ℕ → ℕ → NetKind → Type 0
IsDriven places blocks m width Pin = (k : ℕ) → k < min width 128 → bit_count places m k ≡ 0
IsDriven places blocks m width Wire = (k : ℕ) → k < min width 128 → bit_count places m k ≡ 1
IsDriven places blocks m width Reg = block_count blocks m ≤ 1

abbrev pub NoneFoundAllDriven : Type 0
NoneFoundAllDriven = (nets : List Net) (kinds : List NetKind) (memories : List DesignMemory) (drivers : List Driver) (blocks : List Code)
    → drive_faults nets kinds memories drivers blocks ≡ [] → (m : ℕ) (n : Net) → slice_get nets m ≡ Some n
    → IsDriven (wire_places drivers) (block_names nets_named drivers blocks) m n.width (kind_at kinds m)

abbrev pub NoneFoundMemoriesOnce : Type 0
NoneFoundMemoriesOnce = (nets : List Net) (kinds : List NetKind) (memories : List DesignMemory) (drivers : List Driver) (blocks : List Code)
    → drive_faults nets kinds memories drivers blocks ≡ [] → (i : ℕ) (a : DesignMemory) → slice_get memories i ≡ Some a
    → block_count (block_names rooms_named drivers blocks) a.room.first ≤ 1
