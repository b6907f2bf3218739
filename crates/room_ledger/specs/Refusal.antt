-- Why there is no room for channels of these sizes, with resets or without.
use Rattle.std.specs.Prelude.{◌≡◌, ℕ, ◌<◌, Bool, List}
use Rattle.room_ledger.specs.declared.error.RoomError.{RoomError}
use Rattle.room_ledger.specs.declared.error.RoomError.TheVariants.{TooSmall, Memory}
use Rattle.room_ledger.specs.Reservation.{least}

abbrev pub Refuses : List ℕ → Bool → ℕ → RoomError → Type 0
Refuses sizes resets capacity (TooSmall needed given) = (needed ≡ least sizes resets) × (given ≡ capacity) × (capacity < least sizes resets)
Refuses sizes resets capacity Memory = Unit {0}
