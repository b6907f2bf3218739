-- What a pad shows: its text, its room, and how much of that is left, in bytes.
use Rattle.std.specs.Prelude.{ℕ, ◌-◌, List, length, take}
use Rattle.text_page.specs.declared.pad.Pad.{Pad}

abbrev pub shown : Pad → List ℕ
shown pad = take pad.len pad.bytes.items

abbrev pub room : Pad → ℕ
room pad = length pad.bytes.items

abbrev pub left : Pad → ℕ
left pad = length pad.bytes.items - pad.len
