-- The largest number that the code keeps.
use Rattle.std.specs.Prelude.{ℕ, ◌-◌, ◌^◌}

abbrev pub TOP : ℕ
TOP = 2 ^ 128 - 1
