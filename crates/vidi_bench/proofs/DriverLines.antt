-- The lines of drivers.
use Rattle.std.proofs.Common.{◌≡◌, ℕ, ◌≤◌, List, length, ap}
use Rattle.std.proofs.lemmas.Option.{slice_get_past}
use Rattle.net_design.specs.declared.design.Driver.{Driver}
use Rattle.vidi_bench.specs.Design.{line_in, line_of}

pub past_line : (drivers : List Driver) (k : ℕ) → length drivers ≤ k → line_of drivers k ≡ 0
past_line drivers k past = ap line_in (slice_get_past drivers k past)
