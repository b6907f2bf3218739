use Rattle.std.proofs.Common.{◌≡◌, ◌+◌, ◌≤◌, drop}
use Rattle.net_design.specs.Updates.{target_width}
use Rattle.net_code.proofs.sized.is_narrow.Given as goal

abbrev pub invariant-loop-place : goal.invariant-loop-place
invariant-loop-place l = record { same : l.total + target_width (drop l.place-index l.places) ≡ target_width l.places; few : l.total ≤ 128 }
