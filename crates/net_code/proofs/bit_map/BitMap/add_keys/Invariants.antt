use Rattle.std.proofs.Common.{◌≡◌, ℕ, ◌||◌, drop}
use Rattle.net_code.specs.BitMap.{in_map, is_among}
use Rattle.net_code.proofs.bit_map.BitMap.add_keys.Given as goal

abbrev pub invariant-loop-key : goal.invariant-loop-key
invariant-loop-key l = (m : ℕ) →
    (in_map l.self m 0 || is_among m (drop l.key-index l.keys)) ≡ (in_map l.initial.self m 0 || is_among m l.keys)
