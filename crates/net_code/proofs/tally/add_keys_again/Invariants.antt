use Rattle.std.proofs.Common.{◌≡◌, ℕ, ◌||◌, ◌&&◌, ◌==◌, drop}
use Rattle.std.specs.List.{list_any}
use Rattle.net_code.specs.BitMap.{in_map}
use Rattle.net_code.proofs.tally.add_keys_again.Given as goal

abbrev pub invariant-loop-key : goal.invariant-loop-key
invariant-loop-key l = (m : ℕ) → (in_map l.more m 0 || list_any (λ i. in_map l.once m 0 && (i == m)) (drop l.key-index l.keys))
    ≡ (in_map l.initial.more m 0 || list_any (λ i. in_map l.once m 0 && (i == m)) l.keys)
