use Rattle.std.proofs.Common.{◌≡◌, ◌++◌, ◌∷◌, [], take, flat_map}
use Rattle.wave_text.proofs.reading.full_name.Given as goal

abbrev pub invariant-loop-instance : goal.invariant-loop-instance
invariant-loop-instance l = l.name.items ≡ flat_map (λ part. part ++ 46 ∷ []) (take l.instance-index l.path)
