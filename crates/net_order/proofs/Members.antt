-- Elements of lists.
use Rattle.std.proofs.Common.{◌≡◌, zero, suc, [], ◌∷◌, arith}
use Rattle.std.specs.List.{Contains}

pub single : {X : Type 0} (x y : X) → Contains (x ∷ []) y → x ≡ y
single x y (zero, l, e) = e
single x y (suc k, l, e) = absurd (omega arith)
