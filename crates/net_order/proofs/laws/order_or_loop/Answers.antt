use Rattle.std.proofs.Common.{◌≡◌, ℕ, zero, suc, ◌<◌, List, [], ◌∷◌, true, length, arith}
use Rattle.net_design.specs.declared.design.Driver.{Driver}
use Rattle.net_order.specs.Order.{Reads, reads_of}
use Rattle.net_order.proofs.Exclusive.{exclusive}
use Rattle.net_order.proofs.laws.order_or_loop.Goals as goal

within : (ds : List Driver) (i m k : ℕ) → reads_of ds i m k ≡ true → i < length ds
within [] i m k h = absurd cc
within (x ∷ rest) zero m k h = omega arith
within (x ∷ rest) (suc i) m k h = let l = within rest i m k h in omega arith

pub returns : goal.returns
returns c = λ d order ds o loop. exclusive (length d.drivers) (Reads d) (λ i j r. within d.drivers i r.0 r.1 r.2) order ds o loop
