-- Which gates go up, in the manner of the code: one channel after the other, with the sum so far.
use Rattle.std.specs.Prelude.{ℕ, ◌+◌, ◌^◌, ◌&&◌, not, List, [], ◌∷◌, bit_or, nat_le, if◌then◌else◌}
use Rattle.trace_model.specs.vidi_bits.Number.{has}
use Rattle.room_ledger.specs.Reservation.{whole}

-- the gates after those from channel c on, whose sizes these are, were taken in order; `claimed` is what is used and reserved before
abbrev pub raise : ℕ → ℕ → List ℕ → ℕ → ℕ → ℕ → ℕ
raise head capacity [] c claimed gates = gates
raise head capacity (size ∷ sizes) c claimed gates = if not (has gates c) && nat_le (claimed + whole head size) capacity
    then raise head capacity sizes (c + 1) (claimed + whole head size) (bit_or gates (2 ^ c))
    else raise head capacity sizes (c + 1) claimed gates
