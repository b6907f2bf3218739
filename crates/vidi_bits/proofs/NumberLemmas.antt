-- Numbers side by side.
use Rattle.std.proofs.Common.{◌≡◌, ℕ, ◌+◌, ◌-◌, ◌*◌, ◌%◌, ◌^◌, ◌<◌, ◌≤◌, add-one, arith}
use Rattle.std.proofs.Math.Nat.{pow-le-pow_right}
use Rattle.std.proofs.lemmas.Nat.{pow_pos, pow-add, mod_below, mul-add-lt}
use Rattle.vidi_bits.specs.Number.{repeated}

-- n times w bits, with room for w more
pub repeated_room : (all n w : ℕ) → all < 2 ^ (n * w) → (n + 1) * w ≤ 128 → all < 2 ^ (128 - w)
repeated_room all n w l room =
    let h : n * w ≤ 128 - w = omega arith in
    let p : 2 ^ (n * w) ≤ 2 ^ (128 - w) = pow-le-pow_right (omega arith) h in
    omega arith

pub repeated_fits : (all n x w : ℕ) → all < 2 ^ (n * w) → all * 2 ^ w + x % 2 ^ w < 2 ^ ((n + 1) * w)
repeated_fits all n x w l =
    let e : (n + 1) * w ≡ w + n * w = omega arith in
    rw (e, pow-add 2 w (n * w)) (mul-add-lt all (2 ^ w) (x % 2 ^ w) (2 ^ (n * w)) l (mod_below x (2 ^ w) (pow_pos w)))

pub rows_left : (n count w : ℕ) → n < count → count * w ≤ 128 → (n + 1) * w ≤ 128
rows_left n count w l h = grind arith

pub repeated_next : (all n x w r : ℕ) → r ≡ all * 2 ^ w + x % 2 ^ w → all ≡ repeated n x w → r ≡ repeated (n + 1) x w
repeated_next all n x w r h same = rw (add-one n, ← same) h

pub trimmed_room : (x a b : ℕ) → a + b ≤ 128 → x % 2 ^ a < 2 ^ (128 - b)
trimmed_room x a b l =
    let h : a ≤ 128 - b = omega arith in
    let p : 2 ^ a ≤ 2 ^ (128 - b) = pow-le-pow_right (omega arith) h in
    let m : x % 2 ^ a < 2 ^ a = mod_below x (2 ^ a) (pow_pos a) in
    omega arith
