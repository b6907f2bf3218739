-- Lists of findings that are empty, and numbers that are there.
use Rattle.std.proofs.Common.{◌≡◌, ℕ, ◌+◌, ◌-◌, true, false, nat_lt, nat_le, max, []}
use Rattle.std.proofs.Common.{arith}
use Rattle.vlog_size.specs.Literal.{is_lawful}

pub larger_lawful : (a b : ℕ) → is_lawful a ≡ true → is_lawful b ≡ true → is_lawful (max a b) ≡ true
larger_lawful a b h k = grind arith

pub bounds_lawful : (x y whole : ℕ) → is_lawful whole ≡ true → nat_le whole x ≡ false → nat_lt x y ≡ false → is_lawful (x + 1 - y) ≡ true
bounds_lawful x y whole l h o = grind arith
