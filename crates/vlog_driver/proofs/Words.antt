-- The words of a memory.
use Rattle.std.proofs.Common.{◌≡◌, ℕ, zero, suc, length, refl, ap}
use Rattle.vlog_driver.specs.Names.{words_from}

pub length-words : (word : ℕ → ℕ) (k n : ℕ) → length (words_from word k n) ≡ n
length-words word k zero = refl
length-words word k (suc n) = ap suc (length-words word (suc k) n)
