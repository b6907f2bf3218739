-- The worked example is computed; only the digits of its numbers are not.
use Rattle.std.proofs.Common.{◌≡◌, ℕ, List, [], ◌∷◌, arith}
use Rattle.std.specs.Prelude.{codes}
use Rattle.std.proofs.lemmas.Fmt.{decimal_digit}
use Rattle.wave_text.specs.Digits.{id_of}
use Rattle.wave_text.specs.Text.{time_line, scope_line, line, ends, up_line, last_line}
use Rattle.wave_text.specs.Example.{FlickIsWritten}

abbrev with_numbers : List ℕ → List ℕ → List ℕ → List (List ℕ)
with_numbers zero one two = time_line ∷ scope_line (codes "flick")
    ∷ line (codes "$var" ∷ codes "wire" ∷ one ∷ id_of 0 ∷ codes "clk" ∷ ends ∷ [])
    ∷ line (codes "$var" ∷ codes "wire" ∷ one ∷ id_of 1 ∷ codes "b_v" ∷ ends ∷ [])
    ∷ line (codes "$var" ∷ codes "wire" ∷ one ∷ id_of 2 ∷ codes "b_r" ∷ ends ∷ [])
    ∷ line (codes "$var" ∷ codes "wire" ∷ one ∷ id_of 3 ∷ codes "t" ∷ ends ∷ [])
    ∷ up_line ∷ last_line ∷ (35 ∷ zero) ∷ codes "0!" ∷ codes "0\"" ∷ codes "1#" ∷ codes "0$" ∷ (35 ∷ one) ∷ codes "1\"" ∷ codes "1$"
    ∷ (35 ∷ two) ∷ []

pub flick-is-written : FlickIsWritten
flick-is-written = λ i. with_numbers (decimal_digit 0 (omega arith) i) (decimal_digit 1 (omega arith) i) (decimal_digit 2 (omega arith) i)
