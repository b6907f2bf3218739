-- The texts of samples are no longer than texts may be.
use Rattle.std.proofs.Common.{◌≡◌, ℕ, zero, suc, ◌+◌, ◌*◌, ◌%◌, ◌≤◌, Bool, true, List, ◌++◌, length, refl, arith}
use Rattle.std.specs.Prelude.{codes, decimal, nat_le}
use Rattle.std.specs.Fmt.{digits}
use Rattle.std.specs.List.{flat_map, list_all, range_with_len}
use Rattle.std.proofs.lemmas.Bool.{leb-true}
use Rattle.std.proofs.lemmas.Fmt.{length-decimal-le}
use Rattle.std.proofs.lemmas.List.{length-append}
use Rattle.sample_gen.specs.Design.{design}
use Rattle.sample_gen.specs.Sequence.{drawn}
use Rattle.sample_gen.specs.Sample.{capacity, cycles, drain_line, map_text, script, sample, send_line, stages, stalls}
use Rattle.sample_gen.proofs.Taken.{each_in}
use Rattle.replay_command.specs.vidi_bench.Design.{text_limit}
use Rattle.sample_command.specs.Sampled.{AreShort}

-- ---- lines of a number
numbered : (a b : List ℕ) (n k m : ℕ) → length (decimal n) ≤ k → length a + (k + length b) ≤ m → length (a ++ decimal n ++ b) ≤ m
numbered a b n k m few fits =
    let whole : length (a ++ decimal n ++ b) ≡ length (a ++ decimal n) + length b = length-append (a ++ decimal n) b in
    let front : length (a ++ decimal n) ≡ length a + length (decimal n) = length-append a (decimal n) in
    omega (arith, few, fits, whole, front)

send_long : (y : ℕ) → length (send_line y) ≤ 11
send_long y = numbered (codes "a send ") (codes "\n") (y % 256) 3 11
    (length-decimal-le 3 (y % 256) (omega arith) (omega arith) (omega arith)) (omega arith)

drain_long : (y : ℕ) → length (drain_line y) ≤ 11
drain_long y = numbered (codes "drain ") (codes " 1\n") (1 + y % 8) 2 11
    (length-decimal-le 2 (1 + y % 8) (omega arith) (omega arith) (omega arith)) (omega arith)

lines_long : (f : ℕ → List ℕ) → ((i : ℕ) → length (f i) ≤ 11) → (a k : ℕ) → length (flat_map f (range_with_len a k)) ≤ 11 * k
lines_long f each a zero = omega arith
lines_long f each a (suc k) =
    let rest : List ℕ = flat_map f (range_with_len (a + 1) k) in
    let one = each a in
    let more : length rest ≤ 11 * k = lines_long f each (a + 1) k in
    let e : length (f a ++ rest) ≡ length (f a) + length rest = length-append (f a) rest in
    omega (arith, one, more, e)

-- ---- the texts
script_short : (s : ℕ) → s ≤ 6000 → length (script s) ≤ text_limit
script_short s small =
    let head : List ℕ = codes "cycles " ++ decimal (cycles s) ++ codes "\n" in
    let lines : List ℕ = flat_map (λ i. send_line (drawn s i)) (range_with_len 1 s) in
    let first : length head ≤ 13 = numbered (codes "cycles ") (codes "\n") (cycles s) 5 13
    (length-decimal-le 5 (cycles s) (omega arith) (omega (arith, small)) (omega (arith, small))) (omega arith) in
    let middle : length lines ≤ 11 * s = lines_long (λ i. send_line (drawn s i)) (λ i. send_long (drawn s i)) 1 s in
    let whole : length (script s) ≡ length (head ++ lines) + 11 = length-append (head ++ lines) (codes "b take all\n") in
    let front : length (head ++ lines) ≡ length head + length lines = length-append head lines in
    omega (arith, small, first, middle, whole, front)

stalls_short : (s : ℕ) → length (stalls s) ≤ text_limit
stalls_short s =
    let lines : List ℕ = flat_map (λ i. drain_line (drawn s (s + i))) (range_with_len 1 8) in
    let head : List ℕ = codes "capacity " ++ decimal (capacity s) ++ codes "\n" in
    let first : length head ≤ 12 = numbered (codes "capacity ") (codes "\n") (capacity s) 2 12
    (length-decimal-le 2 (capacity s) (omega arith) (omega arith) (omega arith)) (omega arith) in
    let rest : length lines ≤ 88 = lines_long (λ i. drain_line (drawn s (s + i))) (λ i. drain_long (drawn s (s + i))) 1 8 in
    let whole : length (stalls s) ≡ length head + length lines = length-append head lines in
    omega (arith, first, rest, whole)

map_short : length map_text ≤ text_limit
map_short = let e : length map_text ≡ 54 = refl in omega (arith, e)

fits : ℕ → Bool
fits stages = nat_le (length (design stages)) text_limit

designs_fit : list_all fits (range_with_len 1 8) ≡ true
unfolding fits digits
designs_fit = refl

design_short : (s : ℕ) → length (design (stages s)) ≤ text_limit
unfolding fits
design_short s = leb-true (length (design (stages s))) text_limit (each_in fits 1 8 (stages s) designs_fit (omega arith) (omega arith))

pub texts_short : (s : ℕ) → s ≤ 6000 → AreShort (sample s)
unfolding sample
texts_short s small = record {
  design = design_short s;
  map = map_short;
  script = script_short s small;
  stalls = stalls_short s;
}
