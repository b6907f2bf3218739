-- Loops that add one piece for each number.
use Rattle.std.proofs.Common.{◌≡◌, ℕ, zero, suc, ◌+◌, ◌-◌, ◌<◌, List, [], ◌∷◌, ◌++◌, length, refl, ap, ◌∙◌, append_assoc, arith}
use Rattle.vlog_tree.specs.Tree.{ExprOf, MoreStmts, stmts_of}
use Rattle.shim_trees.specs.Pieces.{each, upto, both}
use Rattle.shim_trees.specs.Replayer.{covers, covering, counting}
use Rattle.shim_gen.specs.Counting.{counted}

one_less : (j count : ℕ) → j < count → suc (count - (j + 1)) ≡ count - j
one_less j count low = omega (arith, low)

-- what is added and what is left make the same list as before
pub upto_pushed : {Y : Type 0} (f : ℕ → Y) (old new all : List Y) (j count : ℕ) → j < count → new ≡ old ++ f j ∷ []
    → old ++ upto f j (count - j) ≡ all → new ++ upto f (j + 1) (count - (j + 1)) ≡ all
upto_pushed f old new all j count low push before =
    ap (λ xs. xs ++ upto f (j + 1) (count - (j + 1))) push
    ∙ append_assoc old (f j ∷ []) (upto f (j + 1) (count - (j + 1)))
    ∙ ap (λ (k : ℕ). old ++ upto f j k) (one_less j count low)
    ∙ before

-- one more counter is compared
pub covering_on : (e new all : ExprOf ℕ) (j count : ℕ) → j < count → new ≡ both e (covers j) → covering j (count - j) e ≡ all
    → covering (j + 1) (count - (j + 1)) new ≡ all
covering_on e new all j count low is before =
    ap (covering (j + 1) (count - (j + 1))) is
    ∙ ap (λ (k : ℕ). covering j k e) (one_less j count low)
    ∙ before

-- the counting block is a list of statements
pub counting_is : (j count : ℕ) → stmts_of (upto counted j count) ≡ counting j count
counting_is j zero = refl
counting_is j (suc count) = ap (MoreStmts (counted j)) (counting_is (j + 1) count)

-- one for each element of a list, whatever it is, is one for each of as many numbers
pub each_is_upto : {X Y : Type 0} (f : ℕ → Y) (k : ℕ) (xs : List X) → each (λ i _. f i) k xs ≡ upto f k (length xs)
each_is_upto f k [] = refl
each_is_upto f k (x ∷ xs) = ap (λ ys. f k ∷ ys) (each_is_upto f (k + 1) xs)
