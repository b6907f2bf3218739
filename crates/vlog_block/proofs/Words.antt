-- The words of the memories before a place.
use Rattle.std.proofs.Common.{◌≡◌, ℕ, zero, suc, ◌+◌, List, [], ◌∷◌, Some, map, slice_get, refl, ap, sym, ◌∙◌, arith}
use Rattle.std.proofs.Math.Nat.{add_assoc}
use Rattle.vlog_size.specs.Table.{Named}
use Rattle.vlog_size.specs.declared.scope.ScopeMemory.{ScopeMemory}
use Rattle.vlog_block.specs.Sources.{words_before}

some_length : (a b : ScopeMemory) → Some a ≡ Some b → a.length ≡ b.length
some_length a b h = let e : a ≡ b = (cc) in ap (λ (m : ScopeMemory). m.length) e

pub none_before : (ms : List (Named ScopeMemory)) → words_before ms zero ≡ 0
none_before [] = refl
none_before (x ∷ xs) = refl

swap : (p : ℕ) → p + 0 ≡ 0 + p
swap p = omega arith

next_words : (ms : List (Named ScopeMemory)) (k : ℕ) (m : ScopeMemory)
    → slice_get (map (λ (x : Named ScopeMemory). x.value) ms) k ≡ Some m → words_before ms (suc k) ≡ words_before ms k + m.length
next_words [] zero m h = (cc)
next_words [] (suc k) m h = (cc)
next_words (x ∷ xs) zero m h = ap (λ n. x.value.length + n) (none_before xs) ∙ (ap (λ n. n + 0) (some_length x.value m h) ∙ swap m.length)
next_words (x ∷ xs) (suc k) m h =
    let rest : words_before xs (suc k) ≡ words_before xs k + m.length = next_words xs k m h in
    ap (λ n. x.value.length + n) rest ∙ sym (add_assoc x.value.length (words_before xs k) m.length)

pub words_step : (ms : List (Named ScopeMemory)) (k : ℕ) (m : ScopeMemory)
    → slice_get (map (λ (x : Named ScopeMemory). x.value) ms) k ≡ Some m → words_before ms (k + 1) ≡ words_before ms k + m.length
words_step ms k m h = let e : k + 1 ≡ suc k = omega arith in ap (λ n. words_before ms n) e ∙ next_words ms k m h
