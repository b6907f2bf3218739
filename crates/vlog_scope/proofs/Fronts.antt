-- Fronts of lists of parameters and of memories.
use Rattle.std.proofs.Common.{◌≡◌, ◌<◌, ℕ, zero, suc, ◌+◌, List, [], ◌∷◌, take, length, Some, refl, ap, sym, ◌∙◌, arith}
use Rattle.std.proofs.lemmas.List.Sums.{sum_by-cons}
use Rattle.vlog_size.specs.Table.{Named, place_of}
use Rattle.std.proofs.lemmas.List.Quantifiers.{position-Some}
use Rattle.std.specs.Str.{bytes_eq}
use Rattle.vlog_size.specs.declared.scope.Param.{Param}
use Rattle.vlog_size.specs.declared.scope.ScopeMemory.{ScopeMemory}
use Rattle.vlog_scope.specs.Scope.{words_of, words_at}

pub place_below : (xs : List (Named Param)) (name : List ℕ) (k : ℕ) → place_of xs name ≡ Some k → k < length xs
place_below [] name k h = (cc)
place_below (x ∷ xs) name k h = (position-Some (λ (y : Named Param). bytes_eq name y.name) (x ∷ xs) k x h).0

sum_end : (p q s : ℕ) → p + (q + s) ≡ p + q + s
sum_end p q s = omega arith

words_cons : (x : Named ScopeMemory) (xs : List (Named ScopeMemory)) → words_of (x ∷ xs) ≡ x.value.length + words_of xs
words_cons x xs = sum_by-cons (λ (m : Named ScopeMemory). m.value.length) x xs

next_words : (ms : List (Named ScopeMemory)) (k : ℕ) → words_of (take (suc k) ms) ≡ words_of (take k ms) + words_at ms k
next_words [] zero = refl
next_words [] (suc k) = refl
next_words (x ∷ xs) zero = refl
next_words (x ∷ xs) (suc k) =
    words_cons x (take (suc k) xs)
    ∙ (ap (λ n. x.value.length + n) (next_words xs k)
    ∙ (sum_end x.value.length (words_of (take k xs)) (words_at xs k) ∙ ap (λ n. n + words_at xs k) (sym (words_cons x (take k xs)))))

pub words_step : (ms : List (Named ScopeMemory)) (k : ℕ) → words_of (take (k + 1) ms) ≡ words_of (take k ms) + words_at ms k
words_step ms k = let e : k + 1 ≡ suc k = omega arith in ap (λ n. words_of (take n ms)) e ∙ next_words ms k
