-- What is joined of each channel's part.
use Rattle.std.proofs.Common.{◌≡◌, ℕ, suc, ◌+◌, List, [], ◌∷◌, ◌++◌, length, append_assoc, ap, sym, ◌∙◌, arith, ◌<◌, take, get_or}
use Rattle.std.proofs.lemmas.List.{append-nil, length-take-le}
use Rattle.chan_map.proofs.trace_model_lemmas.CountingLemmas.{take-more_read}
use Rattle.run_model.specs.Building.{joined}
use Rattle.chan_map.specs.trace_model.declared.channel.Channel.{Channel}

pub joined-push : (f : ℕ → List ℕ) (k : ℕ) (xs : List Channel) (x : Channel) → joined f k (xs ++ x ∷ []) ≡ joined f k xs ++ f (k + length xs)
joined-push f k [] x = append-nil (f k) ∙ ap f (let z : k ≡ k + 0 = omega arith in z)
joined-push f k (y ∷ ys) x =
    ap (λ zs. f k ++ zs) (joined-push f (k + 1) ys x)
    ∙ sym (append_assoc (f k) (joined f (k + 1) ys) (f (k + 1 + length ys)))
    ∙ ap (λ n. f k ++ joined f (k + 1) ys ++ f n) (let z : k + 1 + length ys ≡ k + suc (length ys) = omega arith in z)

pub joined-more : (f : ℕ → List ℕ) (channels : List Channel) (c : ℕ) (x : Channel) → c < length channels → x ≡ get_or channels c x
    → joined f 0 (take (c + 1) channels) ≡ joined f 0 (take c channels) ++ f c
joined-more f channels c x l e =
    ap (joined f 0) (take-more_read channels c x l e) ∙ joined-push f 0 (take c channels) x
    ∙ ap (λ n. joined f 0 (take c channels) ++ f n)
    (let k = length-take-le c channels (omega (arith, l)) in let z : 0 + length (take c channels) ≡ c = omega (arith, k) in z)
