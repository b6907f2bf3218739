-- What was written after one write more.
use Rattle.std.proofs.Common.{◌≡◌, ℕ, ◌-◌, List, ◌++◌, Option, Some, None, length, take, drop, sym, ap, ◌∙◌, append_assoc, length-drop}
use Rattle.std.proofs.lemmas.List.{take-append-drop}
use Rattle.std.proofs.Math.Seq.{take-length}
use Rattle.std.specs.Io.KnownBytes.{Appends}

pub told-more : (a b c : Option (List ℕ)) (bs cs : List ℕ) → Appends a b bs → Appends b c cs → Appends a c (bs ++ cs)
told-more None b c bs cs p q = tt
told-more (Some x) None c bs cs p q = absurd p
told-more (Some x) (Some y) None bs cs p q = absurd q
told-more (Some x) (Some y) (Some z) bs cs p q = q ∙ ap (λ l. l ++ cs) p ∙ append_assoc x bs cs

pub split-more : (piece sent rest : List ℕ) (n : ℕ) → piece ≡ sent ++ rest → piece ≡ (sent ++ take n rest)
    ++ take (length rest - n) (drop n rest)
split-more piece sent rest n split =
    let left : take (length rest - n) (drop n rest) ≡ drop n rest = ap (λ k. take k (drop n rest)) (sym (length-drop n rest))
    ∙ take-length (drop n rest) in
    split ∙ ap (λ l. sent ++ l) (sym (take-append-drop n rest)) ∙ sym (append_assoc sent (take n rest) (drop n rest))
    ∙ ap (λ l. (sent ++ take n rest) ++ l) (sym left)
