-- Pins entered one after the other.
use Rattle.std.proofs.Common.{◌≡◌, ℕ, zero, suc, ◌+◌, ◌<◌, Bool, true, false, List, [], ◌∷◌, ◌++◌, length, get_or, take, drop}
use Rattle.std.proofs.Common.{slice_index, slice_set, if◌then◌else◌, refl, ap, sym, ◌∙◌, append_assoc, arith}
use Rattle.std.proofs.lemmas.List.{take_more_set, drop-drop, drop-set-lt}
use Rattle.net_design.specs.declared.design.Port.{Port}
use Rattle.net_design.proofs.UpdateLaws.{from_here}
use Rattle.net_order.specs.Run.{enters, entered}

index_drop : (xs : List ℕ) (j : ℕ) → slice_index (drop j xs) 0 ≡ slice_index xs j
index_drop [] zero = refl
index_drop [] (suc j) = refl
index_drop (x ∷ xs) zero = refl
index_drop (x ∷ xs) (suc j) = index_drop xs j

next_drop : (b : Bool) (xs : List ℕ) (j : ℕ) → (if b then drop 1 (drop j xs) else drop j xs) ≡ drop (if b then j + 1 else j) xs
next_drop true xs j = drop-drop 1 j xs
next_drop false xs j = refl

at_index : (nets : List ℕ) (k : ℕ) → k < length nets → slice_index nets k ≡ get_or nets k (slice_index nets k)
at_index [] k l = absurd (omega arith)
at_index (x ∷ nets) zero l = refl
at_index (x ∷ nets) (suc k) l = at_index nets k (omega arith)

pub enter_step : (ports : List Port) (pins now new : List ℕ) (k j next : ℕ) (p : Port) → k < length ports → p ≡ get_or ports k p
    → k < length now → next ≡ (if enters p then j + 1 else j)
    → new ≡ slice_set now k (if enters p then slice_index pins j else slice_index now k)
    → take (k + 1) new ++ entered (drop (k + 1) ports) (drop next pins) (drop (k + 1) new)
    ≡ take k now ++ entered (drop k ports) (drop j pins) (drop k now)
enter_step ports pins now new k j next p l e h is made =
    let x : ℕ = slice_index now k in
    let y : ℕ = if enters p then slice_index pins j else x in
    let rest : List ℕ = drop (k + 1) now in
    let later : List Port = drop (k + 1) ports in
    let first : take (k + 1) new ≡ take k now ++ y ∷ [] = ap (take (k + 1)) made ∙ take_more_set now k y h in
    let last : drop (k + 1) new ≡ rest = ap (drop (k + 1)) made ∙ drop-set-lt (k + 1) now k y (omega arith) in
    let one : entered (drop k ports) (drop j pins) (drop k now) ≡ y ∷ entered later (drop next pins) rest =
    ap (λ ps. entered ps (drop j pins) (drop k now)) (from_here ports k p l e)
    ∙ ap (λ ns. entered (p ∷ later) (drop j pins) ns) (from_here now k x h (at_index now k h))
    ∙ ap (λ n. (if enters p then n else x) ∷ entered later (if enters p then drop 1 (drop j pins) else drop j pins) rest)
    (index_drop pins j)
    ∙ ap (λ ps. y ∷ entered later ps rest) (next_drop (enters p) pins j ∙ ap (λ n. drop n pins) (sym is)) in
    ap (λ ts. ts ++ entered later (drop next pins) (drop (k + 1) new)) first
    ∙ ap (λ ns. (take k now ++ y ∷ []) ++ entered later (drop next pins) ns) last
    ∙ append_assoc (take k now) (y ∷ []) (entered later (drop next pins) rest)
    ∙ ap (λ ts. take k now ++ ts) (sym one)

pub no_nets : (ports : List Port) (pins : List ℕ) → entered ports pins [] ≡ []
no_nets [] pins = refl
no_nets (p ∷ ports) pins = refl
