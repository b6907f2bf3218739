-- Names that differ, along a list of channels.
use Rattle.std.proofs.Common.{◌≡◌, ◌≢◌, ℕ, ◌+◌, ◌<◌, List, [], ◌∷◌, ◌++◌, length, get_or, take, sym, ap, ◌∙◌, subst, arith}
use Rattle.std.specs.List.{AllPairs, Any}
use Rattle.std.proofs.lemmas.List.{get_or_default, get_or-take, length-take, take_more}
use Rattle.std.proofs.lemmas.List.Quantifiers.{all_pairs_push}
use Rattle.vec_clock.specs.trace_model.declared.channel.Channel.{Channel}

abbrev pub NamesDiffer : List Channel → Type 0
NamesDiffer channels = AllPairs (λ (a b : Channel). a.name ≢ b.name) channels

abbrev pub HasName : List Channel → List ℕ → Type 0
HasName channels name = Any (λ (c : Channel). c.name ≡ name) channels

pub clash : (cs : List Channel) (i : ℕ) (c : Channel) → i < length cs → c ≡ get_or cs i c → HasName (take i cs) c.name → ¬ NamesDiffer cs
clash cs i c lt at w apart =
    let below : w.0 < i = omega (arith, w.2, length-take i cs) in
    let first : get_or cs w.0 w.1 ≡ w.1 = sym (get_or-take i cs w.0 w.1 below) ∙ w.3 in
    let second : get_or cs i w.1 ≡ c = get_or_default cs i w.1 c lt ∙ sym at in
    apart w.0 i w.1 below lt (ap (λ (x : Channel). x.name) first ∙ w.4 ∙ ap (λ (x : Channel). x.name) (sym second))

pub apart_more : (cs : List Channel) (i : ℕ) (c : Channel) → i < length cs → c ≡ get_or cs i c → ¬ HasName (take i cs) c.name
    → NamesDiffer (take i cs) → NamesDiffer (take (i + 1) cs)
apart_more cs i c lt at none apart =
    let push : take (i + 1) cs ≡ take i cs ++ c ∷ [] = take_more cs i c lt ∙ ap (λ (x : Channel). take i cs ++ x ∷ []) (sym at) in
    subst NamesDiffer (sym push) (all_pairs_push (λ (a b : Channel). a.name ≢ b.name) (take i cs) c apart
    (λ k d below e. none (k, get_or (take i cs) k d, below, get_or_default (take i cs) k (get_or (take i cs) k d) d below, e)))
