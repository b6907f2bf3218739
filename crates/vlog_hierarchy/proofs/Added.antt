-- Modules are added one by one.
use Rattle.std.proofs.Common.{◌≡◌, ℕ, suc, ◌+◌, ◌<◌, Bool, true, not, List, ◌∷◌, ◌++◌, drop, set, length, get_or}
use Rattle.std.proofs.Common.{sym, ap, subst}
use Rattle.std.proofs.Common.{◌∙◌, arith, drop-cons, append_assoc}
use Rattle.std.specs.List.{Contains}
use Rattle.std.proofs.lemmas.List.{length-set}
use Rattle.vlog_size.proofs.vidi_bits_lemmas.Lists.{head_in, tail_in}
use Rattle.vlog_size.specs.vidi_bits.Findings.{told_if}
use Rattle.vlog_hierarchy.specs.declared.outline.Child.{Child}
use Rattle.vlog_hierarchy.specs.Reach.{child_places, is_marked, marked_all, fresh, AreBelow}

split_at : (cs : List Child) (i : ℕ) (c : Child) → i < length cs → c ≡ get_or cs i c
    → child_places (drop i cs) ≡ c.place ∷ child_places (drop (i + 1) cs)
split_at cs i c within at =
    let after : suc i ≡ i + 1 = omega arith in
    ap child_places (drop-cons cs i c within ∙ ap (λ (x : Child). x ∷ drop (suc i) cs) (sym at) ∙ ap (λ k. c ∷ drop k cs) after)

pub next_in : (cs : List Child) (i : ℕ) (c : Child) → i < length cs → c ≡ get_or cs i c → Contains (child_places (drop i cs)) c.place
next_in cs i c within at =
    subst (λ (xs : List ℕ). Contains xs c.place) (sym (split_at cs i c within at)) (head_in c.place (child_places (drop (i + 1) cs)))

pub next_added : (cs : List Child) (i : ℕ) (c : Child) (marks now : List Bool) (found all : List ℕ) (w : List Bool) (v : List ℕ)
    → i < length cs → c ≡ get_or cs i c
    → AreBelow (length marks) (child_places (drop i cs)) → marked_all marks (child_places (drop i cs)) ≡ w
    → found ++ fresh marks (child_places (drop i cs)) ≡ v
    → now ≡ set marks c.place true → all ≡ found ++ told_if (not (is_marked marks c.place)) c.place
    → AreBelow (length now) (child_places (drop (i + 1) cs)) × (marked_all now (child_places (drop (i + 1) cs)) ≡ w)
    × (all ++ fresh now (child_places (drop (i + 1) cs)) ≡ v)
next_added cs i c marks now found all w v within at below m f is grew =
    let split = split_at cs i c within at in
    let rest : List ℕ = child_places (drop (i + 1) cs) in
    let new : List ℕ = told_if (not (is_marked marks c.place)) c.place in
    let long : length now ≡ length marks = ap (λ (x : List Bool). length x) is ∙ length-set marks c.place true in (
      (λ k h.
          let l : k < length marks = below k (subst (λ (xs : List ℕ). Contains xs k) (sym split) (tail_in c.place rest k h)) in
          omega (arith, l, long)),
      ap (λ (x : List Bool). marked_all x rest) is ∙ sym (ap (marked_all marks) split) ∙ m,
      ap (λ (xs : List ℕ). xs ++ fresh now rest) grew ∙ ap (λ (x : List Bool). (found ++ new) ++ fresh x rest) is
          ∙ append_assoc found new (fresh (set marks c.place true) rest)
          ∙ sym (ap (λ (ks : List ℕ). found ++ fresh marks ks) split) ∙ f,
    )
