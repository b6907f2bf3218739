-- A walk over places of a list, which adds what belongs to each.
use Rattle.std.proofs.Common.{◌≡◌, ℕ, zero, suc, ◌+◌, ◌<◌, List, [], ◌∷◌, ◌++◌, length, map, drop, get_or, slice_get, Some, option_map}
use Rattle.std.proofs.Common.{sym, ap, subst, ◌∙◌, append_assoc, append-nil, arith}
use Rattle.std.proofs.lemmas.Option.{slice_get-get_or, slice_get-map}
use Rattle.std.specs.List.{flat_map, AllByRecursion}
use Rattle.flat_parts.proofs.vidi_bits_lemmas.Lists.{some_same}
use Rattle.flat_parts.specs.vlog_size.declared.scope.ScopeNet.{ScopeNet}
use Rattle.flat_parts.specs.vlog_size.Table.{Named}
use Rattle.net_design.proofs.UpdateLaws.{from_here}

pub drop_split : {X : Type 0} (xs : List X) (j : ℕ) (x : X) → slice_get xs j ≡ Some x → drop j xs ≡ x ∷ drop (j + 1) xs
drop_split [] j x h = absurd (cc)
drop_split (y ∷ ys) zero x h = ap (λ z. z ∷ ys) (some_same y x h)
drop_split (y ∷ ys) (suc j) x h =
    let e : suc (j + 1) ≡ suc j + 1 = omega arith in
    drop_split ys j x h ∙ ap (λ i. x ∷ drop i (y ∷ ys)) e

-- what is left after a step, and what was added in it
pub step_left : {X A : Type 0} (left : ℕ → List A) (own : X → List A) (xs : List X) (j : ℕ) (x : X) (old new whole : List A)
    → slice_get xs j ≡ Some x → (slice_get xs j ≡ Some x → new ≡ old ++ own x) → left j ≡ own x ++ left (j + 1) → old ++ left j ≡ whole
    → new ++ left (j + 1) ≡ whole
step_left left own xs j x old new whole h is split e =
    ap (λ z. z ++ left (j + 1)) (is h) ∙ append_assoc old (own x) (left (j + 1)) ∙ ap (λ z. old ++ z) (sym split) ∙ e

-- the same over plain elements
pub flat_step : {X Y A : Type 0} (own : X → List A) (plain : Y → X) (xs : List Y) (i : ℕ) (x : Y) (old new whole : List A)
    → i < length xs → x ≡ get_or xs i x → new ≡ old ++ own (plain x) → old ++ flat_map own (map plain (drop i xs)) ≡ whole
    → new ++ flat_map own (map plain (drop (i + 1) xs)) ≡ whole
flat_step own plain xs i x old new whole l at is e =
    ap (λ z. z ++ flat_map own (map plain (drop (i + 1) xs))) is
    ∙ append_assoc old (own (plain x)) (flat_map own (map plain (drop (i + 1) xs)))
    ∙ ap (λ z. old ++ z) (sym (ap (λ z. flat_map own (map plain z)) (from_here xs i x l at))) ∙ e

-- what holds of all plain elements holds of that of an element
pub plain_at : {X Y : Type 0} (P : X → Type 0) (plain : Y → X) (xs : List Y) (i : ℕ) (x : Y) → i < length xs → x ≡ get_or xs i x
    → AllByRecursion P (map plain xs) → P (plain x)
plain_at P plain [] i x l at h = absurd (omega (arith, l))
plain_at P plain (y ∷ ys) zero x l at h = subst (λ z. P (plain z)) (sym at) h.0
plain_at P plain (y ∷ ys) (suc i) x l at h = plain_at P plain ys i x (omega (arith, l)) at h.1

-- nothing is left
pub done_by : {A : Type 0} (old left whole : List A) → left ≡ [] → old ++ left ≡ whole → old ≡ whole
done_by old left whole e h = sym (append-nil old) ∙ ap (λ z. old ++ z) (sym e) ∙ h

no_net : Named ScopeNet
no_net = record { name = []; value = record { width = 0 } }

-- the net that is at a place
pub net_at : List (Named ScopeNet) → ℕ → Named ScopeNet
net_at nets j = get_or nets j no_net

pub is_at : (nets : List (Named ScopeNet)) (j : ℕ) → j < length nets → slice_get nets j ≡ Some (net_at nets j)
unfolding net_at
is_at nets j l = slice_get-get_or nets j no_net l

-- its name and its value
pub name_at : (nets : List (Named ScopeNet)) (j : ℕ) (n : Named ScopeNet) (name : List ℕ) → slice_get nets j ≡ Some n
    → Some name ≡ slice_get (map (λ (x : Named ScopeNet). x.name) nets) j → name ≡ n.name
name_at nets j n name h e =
    some_same name n.name (e ∙ slice_get-map (λ (x : Named ScopeNet). x.name) nets j ∙ ap (option_map (λ (x : Named ScopeNet). x.name)) h)

pub value_at : (nets : List (Named ScopeNet)) (j : ℕ) (n : Named ScopeNet) (v : ScopeNet) → slice_get nets j ≡ Some n
    → Some v ≡ slice_get (map (λ (x : Named ScopeNet). x.value) nets) j → v ≡ n.value
value_at nets j n v h e =
    some_same v n.value (e ∙ slice_get-map (λ (x : Named ScopeNet). x.value) nets j ∙ ap (option_map (λ (x : Named ScopeNet). x.value)) h)
