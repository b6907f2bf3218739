-- The places of a target, one after the other.
use Rattle.std.proofs.Common.{◌≡◌, ℕ, ◌+◌, ◌/◌, ◌^◌, ◌||◌, Bool, List, [], ◌∷◌, ◌++◌, refl, ap, sym, ◌∙◌}
use Rattle.std.proofs.Common.{append_assoc, arith}
use Rattle.std.specs.List.{list_any, AllByRecursion}
use Rattle.std.proofs.Math.Nat.{add_assoc, div-div-eq-div-mul, div-one}
use Rattle.std.proofs.lemmas.Nat.{pow-add}
use Rattle.std.proofs.lemmas.List.{append-nil}
use Rattle.std.proofs.lemmas.List.Sums.{sum_by-cons}
use Rattle.std.proofs.lemmas.List.Folds.{list_any-append}
use Rattle.std.proofs.Math.Bool.{or-false}
use Rattle.vlog_tree.specs.Tree.{TargetOf, TargetsOf, MoreTargets}
use Rattle.vlog_size.specs.Names.{Readable}
use Rattle.vlog_size.specs.Size.{Sizes, sizes_of_target, sizes_of_targets}
use Rattle.net_design.specs.declared.act.Place.{Place}
use Rattle.net_design.specs.declared.values.Values.{Values}
use Rattle.net_design.specs.Updates as places
use Rattle.vlog_block.specs.Targets.{target_width, targets_width, target_updates, targets_updates}

-- the bits of a number from bit a + b on
pub high_bits : (x a b : ℕ) → x / 2 ^ (a + b) ≡ x / 2 ^ b / 2 ^ a
high_bits x a b =
    let turned : a + b ≡ b + a = omega arith in
    ap (λ n. x / 2 ^ n) turned ∙ ap (λ n. x / n) (pow-add 2 b a) ∙ sym (div-div-eq-div-mul x (2 ^ b) (2 ^ a))

width_after : (p : Place) (ps : List Place) → places.target_width (p ∷ ps) ≡ places.place_width p + places.target_width ps
width_after p ps = sum_by-cons places.place_width p ps

pub width_end : (ps : List Place) (p : Place) → places.target_width (ps ++ p ∷ []) ≡ places.target_width ps + places.place_width p
width_end [] p = refl
width_end (q ∷ qs) p =
    width_after q (qs ++ p ∷ []) ∙ ap (λ n. places.place_width q + n) (width_end qs p)
    ∙ sym (add_assoc (places.place_width q) (places.target_width qs) (places.place_width p))
    ∙ ap (λ n. n + places.place_width p) (sym (width_after q qs))

-- one more place at the end, which takes the lowest bits
pub updates_end : (ps : List Place) (p : Place) (x : ℕ) (v : Values)
    → places.target_updates (ps ++ p ∷ []) x v
    ≡ places.target_updates ps (x / 2 ^ places.place_width p) v ++ places.place_updates p x v
updates_end [] p x v = append-nil (places.place_updates p (x / 2 ^ 0) v) ∙ ap (λ y. places.place_updates p y v) (div-one x)
updates_end (q ∷ qs) p x v =
    let w = places.place_width p in
    let own : x / 2 ^ places.target_width (qs ++ p ∷ []) ≡ x / 2 ^ w / 2 ^ places.target_width qs =
    ap (λ n. x / 2 ^ n) (width_end qs p) ∙ high_bits x (places.target_width qs) w in
    ap (λ y. places.place_updates q y v ++ places.target_updates (qs ++ p ∷ []) x v) own
    ∙ ap (λ us. places.place_updates q (x / 2 ^ w / 2 ^ places.target_width qs) v ++ us) (updates_end qs p x v)
    ∙ sym (append_assoc (places.place_updates q (x / 2 ^ w / 2 ^ places.target_width qs) v)
    (places.target_updates qs (x / 2 ^ w) v) (places.place_updates p x v))

-- a test of places, with one more place at the end
pub any_end : (f : Place → Bool) (ps : List Place) (p : Place) → list_any f (ps ++ p ∷ []) ≡ (list_any f ps || f p)
any_end f ps p = list_any-append f ps (p ∷ []) ∙ ap (λ b. list_any f ps || b) (or-false (f p))

pub all_end : (P : Place → Type 0) (ps : List Place) (p : Place) → AllByRecursion P ps → P p → AllByRecursion P (ps ++ p ∷ [])
all_end P [] p h k = (k, tt)
all_end P (q ∷ qs) p h k = (h.0, all_end P qs p h.1 k)

-- ---- the parts of a target
after_part : (r : Readable) (t : TargetOf ℕ) (ts : TargetsOf ℕ)
    → targets_width r (MoreTargets t ts) ≡ target_width r t + targets_width r ts
after_part r t ts = sum_by-cons (λ (p : Sizes). p.width) (sizes_of_target r t) (sizes_of_targets r ts)

-- the places of one more part
pub part_added : (r : Readable) (t : TargetOf ℕ) (ts : TargetsOf ℕ) (old new : List Place) (v : Values)
    → ((x : ℕ) (u : Values) → places.target_updates new x u
    ≡ places.target_updates old (x / 2 ^ target_width r t) u ++ target_updates r u t x) → (x : ℕ)
    → places.target_updates new (x / 2 ^ targets_width r ts) v ++ targets_updates r v ts x
    ≡ places.target_updates old (x / 2 ^ targets_width r (MoreTargets t ts)) v ++ targets_updates r v (MoreTargets t ts) x
part_added r t ts old new v h x =
    let y = x / 2 ^ targets_width r ts in
    ap (λ us. us ++ targets_updates r v ts x) (h y v)
    ∙ append_assoc (places.target_updates old (y / 2 ^ target_width r t) v) (target_updates r v t y) (targets_updates r v ts x)
    ∙ ap (λ z. places.target_updates old z v ++ (target_updates r v t y ++ targets_updates r v ts x))
    (sym (ap (λ n. x / 2 ^ n) (after_part r t ts) ∙ high_bits x (target_width r t) (targets_width r ts)))

pub width_added : (r : Readable) (t : TargetOf ℕ) (ts : TargetsOf ℕ) (n m : ℕ) → m ≡ n + target_width r t
    → m + targets_width r ts ≡ n + targets_width r (MoreTargets t ts)
width_added r t ts n m h =
    ap (λ k. k + targets_width r ts) h ∙ add_assoc n (target_width r t) (targets_width r ts) ∙ ap (λ k. n + k) (sym (after_part r t ts))
