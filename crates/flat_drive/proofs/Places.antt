-- The text at a place of a list of lists.
use Rattle.std.proofs.Common.{◌≡◌, ℕ, zero, suc, ◌+◌, ◌-◌, ◌<◌, ◌≤◌, List, [], ◌∷◌, ◌++◌, map, length, drop, get_or, slice_get}
use Rattle.std.proofs.Common.{Some, None, refl, sym, ap, subst, ◌∙◌, arith}
use Rattle.std.specs.List.{flat_map}
use Rattle.std.proofs.lemmas.List.{drop_all}
use Rattle.std.proofs.lemmas.Option.{same_Some}
use Rattle.net_design.proofs.UpdateLaws.{from_here}
use Rattle.flat_parts.specs.vlog_elab.Instances.{ModuleInstance}
use Rattle.flat_parts.specs.vlog_elab.declared.instance.ModuleInstance as code
use Rattle.flat_parts.specs.vlog_elab.Plain.{plain_instance, plain_instances}
use Rattle.flat_parts.specs.vlog_size.Table.{Named}
use Rattle.flat_parts.specs.vlog_driver.Names.{Full}
use Rattle.flat_drive.specs.Reasons.{dotted, dotted_all, text_at, instance_nets, instance_memories, net_texts, memory_texts}

pub in_front : (xs ys : List (List ℕ)) (k : ℕ) → k < length xs → text_at (xs ++ ys) k ≡ text_at xs k
in_front [] ys k l = absurd (omega (arith, l))
in_front (x ∷ xs) ys zero l = refl
in_front (x ∷ xs) ys (suc k) l = in_front xs ys k (omega (arith, l))

pub behind : (xs ys : List (List ℕ)) (k : ℕ) → length xs ≤ k → text_at (xs ++ ys) k ≡ text_at ys (k - length xs)
behind [] ys k l = let same : k ≡ k - 0 = omega arith in ap (text_at ys) same
behind (x ∷ xs) ys zero l = absurd (omega (arith, l))
behind (x ∷ xs) ys (suc k) l =
    behind xs ys k (omega (arith, l)) ∙ (let same : k - length xs ≡ suc k - suc (length xs) = omega arith in ap (text_at ys) same)

pub long : {V : Type 0} (path : Full) (xs : List (Named V)) → length (dotted_all path xs) ≡ length xs
long path [] = refl
long path (x ∷ xs) = ap suc (long path xs)

pub at_some : {V : Type 0} (path : Full) (xs : List (Named V)) (k : ℕ) (n : List ℕ) → Some n ≡ slice_get (map (λ x. x.name) xs) k
    → dotted path n ≡ text_at (dotted_all path xs) k
at_some path [] k n e = absurd cc
at_some path (x ∷ xs) zero n e = ap (dotted path) (same_Some n x.name e)
at_some path (x ∷ xs) (suc k) n e = at_some path xs k n e

pub at_none : {V : Type 0} (path : Full) (xs : List (Named V)) (k : ℕ) → None ≡ slice_get (map (λ x. x.name) xs) k
    → [] ≡ text_at (dotted_all path xs) k
at_none path [] k e = refl
at_none path (x ∷ xs) zero e = absurd cc
at_none path (x ∷ xs) (suc k) e = at_none path xs k e

-- where the instance has so many places, the text is one of its; else it is further on
pub text_here : (f : ModuleInstance → List (List ℕ)) (is : List code.ModuleInstance) (i left at count : ℕ) (x : code.ModuleInstance)
    → i < length is → x ≡ get_or is i x → length (f (plain_instance x)) ≡ count → left < count
    → text_at (flat_map f (plain_instances (drop i is))) left ≡ text_at (flat_map f (plain_instances is)) at
    → text_at (f (plain_instance x)) left ≡ text_at (flat_map f (plain_instances is)) at
text_here f is i left at count x within same long less h =
    sym (in_front (f (plain_instance x)) (flat_map f (plain_instances (drop (i + 1) is))) left (subst (λ n. left < n) (sym long) less))
    ∙ sym (ap (λ (ys : List code.ModuleInstance). text_at (flat_map f (plain_instances ys)) left) (from_here is i x within same)) ∙ h

pub text_later : (f : ModuleInstance → List (List ℕ)) (is : List code.ModuleInstance) (i left at count : ℕ) (x : code.ModuleInstance)
    → i < length is → x ≡ get_or is i x → length (f (plain_instance x)) ≡ count → count ≤ left
    → text_at (flat_map f (plain_instances (drop i is))) left ≡ text_at (flat_map f (plain_instances is)) at
    → text_at (flat_map f (plain_instances (drop (i + 1) is))) (left - count) ≡ text_at (flat_map f (plain_instances is)) at
text_later f is i left at count x within same long more h =
    ap (λ n. text_at (flat_map f (plain_instances (drop (i + 1) is))) (left - n)) (sym long)
    ∙ sym (behind (f (plain_instance x)) (flat_map f (plain_instances (drop (i + 1) is))) left (subst (λ n. n ≤ left) (sym long) more))
    ∙ sym (ap (λ (ys : List code.ModuleInstance). text_at (flat_map f (plain_instances ys)) left) (from_here is i x within same)) ∙ h

pub text_none : (f : ModuleInstance → List (List ℕ)) (is : List code.ModuleInstance) (i left at : ℕ) → length is ≤ i
    → text_at (flat_map f (plain_instances (drop i is))) left ≡ text_at (flat_map f (plain_instances is)) at
    → [] ≡ text_at (flat_map f (plain_instances is)) at
text_none f is i left at over h =
    sym (ap (λ (ys : List code.ModuleInstance). text_at (flat_map f (plain_instances ys)) left) (drop_all i is over)) ∙ h

-- the texts of all instances
pub all_net_texts : (is : List ModuleInstance) (at : ℕ) → text_at (flat_map instance_nets is) at ≡ text_at (net_texts is) at
unfolding net_texts
all_net_texts is at = refl

pub all_memory_texts : (is : List ModuleInstance) (at : ℕ) → text_at (flat_map instance_memories is) at ≡ text_at (memory_texts is) at
unfolding memory_texts
all_memory_texts is at = refl
