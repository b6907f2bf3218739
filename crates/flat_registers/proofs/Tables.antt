-- Tables to which entries are added: the value of a name is that of its first entry.
use Rattle.std.proofs.Common.{◌≡◌, ℕ, Bool, true, false, List, [], ◌∷◌, ◌++◌, Option, Some, None, is_some, if◌then◌else◌}
use Rattle.std.proofs.Common.{refl, sym, ap, ◌∙◌, append_assoc, append-nil}
use Rattle.std.proofs.lemmas.Slice.Eq.{bytes_eq-Decides}
use Rattle.std.specs.Str.{bytes_eq}
use Rattle.flat_parts.specs.vidi_bits.Findings.{or_first}
use Rattle.flat_parts.specs.vlog_size.Table.{Named, value_of, added}
use Rattle.flat_registers.specs.Tables.{with_entries}

pub entries_append : {V : Type 0} (xs ys zs : List (Named V)) → with_entries xs (ys ++ zs) ≡ with_entries (with_entries xs ys) zs
entries_append xs [] zs = refl
entries_append xs (y ∷ ys) zs = entries_append (added xs y.name y.value) ys zs

or_first_if : {V : Type 0} (b : Bool) (x : V) (o p : Option V)
    → or_first (if b then Some x else o) p ≡ (if b then Some x else or_first o p)
or_first_if true x o p = refl
or_first_if false x o p = refl

value_append : {V : Type 0} (xs ys : List (Named V)) (q : List ℕ) → value_of (xs ++ ys) q ≡ or_first (value_of xs q) (value_of ys q)
value_append [] ys q = refl
value_append (x ∷ xs) ys q =
    ap (λ o. if bytes_eq q x.name then Some x.value else o) (value_append xs ys q)
    ∙ sym (or_first_if (bytes_eq q x.name) x.value (value_of xs q) (value_of ys q))

-- a name that is there hides another entry of it
hidden : {V : Type 0} (b : Bool) (v : V) (o p : Option V) → (b ≡ true → is_some o ≡ true)
    → or_first o p ≡ or_first o (if b then Some v else p)
hidden true v None p h = let t = h refl in absurd (cc)
hidden true v (Some x) p h = refl
hidden false v o p h = refl

-- an entry counts only where none of its name stands before it
step_by : {V : Type 0} (b : Bool) (xs es : List (Named V)) (n : List ℕ) (v : V) (q : List ℕ) → is_some (value_of xs n) ≡ b
    → value_of ((if b then xs else xs ++ record { name = n; value = v } ∷ []) ++ es) q
    ≡ value_of (xs ++ record { name = n; value = v } ∷ es) q
step_by true xs es n v q e =
    value_append xs es q
    ∙ hidden (bytes_eq q n) v (value_of xs q) (value_of es q)
    (λ t. ap (λ (z : List ℕ). is_some (value_of xs z)) ((bytes_eq-Decides q n).0 t) ∙ e)
    ∙ sym (value_append xs (record { name = n; value = v } ∷ es) q)
step_by false xs es n v q e = ap (λ zs. value_of zs q) (append_assoc xs (record { name = n; value = v } ∷ []) es)

value_after : {V : Type 0} (xs es : List (Named V)) (q : List ℕ) → value_of (with_entries xs es) q ≡ value_of (xs ++ es) q
value_after xs [] q = ap (λ zs. value_of zs q) (sym (append-nil xs))
value_after xs (e ∷ es) q =
    value_after (added xs e.name e.value) es q ∙ step_by (is_some (value_of xs e.name)) xs es e.name e.value q refl

pub value_in : {V : Type 0} (es : List (Named V)) (q : List ℕ) → value_of (with_entries [] es) q ≡ value_of es q
value_in es q = value_after [] es q
