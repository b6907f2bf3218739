-- Texts taken apart from their end, and paths.
use Rattle.std.proofs.Common.{◌≡◌, ℕ, zero, suc, ◌+◌, ◌-◌, ◌<◌, ◌≤◌, ◌==◌, Bool, true, false, nat_eq, List, [], ◌∷◌, ◌++◌, Option}
use Rattle.std.proofs.Common.{Some, None, MatchOption}
use Rattle.std.proofs.Common.{length, length-append, get_or, take, drop, slice_get, ⊎_elim, refl, ap, sym, ◌∙◌, append_assoc, arith}
use Rattle.std.specs.Cmp.Lexicographic.{pointwise}
use Rattle.std.proofs.Math.Seq.{drop-append_seam}
use Rattle.std.proofs.lemmas.Bool.{cases_lt, eqb-true, eq-eqb, and_parts, and_from}
use Rattle.std.proofs.lemmas.List.{take-append-drop, append_cancel_right}
use Rattle.net_order.proofs.vidi_bits_lemmas.Bools.{not_both}
use Rattle.net_design.specs.declared.design.Instance.{Instance}
use Rattle.net_design.specs.declared.design.Net.{Net}
use Rattle.net_design.specs.Names.{list_at, paths, paths_after, AreAfterParents}
use Rattle.net_sim.specs.Names.{dotted, full_name, IsCalled}
use Rattle.net_design.proofs.LawfulCode.{slice_get-at}

-- ---- equal lists
same_pointwise : (xs ys : List ℕ) → pointwise nat_eq xs ys ≡ true → xs ≡ ys
same_pointwise [] [] h = refl
same_pointwise [] (y ∷ ys) h = absurd cc
same_pointwise (x ∷ xs) [] h = absurd cc
same_pointwise (x ∷ xs) (y ∷ ys) h =
    let t = and_parts _ _ h in
    ap (λ z. z ∷ xs) (eqb-true x y t.0) ∙ ap (λ zs. y ∷ zs) (same_pointwise xs ys t.1)

pointwise_self : (xs : List ℕ) → pointwise nat_eq xs xs ≡ true
pointwise_self [] = refl
pointwise_self (x ∷ xs) = and_from _ _ (eq-eqb x x refl) (pointwise_self xs)

pub front_some : (text last front : List ℕ) → pointwise nat_eq (drop (length text - length last) text) last ≡ true
    → front ≡ take (length text - length last) text → text ≡ front ++ last
front_some text last front h e =
    let n = length text - length last in
    sym (take-append-drop n text) ∙ ap (λ zs. take n text ++ zs) (same_pointwise (drop n text) last h) ∙ ap (λ zs. zs ++ last) (sym e)

pub front_none : (text last : List ℕ) → pointwise nat_eq (drop (length text - length last) text) last ≡ false → (front : List ℕ)
    → text ≡ front ++ last → ⊥
front_none text last h front e =
    let long : length text ≡ length front + length last = ap length e ∙ length-append front last in
    let n : length text - length last ≡ length front = omega arith in
    let same : drop (length text - length last) text ≡ last = ap (λ k. drop k text) n ∙ ap (drop (length front)) e
    ∙ drop-append_seam front last in
    not_both _ (ap (λ xs. pointwise nat_eq xs last) same ∙ pointwise_self last) h

-- a text that ends in a name and a dot
pub no_dot : (text name : List ℕ) → ((front : List ℕ) → text ≡ front ++ 46 ∷ [] → ⊥) → (front : List ℕ)
    → text ≡ front ++ (name ++ 46 ∷ []) → ⊥
no_dot text name h front e = h (front ++ name) (e ∙ sym (append_assoc front name (46 ∷ [])))

pub no_name : (text rest name : List ℕ) → text ≡ rest ++ 46 ∷ [] → ((front : List ℕ) → rest ≡ front ++ name → ⊥) → (front : List ℕ)
    → text ≡ front ++ (name ++ 46 ∷ []) → ⊥
no_name text rest name dot h front e =
    h front (append_cancel_right rest (front ++ name) (46 ∷ []) (sym dot ∙ e ∙ sym (append_assoc front name (46 ∷ []))))

pub name_and_dot : (text rest front name : List ℕ) → text ≡ rest ++ 46 ∷ [] → rest ≡ front ++ name → text ≡ front ++ (name ++ 46 ∷ [])
name_and_dot text rest front name dot h = dot ∙ ap (λ xs. xs ++ 46 ∷ []) h ∙ append_assoc front name (46 ∷ [])

pub empty_from : (r : Bool) (text : List ℕ) → r ≡ (length text == 0) → r ≡ true → text ≡ []
empty_from r [] h t = refl
empty_from r (x ∷ text) h t = let z : length (x ∷ text) ≡ 0 = eqb-true _ _ (sym h ∙ t) in absurd (omega arith)

pub empty_by : (r : Bool) (text : List ℕ) → r ≡ (length text == 0) → text ≡ [] → r ≡ true
empty_by r text h e = h ∙ eq-eqb (length text) 0 (ap length e)

-- ---- paths
abbrev from_some : Option Instance → Instance → Instance
from_some (Some x) y = x
from_some None y = y

some_same : (x y : Instance) → Some x ≡ Some y → x ≡ y
some_same x y h = ap (λ o. from_some o x) h

at_front : (known more : List (List (List ℕ))) (k : ℕ) → k < length known → list_at (known ++ more) k ≡ list_at known k
at_front [] more k l = absurd (omega arith)
at_front (p ∷ known) more zero l = refl
at_front (p ∷ known) more (suc k) l = at_front known more k (omega arith)

at_end : (known : List (List (List ℕ))) (p : List (List ℕ)) → list_at (known ++ p ∷ []) (length known) ≡ p
at_end [] p = refl
at_end (q ∷ known) p = at_end known p

abbrev more : List (List (List ℕ)) → Instance → List (List (List ℕ))
more known x = known ++ (list_at known x.parent ++ x.name ∷ []) ∷ []

more_long : (known : List (List (List ℕ))) (x : Instance) → length (more known x) ≡ length known + 1
more_long known x = length-append known ((list_at known x.parent ++ x.name ∷ []) ∷ [])

kept : (known : List (List (List ℕ))) (rest : List Instance) (k : ℕ) → k < length known
    → list_at (paths_after known rest) k ≡ list_at known k
kept known [] k l = refl
kept known (x ∷ rest) k l =
    kept (more known x) rest k (let e = more_long known x in omega arith)
    ∙ at_front known ((list_at known x.parent ++ x.name ∷ []) ∷ []) k l

from_parent : (known : List (List (List ℕ))) (rest : List Instance) (k : ℕ) (x : Instance) → slice_get rest k ≡ Some x
    → ((i : ℕ) (y : Instance) → slice_get rest i ≡ Some y → y.parent < length known + i)
    → list_at (paths_after known rest) (length known + k) ≡ list_at (paths_after known rest) x.parent ++ x.name ∷ []
from_parent known [] k x h after = absurd cc
from_parent known (y ∷ rest) zero x h after =
    let same : y ≡ x = some_same y x h in
    let e = more_long known y in
    let inside : y.parent < length known = let l = after 0 y refl in omega arith in
    ap (list_at (paths_after (more known y) rest)) (omega arith)
    ∙ kept (more known y) rest (length known) (omega arith)
    ∙ at_end known (list_at known y.parent ++ y.name ∷ [])
    ∙ ap (λ p. p ++ y.name ∷ []) (sym (kept (more known y) rest y.parent (omega arith) ∙ at_front known _ y.parent inside))
    ∙ ap (λ (z : Instance). list_at (paths_after (more known y) rest) z.parent ++ z.name ∷ []) same
from_parent known (y ∷ rest) (suc k) x h after =
    let e = more_long known y in
    let n : length known + suc k ≡ length (more known y) + k = omega arith in
    ap (list_at (paths_after (more known y) rest)) n
    ∙ from_parent (more known y) rest k x h (λ i z g. let l = after (suc i) z g in omega arith)

pub path_of : (instances : List Instance) (i : ℕ) (x : Instance) → AreAfterParents instances → slice_get instances i ≡ Some x → 1 ≤ i
    → list_at (paths instances) i ≡ list_at (paths instances) x.parent ++ x.name ∷ []
path_of [] i x after h l = absurd cc
path_of (top ∷ rest) zero x after h l = absurd (omega arith)
path_of (top ∷ rest) (suc i) x after h l =
    ap (list_at (paths_after ([] ∷ []) rest)) (omega arith)
    ∙ from_parent ([] ∷ []) rest i x h (λ k y g. let b : y.parent < suc k = after (suc k) y g (omega arith) in omega arith)

pub top_path : (instances : List Instance) → list_at (paths instances) 0 ≡ []
top_path [] = refl
top_path (top ∷ rest) = kept ([] ∷ []) rest 0 (omega arith)

-- ---- a path as text
dotted_more : (path : List (List ℕ)) (name : List ℕ) → dotted (path ++ name ∷ []) ≡ dotted path ++ (name ++ 46 ∷ [])
dotted_more [] name = refl
dotted_more (p ∷ path) name = ap (λ xs. p ++ (46 ∷ xs)) (dotted_more path name) ∙ sym (append_assoc p (46 ∷ dotted path) (name ++ 46 ∷ []))

pub path_text : (instances : List Instance) (i : ℕ) (x : Instance) → AreAfterParents instances → slice_get instances i ≡ Some x → 1 ≤ i
    → dotted (list_at (paths instances) i) ≡ dotted (list_at (paths instances) x.parent) ++ (x.name ++ 46 ∷ [])
path_text instances i x after h l =
    ap dotted (path_of instances i x after h l) ∙ dotted_more (list_at (paths instances) x.parent) x.name

abbrev net_in : Option Net → Net → Net
net_in (Some x) y = x
net_in None y = y

-- ---- nets looked at one after the other
pub net_same : (x y : Net) → Some x ≡ Some y → x ≡ y
net_same x y h = ap (λ o. net_in o x) h

pub not_called : (instances : List Instance) (nets : List Net) (name : List ℕ) (m : ℕ) (x : Net) → m < length nets → x ≡ get_or nets m x
    → (full_name instances x ≡ name → ⊥) → ((k : ℕ) → k < m → IsCalled instances nets name k → ⊥) → (k : ℕ) → k < m + 1
    → IsCalled instances nets name k → ⊥
not_called instances nets name m x l e n before k h called = ⊎_elim
    (λ (a : k < m). before k a called)
    (λ (b : m ≤ k).
    let same : k ≡ m = omega arith in
    let there : slice_get nets m ≡ Some x = slice_get-at nets m x l (sym e) in
    let is : called.0 ≡ x = net_same called.0 x (sym called.1 ∙ ap (slice_get nets) same ∙ there) in
    n (ap (full_name instances) (sym is) ∙ called.2))
    (cases_lt k m)

pub match_map : {X : Type 0} (P Q : Type 0) (R S : X → Type 0) (o : Option X) → (P → Q) → ((x : X) → R x → S x) → MatchOption o P R
    → MatchOption o Q S
match_map P Q R S None f g h = f h
match_map P Q R S (Some x) f g h = g x h
