-- Numbers of names, and a table that grows net by net.
use Rattle.std.proofs.Common.{◌≡◌, ℕ, zero, suc, ◌+◌, ◌<◌, ◌≤◌, ◌==◌, Bool, true, false, nat_eq, cond, if◌then◌else◌, List, [], ◌∷◌, ◌++◌}
use Rattle.std.proofs.Common.{Option, Some, None, is_some, length, length-append, get_or, slice_get, slice_index, ⊎_elim, refl, ap, sym, subst, ◌∙◌, arith}
use Rattle.std.specs.Map.{lookup}
use Rattle.std.proofs.lemmas.Bool.{cases_lt, eqb-true, eq-eqb}
use Rattle.indexmap.specs.IndexMap.{insert_entry}
use Rattle.net_design.specs.declared.design.Instance.{Instance}
use Rattle.net_design.specs.declared.design.Net.{Net}
use Rattle.net_design.specs.declared.design.Design.{Design}
use Rattle.net_design.specs.Names.{list_at, paths, AreAfterParents}
use Rattle.net_design.proofs.LawfulCode.{slice_get-at}
use Rattle.std.proofs.lemmas.Option.{slice_get_within}
use Rattle.net_sim.specs.Names.{dotted, IsCalled}
use Rattle.net_sim.specs.Table.{hash_from, path_hash, name_hash, ArePaths, IsTable}
use Rattle.net_sim.proofs.NameLaws.{top_path, path_text, net_same}

-- ---- numbers of texts
pub hash_both : (xs ys : List ℕ) (h : ℕ) → hash_from h (xs ++ ys) ≡ hash_from (hash_from h xs) ys
hash_both [] ys h = refl
hash_both (x ∷ xs) ys h = hash_both xs ys _

path_next : (instances : List Instance) (i : ℕ) (x : Instance) → AreAfterParents instances → slice_get instances i ≡ Some x → 1 ≤ i
    → path_hash instances i ≡ hash_from (hash_from (path_hash instances x.parent) x.name) (46 ∷ [])
path_next instances i x after h some =
    let front = dotted (list_at (paths instances) x.parent) in
    ap (hash_from 0) (path_text instances i x after h some) ∙ hash_both front (x.name ++ 46 ∷ []) 0
    ∙ hash_both x.name (46 ∷ []) (hash_from 0 front)

is_other : (b : Bool) (x y : ℕ) → (b ≡ true → ⊥) → (if b then x else y) ≡ y
is_other true x y f = absurd (f refl)
is_other false x y f = refl

pub one_path : (instances : List Instance) (hashes : List ℕ) (i : ℕ) (x : Instance) (r : ℕ) → AreAfterParents instances
    → i < length instances → x ≡ get_or instances i x → ArePaths instances i hashes
    → r ≡ (if i == 0 then 0 else hash_from (hash_from (slice_index hashes x.parent) x.name) (46 ∷ []))
    → r ≡ path_hash instances i
one_path instances hashes zero x r after l e are is = is ∙ ap (λ p. hash_from 0 (dotted p)) (sym (top_path instances))
one_path instances hashes (suc i) x r after l e are is =
    let there = slice_get-at instances (suc i) x l (sym e) in
    let some : 1 ≤ suc i = omega arith in
    is ∙ is_other (suc i == 0) 0 (hash_from (hash_from (slice_index hashes x.parent) x.name) (46 ∷ []))
    (λ h. let z : suc i ≡ 0 = eqb-true (suc i) 0 h in absurd (omega (arith, z)))
    ∙ ap (λ h. hash_from (hash_from h x.name) (46 ∷ [])) (are.each x.parent (after (suc i) x there some))
    ∙ sym (path_next instances (suc i) x after there some)

index_front : (xs ys : List ℕ) (k : ℕ) → k < length xs → slice_index (xs ++ ys) k ≡ slice_index xs k
index_front [] ys k l = absurd (omega arith)
index_front (x ∷ xs) ys zero l = refl
index_front (x ∷ xs) ys (suc k) l = index_front xs ys k (omega arith)

index_end : (xs : List ℕ) (y : ℕ) → slice_index (xs ++ y ∷ []) (length xs) ≡ y
index_end [] y = refl
index_end (x ∷ xs) y = index_end xs y

pub more_paths : (instances : List Instance) (hashes new : List ℕ) (i r : ℕ) → ArePaths instances i hashes → r ≡ path_hash instances i
    → new ≡ hashes ++ r ∷ [] → ArePaths instances (i + 1) new
more_paths instances hashes new i r are is e = subst (ArePaths instances (i + 1)) (sym e) (record {
  long = length-append hashes (r ∷ []) ∙ ap (λ n. n + 1) are.long;
  each = λ k l. ⊎_elim
      (λ (a : k < i). index_front hashes (r ∷ []) k (subst (λ n. k < n) (sym are.long) a) ∙ are.each k a)
      (λ (b : i ≤ k). let same : k ≡ length hashes = (let n = are.long in omega (arith, l, b, n)) in
      let last : k ≡ i = omega (arith, l, b) in
      ap (slice_index (hashes ++ r ∷ [])) same ∙ index_end hashes r ∙ is ∙ ap (path_hash instances) (sym last))
      (cases_lt k i);
})

pub no_paths : (instances : List Instance) (hashes : List ℕ) → hashes ≡ [] → ArePaths instances 0 hashes
no_paths instances hashes e = record { long = ap length e; each = λ k l. absurd (omega (arith, l)) }

-- ---- entries
some_either : (c : Bool) (v m : ℕ) (o : Option ℕ) → is_some (cond c (Some v) o) ≡ true → is_some (cond c (Some m) o) ≡ true
some_either true v m o h = refl
some_either false v m o h = h

some_rest : (c : Bool) (v : ℕ) (o p : Option ℕ) → (is_some o ≡ true → is_some p ≡ true) → is_some (cond c (Some v) o) ≡ true
    → is_some (cond c (Some v) p) ≡ true
some_rest true v o p f h = refl
some_rest false v o p f h = f h

still_step : (b : Bool) (q k v m : ℕ) (es rest : List (ℕ × ℕ))
    → (is_some (lookup (nat_eq q) es) ≡ true → is_some (lookup (nat_eq q) rest) ≡ true)
    → is_some (lookup (nat_eq q) ((k, v) ∷ es)) ≡ true → is_some (lookup (nat_eq q) (if b then (k, m) ∷ es else (k, v) ∷ rest)) ≡ true
still_step true q k v m es rest f h = some_either (nat_eq q k) v m (lookup (nat_eq q) es) h
still_step false q k v m es rest f h = some_rest (nat_eq q k) v (lookup (nat_eq q) es) (lookup (nat_eq q) rest) f h

still : (es : List (ℕ × ℕ)) (h m q : ℕ) → is_some (lookup (nat_eq q) es) ≡ true
    → is_some (lookup (nat_eq q) (insert_entry nat_eq es h m)) ≡ true
still [] h m q s = absurd cc
still (e ∷ es) h m q s = still_step (nat_eq h e.0) q e.0 e.1 m es (insert_entry nat_eq es h m) (still es h m q) s

first_some : (c : Bool) (v : ℕ) (o : Option ℕ) → c ≡ true → is_some (cond c (Some v) o) ≡ true
first_some true v o h = refl
first_some false v o h = absurd cc

rest_some : (c : Bool) (v : ℕ) (o : Option ℕ) → is_some o ≡ true → is_some (cond c (Some v) o) ≡ true
rest_some true v o h = refl
rest_some false v o h = h

put_step : (b : Bool) (h k v m : ℕ) (es rest : List (ℕ × ℕ)) → nat_eq h k ≡ b → is_some (lookup (nat_eq h) rest) ≡ true
    → is_some (lookup (nat_eq h) (if b then (k, m) ∷ es else (k, v) ∷ rest)) ≡ true
put_step true h k v m es rest e s = first_some (nat_eq h k) m (lookup (nat_eq h) es) e
put_step false h k v m es rest e s = rest_some (nat_eq h k) v (lookup (nat_eq h) rest) s

put : (es : List (ℕ × ℕ)) (h m : ℕ) → is_some (lookup (nat_eq h) (insert_entry nat_eq es h m)) ≡ true
put [] h m = first_some (nat_eq h h) m None (eq-eqb h h refl)
put (e ∷ es) h m = put_step (nat_eq h e.0) h e.0 e.1 m es (insert_entry nat_eq es h m) refl (put es h m)

-- what is found is below a number
abbrev IsBelow : ℕ → Option ℕ → Type 0
IsBelow n o = (x : ℕ) → o ≡ Some x → x < n

abbrev number_in : Option ℕ → ℕ → ℕ
number_in None d = d
number_in (Some x) d = x

some_below : (n m : ℕ) → m < n → IsBelow n (Some m)
some_below n m l x h = subst (λ k. k < n) (ap (λ o. number_in o m) h) l

none_below : (n : ℕ) → IsBelow n None
none_below n x h = absurd cc

first_below : (c : Bool) (v m n : ℕ) (o : Option ℕ) → m < n → IsBelow n (cond c (Some v) o) → IsBelow n (cond c (Some m) o)
first_below true v m n o l f = some_below n m l
first_below false v m n o l f = f

rest_below : (c : Bool) (v n : ℕ) (o p : Option ℕ) → (IsBelow n o → IsBelow n p) → IsBelow n (cond c (Some v) o)
    → IsBelow n (cond c (Some v) p)
rest_below true v n o p g f = f
rest_below false v n o p g f = g f

below_step : (b : Bool) (q k v m n : ℕ) (es rest : List (ℕ × ℕ)) → m < n
    → (IsBelow n (lookup (nat_eq q) es) → IsBelow n (lookup (nat_eq q) rest)) → IsBelow n (lookup (nat_eq q) ((k, v) ∷ es))
    → IsBelow n (lookup (nat_eq q) (if b then (k, m) ∷ es else (k, v) ∷ rest))
below_step true q k v m n es rest l g f = first_below (nat_eq q k) v m n (lookup (nat_eq q) es) l f
below_step false q k v m n es rest l g f = rest_below (nat_eq q k) v n (lookup (nat_eq q) es) (lookup (nat_eq q) rest) g f

stay_below : (es : List (ℕ × ℕ)) (h m q n : ℕ) → m < n → IsBelow n (lookup (nat_eq q) es)
    → IsBelow n (lookup (nat_eq q) (insert_entry nat_eq es h m))
stay_below [] h m q n l f = first_below (nat_eq q h) m m n None l (below_one (nat_eq q h))
  where
    below_one : (c : Bool) → IsBelow n (cond c (Some m) None)
    below_one true = some_below n m l
    below_one false = none_below n
stay_below (e ∷ es) h m q n l f =
    below_step (nat_eq h e.0) q e.0 e.1 m n es (insert_entry nat_eq es h m) l (stay_below es h m q n l) f

-- ---- tables
pub no_table : (instances : List Instance) (nets : List Net) (es : List (ℕ × ℕ)) → es ≡ [] → IsTable instances nets 0 es
no_table instances nets es e = subst (IsTable instances nets 0) (sym e) (record {
  some = λ m n l h. absurd (omega (arith, l));
  within = λ h m f. absurd cc;
})

pub more_table : (instances : List Instance) (nets : List Net) (es new : List (ℕ × ℕ)) (m path : ℕ) (x : Net) → m < length nets
    → x ≡ get_or nets m x → path ≡ path_hash instances x.instance → IsTable instances nets m es
    → new ≡ insert_entry nat_eq es (hash_from path x.name) m → IsTable instances nets (m + 1) new
more_table instances nets es new m path x l at is t e =
    let name : hash_from path x.name ≡ name_hash instances x =
    ap (λ h. hash_from h x.name) is ∙ sym (hash_both (dotted (list_at (paths instances) x.instance)) x.name 0) in
    subst (IsTable instances nets (m + 1)) (sym (e ∙ ap (λ h. insert_entry nat_eq es h m) name)) (record {
      some = λ k n k_below there. ⊎_elim
          (λ (a : k < m). still es (name_hash instances x) m (name_hash instances n) (t.some k n a there))
          (λ (b : m ≤ k).
          let last : k ≡ m = omega (arith, k_below, b) in
          let here : slice_get nets m ≡ Some x = slice_get-at nets m x l (sym at) in
          let same : n ≡ x = net_same n x (sym there ∙ ap (slice_get nets) last ∙ here) in
          subst (λ (y : Net). is_some (lookup (nat_eq (name_hash instances y)) (insert_entry nat_eq es (name_hash instances x) m)) ≡ true)
          (sym same) (put es (name_hash instances x) m))
          (cases_lt k m);
      within = λ h. stay_below es (name_hash instances x) m h (length nets) l (t.within h);
    })

-- a net of a name is found under its number
pub none_called : (instances : List Instance) (nets : List Net) (es : List (ℕ × ℕ)) (name : List ℕ) (h : ℕ)
    → IsTable instances nets (length nets) es → h ≡ hash_from 0 name → lookup (nat_eq h) es ≡ None → (m : ℕ)
    → IsCalled instances nets name m → ⊥
none_called instances nets es name h t is none m called =
    let some = t.some m called.0 (slice_get_within nets m called.0 called.1) called.1 in
    let same : name_hash instances called.0 ≡ h = ap (hash_from 0) called.2 ∙ sym is in
    let found : is_some (lookup (nat_eq h) es) ≡ true = ap (λ k. is_some (lookup (nat_eq k) es)) (sym same) ∙ some in
    let missing : is_some (lookup (nat_eq h) es) ≡ false = ap is_some none in
    let off : true ≡ false = sym found ∙ missing in absurd cc

-- the table of a design's nets
pub table_named : (d : Design) (instances : List Instance) (nets : List Net) (es : List (ℕ × ℕ)) → instances ≡ d.instances
    → nets ≡ d.nets → IsTable instances nets (length nets) es → IsTable d.instances d.nets (length d.nets) es
table_named d instances nets es i n t =
    subst (λ (is : List Instance). IsTable is d.nets (length d.nets) es) i
    (subst (λ (ns : List Net). IsTable instances ns (length ns) es) n t)
