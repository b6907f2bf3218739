-- What a look-up by name finds in a list of entries after one of them was set.
use Rattle.std.proofs.Common.{◌≡◌, ◌≢◌, ℕ, ◌<◌, ◌≤◌, ◌+◌, Bool, true, false, cond, not, List, [], ◌∷◌, ◌++◌, Option, Some, None, IsSome}
use Rattle.std.proofs.Common.{MatchBool, Result, Ok, Err, OnOk, OnErr, length, get_or, IfSome, IsSomeAnd, unwrap_or, option_map, slice_get}
use Rattle.std.proofs.Common.{nat_lt, vec_capacity, refl, sym, ap, subst, ⊎_elim, ◌∙◌, arith, length-append, lt-ltb}
use Rattle.std.proofs.lemmas.Bool.{cases_Bool}
use Rattle.std.proofs.lemmas.Bool.Decides.{nat_tests}
use Rattle.std.proofs.lemmas.List.Folds.{find_at, find-set, find_past, find-append}
use Rattle.std.proofs.lemmas.List.Quantifiers.{position-Some}
use Rattle.std.proofs.lemmas.Map.Text.{is_eq-slice_cmp}
use Rattle.std.proofs.lemmas.Option.{slice_get-get_or, slice_get_past}
use Rattle.std.proofs.lemmas.Slice.Eq.{bytes_eq-Decides}
use Rattle.std.proofs.Math.ListN.{set}
use Rattle.std.proofs.Math.Nat.{le_refl}
use Rattle.std.specs.Cmp.Lexicographic.{nat_list_cmp_total, slice_cmp}
use Rattle.std.specs.FinMap.{get, insert, remove, get-empty, get-insert, get-remove, same_map, slice_cmp-IsAntisymmetric}
use Rattle.std.specs.FinMap.{nat_cmp-IsAntisymmetric}
use Rattle.std.specs.List.{find, position, position_or_len}
use Rattle.std.specs.Option.{option_or}
use Rattle.std.specs.Ordering.{nat_cmp}
use Rattle.std.specs.Str.{bytes_eq}
use Rattle.vidi_bits.proofs.Lists.{bytes_eq-self}
use Rattle.vidi_io.specs.Cause.{Rose}
use Rattle.vidi_io.specs.Entries.{entry_of, files_of, file_in, faults_of, room_of, Became, RoomsStay, ReadFailed}
use Rattle.vidi_io.specs.Shelf.{Files, bytes_of}
use Rattle.vidi_io.specs.declared.entries.Entry.{Entry}

-- the file of the entry that a look-up found
abbrev pub told : Option Entry → Option (List ℕ)
told None = None
told (Some e) = file_in e

told-cond : (t : Bool) (e : Entry) (o : Option Entry) → told (cond t (Some e) o) ≡ cond t (file_in e) (told o)
told-cond true e o = refl
told-cond false e o = refl

get-one : (e : Entry) (m : Files) (q : List ℕ) (b : Bool) → get (cond b (insert m e.name e.bytes.items) (remove m e.name)) q
    ≡ cond (bytes_eq q e.name) (cond b (Some e.bytes.items) None) (get m q)
get-one e m q true = get-insert nat_list_cmp_total m e.name e.bytes.items q
    ∙ ap (λ t. cond t (Some e.bytes.items) (get m q)) (is_eq-slice_cmp q e.name)
get-one e m q false = get-remove nat_list_cmp_total m e.name q ∙ ap (λ t. cond t None (get m q)) (is_eq-slice_cmp q e.name)

pub get-files_of : (es : List Entry) (q : List ℕ) → get (files_of es) q ≡ told (entry_of es q)
get-files_of [] q = get-empty (slice_cmp nat_cmp) q
get-files_of (e ∷ es) q = get-one e (files_of es) q e.there ∙ ap (cond (bytes_eq q e.name) (file_in e)) (get-files_of es q)
    ∙ sym (told-cond (bytes_eq q e.name) e (entry_of es q))

pub same_files : (m n : Files) → ((q : List ℕ) → get m q ≡ get n q) → m ≡ n
same_files m n is = same_map nat_list_cmp_total (slice_cmp-IsAntisymmetric nat_cmp-IsAntisymmetric) m n is

-- the entry of this name became e, and the others stayed
abbrev pub Puts : List Entry → List Entry → List ℕ → Entry → Type 0
Puts old new name e = (q : List ℕ) → entry_of new q ≡ cond (bytes_eq q name) (Some e) (entry_of old q)

bytes_eq-other : (xs ys : List ℕ) → xs ≢ ys → bytes_eq xs ys ≡ false
bytes_eq-other xs ys other = ⊎_elim (λ (t : bytes_eq xs ys ≡ true). absurd (other ((bytes_eq-Decides xs ys).0 t)))
    (λ (f : bytes_eq xs ys ≡ false). f) (cases_Bool (bytes_eq xs ys))

-- a fact at each name from the fact at the one that was set
at_each : (P : List ℕ → Option Entry → Type 0) (old new : List Entry) (name : List ℕ) (e : Entry) → Puts old new name e → P name (Some e)
    → ((q : List ℕ) → P q (entry_of old q)) → (q : List ℕ) → P q (entry_of new q)
at_each P old new name e puts here there q =
    subst (P q) (sym (puts q)) (elim (bytes_eq q name) as (λ t. bytes_eq q name ≡ t → P q (cond t (Some e) (entry_of old q))) [
      | true ↦ λ t. subst (λ (n : List ℕ). P n (Some e)) (sym ((bytes_eq-Decides q name).0 t)) here
      | false ↦ λ t. there q
    ] refl)

at_least : (r : Option ℕ) → IfSome r (λ n. IsSomeAnd r (λ k. n ≤ k))
at_least None = tt
at_least (Some n) = omega arith

files_after : (old new : List Entry) (name : List ℕ) (e : Entry) (files : Files) → Puts old new name e
    → ((q : List ℕ) → get files q ≡ cond (bytes_eq q name) (file_in e) (get (files_of old) q)) → files_of new ≡ files
files_after old new name e files puts is = same_files _ _ (λ q. get-files_of new q ∙ ap told (puts q)
    ∙ told-cond (bytes_eq q name) e (entry_of old q) ∙ ap (cond (bytes_eq q name) (file_in e)) (sym (get-files_of old q)) ∙ sym (is q))

rooms_after : (old new : List Entry) (name : List ℕ) (e : Entry) → Puts old new name e
    → IfSome (room_of old name) (λ room. room ≤ vec_capacity e.bytes) → RoomsStay old new
rooms_after old new name e puts room = at_each (λ q o. IfSome (room_of old q)
    (λ n. IsSomeAnd (option_map (λ (x : Entry). vec_capacity x.bytes) o) (λ k. n ≤ k))) old new name e puts room
    (λ q. at_least (room_of old q))

pub became : (old new : List Entry) (name : List ℕ) (e : Entry) (files : Files) → Puts old new name e
    → ((q : List ℕ) → get files q ≡ cond (bytes_eq q name) (file_in e) (get (files_of old) q))
    → e.faults ≡ faults_of old name → IfSome (room_of old name) (λ room. room ≤ vec_capacity e.bytes) → Became old new files
became old new name e files puts is faults room = record {
  are = files_after old new name e files puts is;
  faults = at_each (λ q o. unwrap_or (option_map (λ (x : Entry). x.faults) o) 0 ≡ faults_of old q) old new name e puts faults (λ q. refl);
  rooms = rooms_after old new name e puts room;
}

-- the place of the first entry of a name, in entries that say what the old ones did, and that entry
pub record IsAt (old mid : List Entry) (name : List ℕ) (i : ℕ) (o : Entry) : Type 0 where
  pub since : Became old mid (files_of old)
  pub first : Some i ≡ position (λ x. bytes_eq name x.name) mid
  pub item : o ≡ get_or mid i o

-- what no change of an entry touches
pub record Keeps (o e : Entry) : Type 0 where
  pub name : e.name ≡ o.name
  pub faults : e.faults ≡ o.faults
  pub more : vec_capacity o.bytes ≤ vec_capacity e.bytes

pub named : (es : List Entry) (name : List ℕ) (i : ℕ) (o : Entry) → Some i ≡ position (λ x. bytes_eq name x.name) es → o ≡ get_or es i o
    → name ≡ o.name
named es name i o first item = (bytes_eq-Decides name o.name).0 (subst (λ (x : Entry). bytes_eq name x.name ≡ true) (sym item)
    ((position-Some (λ (x : Entry). bytes_eq name x.name) es i o (sym first)).1))

some_is : (t : Bool) (i n : ℕ) → Some i ≡ cond t (Some n) None → i ≡ n
some_is true i n is = cc
some_is false i n is = cc

inside : (es : List Entry) (name : List ℕ) (i : ℕ) (o : Entry) → Some i ≡ position (λ x. bytes_eq name x.name) es → i < length es
inside es name i o first = (position-Some (λ (x : Entry). bytes_eq name x.name) es i o (sym first)).0

first_is : (es : List Entry) (name : List ℕ) (i : ℕ) → Some i ≡ position (λ x. bytes_eq name x.name) es → i
    ≡ position_or_len (λ x. bytes_eq name x.name) es
first_is es name i first = some_is _ _ _ first

pub entry_at : (es : List Entry) (name : List ℕ) (i : ℕ) (o : Entry) → Some i ≡ position (λ x. bytes_eq name x.name) es → o ≡ get_or es i o
    → entry_of es name ≡ Some o
entry_at es name i o first item =
    find_at (λ (x : Entry). bytes_eq name x.name) es ∙ ap (slice_get es) (sym (first_is es name i first))
    ∙ slice_get-get_or es i o (inside es name i o first) ∙ ap Some (sym item)

none_past : (t : Bool) (n k : ℕ) → nat_lt n k ≡ t → None ≡ cond t (Some n) None → k ≤ n
none_past true n k is none = cc
none_past false n k is none = grind (arith, nat_tests)

pub no_entry : (es : List Entry) (name : List ℕ) → None ≡ position (λ x. bytes_eq name x.name) es → entry_of es name ≡ None
no_entry es name none = find_at (λ (x : Entry). bytes_eq name x.name) es ∙ slice_get_past es _ (none_past _ _ _ refl none)

pub puts_set : (es : List Entry) (name : List ℕ) (i : ℕ) (o e : Entry) → Some i ≡ position (λ x. bytes_eq name x.name) es → o
    ≡ get_or es i o → e.name ≡ o.name → Puts es (set es i e) name e
puts_set es name i o e first item same q =
    let is : name ≡ e.name = named es name i o first item ∙ sym same in
    elim (bytes_eq q name) as (λ t. bytes_eq q name ≡ t → entry_of (set es i e) q ≡ cond t (Some e) (entry_of es q)) [
      | true ↦ λ t. subst (λ (n : List ℕ). entry_of (set es i e) n ≡ Some e) (sym ((bytes_eq-Decides q name).0 t))
          (find-set (λ (x : Entry). bytes_eq name x.name) es i e (first_is es name i first) (inside es name i o first)
          ((bytes_eq-Decides name e.name).1 is))
      | false ↦ λ t. find_past (λ (x : Entry). bytes_eq q x.name) es i e o
          (subst (λ (n : List ℕ). bytes_eq q n ≡ false) (named es name i o first item ∙ ap (λ (x : Entry). x.name) item) t)
          (subst (λ (n : List ℕ). bytes_eq q n ≡ false) is t)
    ] refl

or_none : (o : Option Entry) → option_or o None ≡ o
or_none None = refl
or_none (Some e) = refl

pub puts_push : (es : List Entry) (e : Entry) → entry_of es e.name ≡ None → Puts es (es ++ e ∷ []) e.name e
puts_push es e none q =
    find-append (λ (x : Entry). bytes_eq q x.name) es (e ∷ []) ∙ elim (bytes_eq q e.name) as
    (λ t. bytes_eq q e.name ≡ t → option_or (entry_of es q) (cond t (Some e) None) ≡ cond t (Some e) (entry_of es q)) [
      | true ↦ λ t. ap (λ (o : Option Entry). option_or o (Some e)) (ap (entry_of es) ((bytes_eq-Decides q e.name).0 t) ∙ none)
      | false ↦ λ t. or_none (entry_of es q)
    ] refl

rooms_chain : (r s t : Option ℕ) → IfSome r (λ n. IsSomeAnd s (λ k. n ≤ k)) → IfSome s (λ n. IsSomeAnd t (λ k. n ≤ k))
    → IfSome r (λ n. IsSomeAnd t (λ k. n ≤ k))
rooms_chain None s t a b = tt
rooms_chain (Some n) None t a b = absurd a
rooms_chain (Some n) (Some k) None a b = absurd b
rooms_chain (Some n) (Some k) (Some j) a b = omega arith

pub became-then : (old mid new : List Entry) (files : Files) → Became old mid (files_of old) → Became mid new files → Became old new files
became-then old mid new files a b = record {
  are = b.are;
  faults = λ q. b.faults q ∙ a.faults q;
  rooms = λ q. rooms_chain _ _ _ (a.rooms q) (b.rooms q);
}

held_some : (old mid : List Entry) (name : List ℕ) (o : Entry) → Became old mid (files_of old) → entry_of mid name ≡ Some o
    → get (files_of old) name ≡ file_in o
held_some old mid name o since found = ap (λ (m : Files). get m name) (sym since.are) ∙ get-files_of mid name ∙ ap told found

pub held : {old mid : List Entry} {name : List ℕ} {i : ℕ} {o : Entry} → IsAt old mid name i o → get (files_of old) name ≡ file_in o
held {old} {mid} {name} {i} {o} at = held_some old mid name o at.since (entry_at mid name i o at.first at.item)

pub room_at : {old mid : List Entry} {name : List ℕ} {i : ℕ} {o : Entry} → IsAt old mid name i o → room_of mid name
    ≡ Some (vec_capacity o.bytes)
room_at {old} {mid} {name} {i} {o} at = ap (option_map (λ (x : Entry). vec_capacity x.bytes)) (entry_at mid name i o at.first at.item)

-- what is told after the entry at this place was set
changed : (old mid : List Entry) (name : List ℕ) (i : ℕ) (o e : Entry) (files : Files) → IsAt old mid name i o → Keeps o e
    → ((q : List ℕ) → get files q ≡ cond (bytes_eq q name) (file_in e) (get (files_of mid) q)) → Became old (set mid i e) files
changed old mid name i o e files at keeps is =
    let found : entry_of mid name ≡ Some o = entry_at mid name i o at.first at.item in
    became-then old mid (set mid i e) files at.since (became mid (set mid i e) name e files
    (puts_set mid name i o e at.first at.item keeps.name) is
    (keeps.faults ∙ ap (λ (x : Option Entry). unwrap_or (option_map (λ (y : Entry). y.faults) x) 0) (sym found))
    (subst (λ (x : Option Entry). IfSome (option_map (λ (y : Entry). vec_capacity y.bytes) x) (λ room. room ≤ vec_capacity e.bytes))
    (sym found) keeps.more))

pub becomes : {old mid : List Entry} {name : List ℕ} {i : ℕ} {o : Entry} (e : Entry) (bytes : List ℕ) → IsAt old mid name i o → Keeps o e
    → file_in e ≡ Some bytes → Became old (set mid i e) (insert (files_of old) name bytes)
becomes {old} {mid} {name} {i} {o} e bytes at keeps file =
    changed old mid name i o e _ at keeps (λ q. get-insert nat_list_cmp_total (files_of old) name bytes q
    ∙ ap (λ t. cond t (Some bytes) (get (files_of old) q)) (is_eq-slice_cmp q name)
    ∙ ap (λ (f : Option (List ℕ)). cond (bytes_eq q name) f (get (files_of old) q)) (sym file)
    ∙ ap (λ (m : Files). cond (bytes_eq q name) (file_in e) (get m q)) (sym at.since.are))

stays_at : (old mid : List Entry) (name q : List ℕ) (o : Entry) (t : Bool) → bytes_eq q name ≡ t → files_of mid ≡ files_of old
    → get (files_of old) name ≡ file_in o → get (files_of old) q ≡ cond t (file_in o) (get (files_of mid) q)
stays_at old mid name q o true t same held = ap (get (files_of old)) ((bytes_eq-Decides q name).0 t) ∙ held
stays_at old mid name q o false t same held = ap (λ (m : Files). get m q) (sym same)

pub stays : {old mid : List Entry} {name : List ℕ} {i : ℕ} {o : Entry} (e : Entry) → IsAt old mid name i o → Keeps o e → file_in e
    ≡ file_in o → Became old (set mid i e) (files_of old)
stays {old} {mid} {name} {i} {o} e at keeps file =
    changed old mid name i o e _ at keeps (λ q. stays_at old mid name q o _ refl at.since.are (held at)
    ∙ ap (λ (f : Option (List ℕ)). cond (bytes_eq q name) f (get (files_of mid) q)) (sym file))

pub room_now : {old mid : List Entry} {name : List ℕ} {i : ℕ} {o : Entry} (e : Entry) → IsAt old mid name i o → Keeps o e
    → room_of (set mid i e) name ≡ Some (vec_capacity e.bytes)
room_now {old} {mid} {name} {i} {o} e at keeps =
    ap (option_map (λ (x : Entry). vec_capacity x.bytes)) (puts_set mid name i o e at.first at.item keeps.name name
    ∙ ap (λ t. cond t (Some e) (entry_of mid name)) (bytes_eq-self name))

pub found_file : (es : List Entry) (name : List ℕ) (i : ℕ) (o : Entry) → Some i ≡ position (λ x. bytes_eq name x.name) es → o
    ≡ get_or es i o → get (files_of es) name ≡ file_in o
found_file es name i o first item = get-files_of es name ∙ ap told (entry_at es name i o first item)

pub no_file : (es : List Entry) (name : List ℕ) → None ≡ position (λ x. bytes_eq name x.name) es → get (files_of es) name ≡ None
no_file es name none = get-files_of es name ∙ ap told (no_entry es name none)

pub no_room : (es : List Entry) (name : List ℕ) → None ≡ position (λ x. bytes_eq name x.name) es → room_of es name ≡ None
no_room es name none = ap (option_map (λ (x : Entry). vec_capacity x.bytes)) (no_entry es name none)

-- an entry of a new name, with no file, added at the end
added_at : (es : List Entry) (e : Entry) (q : List ℕ) (t : Bool) → bytes_eq q e.name ≡ t → entry_of es e.name ≡ None → file_in e ≡ None
    → get (files_of es) q ≡ cond t (file_in e) (get (files_of es) q)
added_at es e q true t none file = ap (get (files_of es)) ((bytes_eq-Decides q e.name).0 t) ∙ get-files_of es e.name ∙ ap told none
    ∙ sym file
added_at es e q false t none file = refl

pub added : (es : List Entry) (e : Entry) → entry_of es e.name ≡ None → file_in e ≡ None → e.faults ≡ 0
    → Became es (es ++ e ∷ []) (files_of es)
added es e none file faults =
    became es (es ++ e ∷ []) e.name e (files_of es) (puts_push es e none) (λ q. added_at es e q _ refl none file)
    (faults ∙ ap (λ (x : Option Entry). unwrap_or (option_map (λ (y : Entry). y.faults) x) 0) (sym none))
    (subst (λ (x : Option Entry). IfSome (option_map (λ (y : Entry). vec_capacity y.bytes) x) (λ room. room ≤ vec_capacity e.bytes))
    (sym none) tt)

past_others : (p : Entry → Bool) (es : List Entry) (e : Entry) → find p es ≡ None → p e ≡ true → position_or_len p (es ++ e ∷ [])
    ≡ length es
past_others p [] e none here = ap (λ t. cond (not t) 1 0) here
past_others p (x ∷ xs) e none here = elim (p x) as (λ t. cond t (Some x) (find p xs) ≡ None
    → cond (not t) (1 + position_or_len p (xs ++ e ∷ [])) 0 ≡ length (x ∷ xs)) [
      | true ↦ λ none. cc
      | false ↦ λ none. ap (λ n. 1 + n) (past_others p xs e none here) ∙ omega arith
    ] none

pub place_added : (es : List Entry) (name : List ℕ) (e : Entry) → None ≡ position (λ x. bytes_eq name x.name) es → name ≡ e.name
    → Some (length es) ≡ position (λ x. bytes_eq name x.name) (es ++ e ∷ [])
place_added es name e none is =
    let at : position_or_len (λ (x : Entry). bytes_eq name x.name) (es ++ e ∷ [])
    ≡ length es = past_others _ es e (no_entry es name none) ((bytes_eq-Decides name e.name).1 is) in
    let less : length es < length (es ++ e ∷ []) = simp length-append (omega arith) in
    sym (ap (λ n. cond (nat_lt n (length (es ++ e ∷ []))) (Some n) None) at ∙ ap (λ t. cond t (Some (length es)) None) (lt-ltb _ _ less))

pub on_ok : {T E P Q : Type 0} (r : Result T E) → OnOk r P → (P → Q) → OnOk r Q
on_ok (Ok x) p f = f p
on_ok (Err e) p f = tt

pub on_err : {T E P Q : Type 0} (r : Result T E) → OnErr r P → (P → Q) → OnErr r Q
on_err (Ok x) p f = tt
on_err (Err e) p f = f p

-- the piece was added to the file as it was
pub grows : {old mid : List Entry} {name : List ℕ} {i : ℕ} {o : Entry} (e : Entry) (piece : List ℕ) → IsAt old mid name i o → Keeps o e
    → file_in e ≡ Some (unwrap_or (file_in o) [] ++ piece)
    → Became old (set mid i e) (insert (files_of old) name (bytes_of (files_of old) name ++ piece))
grows {old} {mid} {name} {i} {o} e piece at keeps file = becomes e _ at keeps
    (file ∙ ap (λ (f : Option (List ℕ)). Some (unwrap_or f [] ++ piece)) (sym (held at)))

less_room : (r : Option ℕ) (room n : ℕ) → IfSome r (λ k. IsSomeAnd (Some room) (λ now. k ≤ now)) → room < n → IfSome r (λ k. k < n)
less_room None room n since less = tt
less_room (Some k) room n since less = omega arith

-- where an entry had no room for more bytes, there was none at entry
pub full_before : {old mid : List Entry} {name : List ℕ} {i : ℕ} {o : Entry} (piece : List ℕ) → IsAt old mid name i o
    → vec_capacity o.bytes < length (unwrap_or (file_in o) []) + length piece
    → IfSome (room_of old name) (λ room. room < length (bytes_of (files_of old) name) + length piece)
full_before {old} {mid} {name} {i} {o} piece at full =
    less_room (room_of old name) (vec_capacity o.bytes) _ (subst (λ (r : Option ℕ). IfSome (room_of old name)
    (λ k. IsSomeAnd r (λ now. k ≤ now))) (room_at at) (at.since.rooms name))
    (subst (λ (f : Option (List ℕ)). vec_capacity o.bytes < length (unwrap_or f []) + length piece) (sym (held at)) full)

pub added_named : (es new : List Entry) (name : List ℕ) (e : Entry) → position (λ x. bytes_eq name x.name) es ≡ None → name ≡ e.name → new
    ≡ es ++ e ∷ [] → file_in e ≡ None → e.faults ≡ 0 → Became es new (files_of es)
added_named es new name e none is pushed file faults =
    subst (λ (ys : List Entry). Became es ys (files_of es)) (sym pushed)
    (added es e (subst (λ (n : List ℕ). entry_of es n ≡ None) is (no_entry es name (sym none))) file faults)

pub place_named : (es new : List Entry) (name : List ℕ) (e : Entry) (i : ℕ) → position (λ x. bytes_eq name x.name) es ≡ None → name ≡ e.name
    → new ≡ es ++ e ∷ [] → i ≡ length es → Some i ≡ position (λ x. bytes_eq name x.name) new
place_named es new name e i none is pushed last =
    ap Some last ∙ place_added es name e (sym none) is ∙ ap (position (λ (x : Entry). bytes_eq name x.name)) (sym pushed)

pub same_entries : (es : List Entry) → Became es es (files_of es)
same_entries es = record { are = refl; faults = λ q. refl; rooms = λ q. at_least (room_of es q) }

-- the reads of the entry at this place failed once more
pub read_failed : (es : List Entry) (name : List ℕ) (i : ℕ) (o e : Entry) → Some i ≡ position (λ x. bytes_eq name x.name) es → o
    ≡ get_or es i o → e.name ≡ o.name → vec_capacity e.bytes ≡ vec_capacity o.bytes
    → file_in e ≡ file_in o → IsSome (file_in o) → o.faults ≤ e.faults → Rose o.faults e.faults → ReadFailed es (set es i e) name
read_failed es name i o e first item same room file there later rose =
    let puts : Puts es (set es i e) name e = puts_set es name i o e first item same in
    let found : entry_of es name ≡ Some o = entry_at es name i o first item in
    let before : faults_of es name ≡ o.faults = ap (λ (x : Option Entry). unwrap_or (option_map (λ (y : Entry). y.faults) x) 0) found in
    let now : faults_of (set es i e) name ≡ e.faults = ap (λ (x : Option Entry). unwrap_or (option_map (λ (y : Entry). y.faults) x) 0)
    (puts name ∙ ap (λ t. cond t (Some e) (entry_of es name)) (bytes_eq-self name)) in
    record {
      there = subst (λ (f : Option (List ℕ)). IsSome f) (sym (found_file es name i o first item)) there;
      files = files_after es (set es i e) name e (files_of es) puts (λ q. stays_at es es name q e _ refl refl
          (found_file es name i o first item ∙ sym file));
      rose = rw (before, now) rose;
      later = at_each (λ q x. faults_of es q ≤ unwrap_or (option_map (λ (y : Entry). y.faults) x) 0) es (set es i e) name e puts
          (rw before later) (λ q. le_refl (faults_of es q));
      alone = λ q other. ap (λ (x : Option Entry). unwrap_or (option_map (λ (y : Entry). y.faults) x) 0)
          (puts q ∙ ap (λ t. cond t (Some e) (entry_of es q)) (bytes_eq-other q name other));
      rooms = rooms_after es (set es i e) name e puts (subst (λ (x : Option Entry). IfSome
          (option_map (λ (y : Entry). vec_capacity y.bytes) x) (λ now. now ≤ vec_capacity e.bytes)) (sym found) (omega (arith, room)));
    }

-- a try to count a failed read at this place
pub fault_at : (b : Bool) (es : List Entry) (name : List ℕ) (i : ℕ) (o e : Entry) → Some i ≡ position (λ x. bytes_eq name x.name) es → o
    ≡ get_or es i o → e.name ≡ o.name → vec_capacity e.bytes ≡ vec_capacity o.bytes
    → file_in e ≡ file_in o → MatchBool b (IsSome (file_in o)) ((file_in o ≡ None) × (e.faults ≡ o.faults)) → o.faults ≤ e.faults
    → (b ≡ true → Rose o.faults e.faults)
    → MatchBool b (ReadFailed es (set es i e) name) (Became es (set es i e) (files_of es) × (get (files_of es) name ≡ None))
fault_at true es name i o e first item same room file there later rose = read_failed es name i o e first item same room file there later
    (rose refl)
fault_at false es name i o e first item same room file there later rose = (
  stays e (record { since = same_entries es; first = first; item = item })
      (record { name = same; faults = there.1; more = omega (arith, room) }) file,
  found_file es name i o first item ∙ there.0,
)
