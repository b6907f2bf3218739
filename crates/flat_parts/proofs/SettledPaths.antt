-- The instances of a file as a list and as paths, and the seat that a path leads to.
use Rattle.std.proofs.Common.{◌≡◌, ◌≢◌, ℕ, zero, suc, ◌+◌, ◌<◌, ◌≤◌, ◌↔◌, ⊎_elim, Bool, true, false, if◌then◌else◌}
use Rattle.std.proofs.Common.{List, [], ◌∷◌, ◌++◌, length, get_or, Some, refl, ap, sym, subst, ◌∙◌, arith}
use Rattle.std.specs.List.{AllByRecursion, AllPairs, Contains}
use Rattle.std.proofs.lemmas.Bool.{cases_lt}
use Rattle.std.proofs.lemmas.List.{get_or_default}
use Rattle.std.proofs.lemmas.List.Elements.{Contains-append_right}
use Rattle.vlog_elab.proofs.vidi_bits_lemmas.Each.{same_both, nothing}
use Rattle.vlog_tree.specs.Tree.{InstanceOf, ModuleOf}
use Rattle.vlog_elab.specs.vlog_size.declared.scope.Scope.{Scope}
use Rattle.vlog_elab.specs.Instances.{ModuleInstance}
use Rattle.vlog_elab.specs.vlog_scope.Scope.{words_of}
use Rattle.vlog_driver.proofs.Paths.{path_same, path_itself}
use Rattle.vlog_driver.specs.Names.{Full, same_path}
use Rattle.vlog_driver.specs.Instances.{IsChild, Leads}
use Rattle.flat_parts.specs.Seats.{Seat, seats_from, seats_of, seat_named}
use Rattle.flat_parts.specs.Laws.{IsListed}
use Rattle.flat_parts.proofs.SettledLists.{members}

-- ---- paths

-- an instance stands one step further than the one that it stands in
pub one_further : (file : List (ModuleOf ℕ)) (a : ModuleOf ℕ) (b : Scope) (path : Full) (m : ModuleOf ℕ) (s : Scope) (i : InstanceOf ℕ)
    (n : ModuleOf ℕ) (t : Scope) → Leads file a b path m s → IsChild file m s i n t → Leads file a b (path ++ i.id.name ∷ []) n t
one_further file a b [] m s i n t h c =
    let here : IsChild file a b i n t =
    subst (λ z. IsChild file z b i n t) (sym h.0) (subst (λ z. IsChild file m z i n t) (sym h.1) c) in
    (i, n, t, refl, here, (refl, refl))
one_further file a b (x ∷ path) m s i n t h c =
    (h.0, h.1, h.2, h.3, h.4, one_further file h.1 h.2 path m s i n t h.5 c)

-- a path leads to modules of the file
pub stays_in : (file : List (ModuleOf ℕ)) (a : ModuleOf ℕ) (b : Scope) (path : Full) (n : ModuleOf ℕ) (t : Scope) → Contains file a
    → Leads file a b path n t → Contains file n
stays_in file a b [] n t c h = subst (λ z. Contains file z) h.0 c
stays_in file a b (x ∷ path) n t c h = stays_in file h.1 h.2 path n t h.4.in_file h.5

-- what holds of each instance holds of each path
module _ (is : List ModuleInstance) (At : Full → ModuleOf ℕ → Scope → Type 0)
    (listed : (path : Full) (m : ModuleOf ℕ) (s : Scope) → IsListed is path m s ↔ At path m s)
    (Q : Full → ModuleOf ℕ → Scope → Type 0) where
  abbrev pub OfInstance : ModuleInstance → Type 0
  OfInstance i = Q i.path i.tree i.scope

  listed_so : (path : Full) (m : ModuleOf ℕ) (s : Scope) → AllByRecursion OfInstance is → IsListed is path m s → Q path m s
  listed_so path m s h l =
      let q : Q l.0.path l.0.tree l.0.scope = (members OfInstance is).0 h l.0 l.1 in
      subst (λ z. Q path m z) l.4 (subst (λ z. Q path z l.0.scope) l.3 (subst (λ z. Q z l.0.tree l.0.scope) l.2 q))

  pub over_instances : AllByRecursion OfInstance is ↔ ((path : Full) (m : ModuleOf ℕ) (s : Scope) → At path m s → Q path m s)
  over_instances = (
    (λ h path m s there. listed_so path m s h ((listed path m s).1 there)),
    (λ h. (members OfInstance is).1
        (λ i c. h i.path i.tree i.scope ((listed i.path i.tree i.scope).0 (i, c, refl, refl, refl)))),
  )

-- no two instances have the same path
one_place : (is : List ModuleInstance) → AllPairs (λ (a b : ModuleInstance). a.path ≢ b.path) is
    → (i j : ModuleInstance) (a b : ℕ) → a < length is → b < length is → get_or is a i ≡ i → get_or is b j ≡ j → i.path ≡ j.path
    → b ≤ a
one_place is differ i j a b la lb ea eb same =
    ⊎_elim (λ less. let other : get_or is b i ≡ j = get_or_default is b i j lb ∙ eb in
    absurd (differ a b i less lb
    (ap (λ (x : ModuleInstance). x.path) ea ∙ same ∙ sym (ap (λ (x : ModuleInstance). x.path) other)))) (λ more. more) (cases_lt a b)

pub one_path : (is : List ModuleInstance) → AllPairs (λ (a b : ModuleInstance). a.path ≢ b.path) is
    → (i j : ModuleInstance) → Contains is i → Contains is j → i.path ≡ j.path → i ≡ j
one_path is differ i j c d same =
    let less = one_place is differ i j c.0 d.0 c.1 d.1 c.2 d.2 same in
    let more = one_place is differ j i d.0 c.0 d.1 c.1 d.2 c.2 (sym same) in
    let place : c.0 ≡ d.0 = omega (arith, less, more) in
    sym c.2 ∙ ap (λ k. get_or is k i) place ∙ get_or_default is d.0 i j d.1 ∙ d.2

-- ---- seats
each_from : (P : ModuleInstance → Type 0) (number net word : ℕ) (is : List ModuleInstance)
    → AllByRecursion (λ (x : Seat). P x.instance) (seats_from number net word is) ↔ AllByRecursion P is
each_from P number net word [] = nothing
each_from P number net word (i ∷ is) =
    same_both nothing (each_from P (number + 1) (net + length i.scope.nets) (word + words_of i.scope.memories) is)

pub each_seat : (P : ModuleInstance → Type 0) (is : List ModuleInstance)
    → AllByRecursion (λ (x : Seat). P x.instance) (seats_of is) ↔ AllByRecursion P is
unfolding seats_of
each_seat P is = each_from P 0 0 0 is

-- the instance of a seat is one of the instances
pub seated_listed : (is : List ModuleInstance) (x : Seat) → Contains (seats_of is) x → Contains is x.instance
seated_listed is x c =
    (members (λ (y : Seat). Contains is y.instance) (seats_of is)).0
    ((each_seat (λ i. Contains is i) is).1 ((members (λ i. Contains is i) is).1 (λ i h. h))) x c

-- the seat at a path
pub record IsFound (xs : List Seat) (path : Full) (q : Seat) : Type 0 where
  pub named : seat_named xs path ≡ Some q
  pub there : Contains xs q
  pub leads : q.instance.path ≡ path

module _ (x : Seat) (xs : List Seat) (path : Full) where
  first_or : (b : Bool) → same_path x.instance.path path ≡ b → (x.instance.path ≢ path → (q : Seat) × IsFound xs path q)
      → (q : Seat) × IsFound (x ∷ xs) path q
  first_or true h later = (
    x,
    record {
      named = ap (λ (c : Bool). if c then Some x else seat_named xs path) h;
      there = (zero, omega arith, refl);
      leads = path_same x.instance.path path h;
    },
  )
  first_or false h later =
      let r = later (λ e. let yes : same_path x.instance.path path ≡ true =
      ap (λ z. same_path x.instance.path z) (sym e) ∙ path_itself x.instance.path in absurd (cc)) in (
        r.0,
        record {
          named = ap (λ (c : Bool). if c then Some x else seat_named xs path) h ∙ r.1.named;
          there = Contains-append_right (x ∷ []) xs r.0 r.1.there;
          leads = r.1.leads;
        },
      )

found_from : (xs : List Seat) (path : Full) (k : ℕ) (d : Seat) → k < length xs → (get_or xs k d).instance.path ≡ path
    → (q : Seat) × IsFound xs path q
found_from [] path k d l e = absurd (omega arith)
found_from (x ∷ xs) path zero d l e = first_or x xs path (same_path x.instance.path path) refl (λ other. absurd (other e))
found_from (x ∷ xs) path (suc k) d l e =
    first_or x xs path (same_path x.instance.path path) refl (λ other. found_from xs path k d (omega arith) e)

seat_found : (xs : List Seat) (x : Seat) → Contains xs x → (q : Seat) × IsFound xs x.instance.path q
seat_found xs x c = found_from xs x.instance.path c.0 x c.1 (ap (λ (y : Seat). y.instance.path) c.2)

-- an instance's path has a seat
pub has_seat : (is : List ModuleInstance) (i : ModuleInstance) → Contains is i → (q : Seat) × IsFound (seats_of is) i.path q
has_seat is i c =
    (members (λ (j : ModuleInstance). (q : Seat) × IsFound (seats_of is) j.path q) is).0
    ((each_seat (λ (j : ModuleInstance). (q : Seat) × IsFound (seats_of is) j.path q) is).0
    ((members (λ (x : Seat). (q : Seat) × IsFound (seats_of is) x.instance.path q) (seats_of is)).1 (seat_found (seats_of is)))) i c
