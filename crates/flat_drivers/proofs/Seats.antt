-- What the items of the instance at a seat make, and the seats one by one.
use Rattle.std.proofs.Common.{◌≡◌, ℕ, zero, suc, ◌+◌, ◌<◌, ◌≤◌, List, [], ◌∷◌, ◌++◌, map, length, drop, refl, ap, sym, subst, ◌∙◌}
use Rattle.std.proofs.Common.{append-nil, Some, slice_get, arith, add-one}
use Rattle.std.specs.Prelude.{option_map}
use Rattle.std.specs.List.{flat_map, AllByRecursion}
use Rattle.std.proofs.Math.ListN.{drop_of_length-le}
use Rattle.std.proofs.lemmas.List.{length-map}
use Rattle.std.proofs.lemmas.Option.{slice_get-map}
use Rattle.vlog_tree.specs.Tree.{ItemOf, WiresItem, DrivenWiresItem, RegsItem, LocalparamsItem, AssignItem, AlwaysItem, InstanceItem}
use Rattle.std.specs.Borrow.{Bor}
use Rattle.flat_parts.proofs.vidi_bits_lemmas.Lists.{some_same}
use Rattle.vlog_tree.specs.declared.module.Item.{Item}
use Rattle.vlog_tree.specs.Plain.{plain_item}
use Rattle.flat_parts.specs.vlog_size.declared.scope.Scope.{Scope}
use Rattle.flat_parts.specs.vlog_hierarchy.Plain.{plain_path}
use Rattle.flat_parts.specs.vlog_elab.declared.instance.ModuleInstance as code
use Rattle.flat_parts.specs.vlog_elab.Plain.{plain_instance, plain_instances}
use Rattle.flat_parts.specs.vlog_scope.Scope.{words_of}
use Rattle.flat_parts.specs.vlog_elab.Instances.{ModuleInstance}
use Rattle.flat_parts.specs.vlog_driver.Placed.{placed, placed_items}
use Rattle.flat_parts.specs.vlog_driver.Duties.{Duty}
use Rattle.flat_parts.specs.vlog_driver.Held.{item_duties}
use Rattle.flat_parts.specs.Seats.{Seat, base_of, seats_from, seats_of, site_at}
use Rattle.flat_parts.specs.Drivers.{duties_at, placed_duties, seat_duties, placed_blocks, seat_blocks, all_duties, all_blocks}
use Rattle.flat_parts.specs.Drivers.{ClockedBlock}
use Rattle.flat_parts.specs.net_code.declared.base.Base.{Base}
use Rattle.flat_drivers.specs.Latches.{placed_latches, instance_latches}
use Rattle.flat_drivers.specs.Seated.{IsFaultlessInstance, AreFaultlessInstances}
use Rattle.flat_drivers.proofs.Added.{all_at}
use Rattle.flat_drivers.proofs.Lawful.{consts_empty, widths_empty}
use Rattle.flat_drivers.proofs.Faultless.{instance_clean}
use Rattle.flat_drivers.specs.Adding.{site_from, duties_in, placed_in, blocks_in, IsFaultlessPlaced}

-- ---- the items of a seat

duties_are : (xs : List Seat) (x : Seat) (k : ℕ) (item : ItemOf ℕ)
    → duties_at xs x k item ≡ duties_in xs x.instance.path (site_from (base_of x) x.instance.scope k) item
duties_are xs x k (WiresItem range ids) = refl
duties_are xs x k (DrivenWiresItem range ws) = append-nil (item_duties (site_at x k) (DrivenWiresItem range ws))
duties_are xs x k (RegsItem range gs) = refl
duties_are xs x k (LocalparamsItem range vs) = refl
duties_are xs x k (AssignItem assigns) = append-nil (item_duties (site_at x k) (AssignItem assigns))
duties_are xs x k (AlwaysItem a) = append-nil (item_duties (site_at x k) (AlwaysItem a))
duties_are xs x k (InstanceItem i) = refl

same_all : {X Y : Type 0} → (f g : X → List Y) (xs : List X) → ((x : X) → f x ≡ g x) → flat_map f xs ≡ flat_map g xs
same_all f g [] h = refl
same_all f g (x ∷ xs) h = ap (λ ys. ys ++ flat_map f xs) (h x) ∙ ap (λ ys. g x ++ ys) (same_all f g xs h)

-- the items of an instance that stands there
abbrev DutiesOf : List Seat → Base → ModuleInstance → List Duty
DutiesOf xs base i = flat_map (placed_in xs i.path base i.scope) (placed_items i.tree i.scope)

abbrev BlocksOf : Base → ModuleInstance → List ClockedBlock
BlocksOf base i = flat_map (blocks_in base i.scope) (placed_items i.tree i.scope)

pub seat_duties_are : (xs : List Seat) (x : Seat) (i : ModuleInstance) (base : Base) → x.instance ≡ i → base_of x ≡ base
    → flat_map (placed_in xs i.path base i.scope) (placed_items i.tree i.scope) ≡ seat_duties xs x
unfolding seat_duties
seat_duties_are xs x i base is at =
    sym (same_all (placed_duties xs x) (placed_in xs x.instance.path (base_of x) x.instance.scope)
    (placed_items x.instance.tree x.instance.scope) (λ p. duties_are xs x p.declared p.item)
    ∙ ap (DutiesOf xs (base_of x)) is ∙ ap (λ s. DutiesOf xs s i) at)

pub seat_blocks_are : (x : Seat) (i : ModuleInstance) (base : Base) → x.instance ≡ i → base_of x ≡ base
    → flat_map (blocks_in base i.scope) (placed_items i.tree i.scope) ≡ seat_blocks x
unfolding seat_blocks
seat_blocks_are x i base is at =
    sym (same_all (placed_blocks x) (blocks_in (base_of x) x.instance.scope) (placed_items x.instance.tree x.instance.scope) (λ p. refl)
    ∙ ap (BlocksOf (base_of x)) is ∙ ap (λ s. BlocksOf s i) at)

-- ---- seats one by one

seats_long : (n net word : ℕ) (is : List ModuleInstance) → length (seats_from n net word is) ≡ length is
seats_long n net word [] = refl
seats_long n net word (i ∷ is) = ap suc (seats_long (n + 1) (net + length i.scope.nets) (word + words_of i.scope.memories) is)

seats_hold : (n net word : ℕ) (is : List ModuleInstance) → map (λ (x : Seat). x.instance) (seats_from n net word is) ≡ is
seats_hold n net word [] = refl
seats_hold n net word (i ∷ is) =
    ap (λ js. i ∷ js) (seats_hold (n + 1) (net + length i.scope.nets) (word + words_of i.scope.memories) is)

-- the instance of the seat at a place is the one there
pub seat_instance : (is : List ModuleInstance) (k : ℕ) (x : Seat) (i : ModuleInstance) → slice_get (seats_of is) k ≡ Some x
    → slice_get is k ≡ Some i → x.instance ≡ i
unfolding seats_of
seat_instance is k x i at there =
    some_same x.instance i (sym (slice_get-map (λ (y : Seat). y.instance) (seats_of is) k
    ∙ ap (option_map (λ (y : Seat). y.instance)) at)
    ∙ ap (λ js. slice_get js k) (seats_hold 0 0 0 is) ∙ there)

pub seat_start : (is : List ModuleInstance) (bases : List Base) (k : ℕ) (x : Seat) (base : Base) → bases ≡ map base_of (seats_of is)
    → slice_get (seats_of is) k ≡ Some x → slice_get bases k ≡ Some base → base_of x ≡ base
seat_start is bases k x base stand at begins =
    some_same (base_of x) base (sym (ap (λ ss. slice_get ss k) stand ∙ slice_get-map base_of (seats_of is) k
    ∙ ap (option_map base_of) at)
    ∙ begins)

there : {X : Type 0} → (xs : List X) (k : ℕ) → k < length xs → (x : X) × (slice_get xs k ≡ Some x)
there [] k l = absurd (omega (arith, l))
there (x ∷ xs) zero l = (x, refl)
there (x ∷ xs) (suc k) l = there xs k (omega (arith, l))

pub instance_there : (is : List ModuleInstance) (k : ℕ) → k < length is → (i : ModuleInstance) × (slice_get is k ≡ Some i)
instance_there is k l = there is k l

pub seat_there : (is : List ModuleInstance) (k : ℕ) → k < length is → (x : Seat) × (slice_get (seats_of is) k ≡ Some x)
unfolding seats_of
seat_there is k l = there (seats_of is) k (subst (λ n. k < n) (sym (seats_long 0 0 0 is)) l)

-- an instance of the list has a base
pub base_there : (is : List ModuleInstance) (bases : List Base) (k : ℕ) → bases ≡ map base_of (seats_of is) → k < length is
    → k < length bases
unfolding seats_of
base_there is bases k stand l =
    subst (λ n. k < n) (sym (ap length stand ∙ length-map (seats_of is) base_of ∙ seats_long 0 0 0 is)) l

split_suc : {X Y : Type 0} → (f : X → List Y) (xs : List X) (k : ℕ) (x : X) → slice_get xs k ≡ Some x
    → flat_map f (drop k xs) ≡ f x ++ flat_map f (drop (suc k) xs)
split_suc f [] k x h = absurd (cc)
split_suc f (y ∷ xs) zero x h = ap (λ z. f z ++ flat_map f xs) (some_same y x h)
split_suc f (y ∷ xs) (suc k) x h = split_suc f xs k x h

-- what stands at a place and what stands behind it
pub split_at : {X Y : Type 0} → (f : X → List Y) (xs : List X) (k : ℕ) (x : X) → slice_get xs k ≡ Some x
    → flat_map f (drop k xs) ≡ f x ++ flat_map f (drop (k + 1) xs)
split_at f xs k x h = rw add-one (split_suc f xs k x h)

pub all_over : {X Y : Type 0} → (f : X → List Y) (xs : List X) (k : ℕ) → length xs ≤ k → flat_map f (drop k xs) ≡ []
all_over f xs k l = ap (flat_map f) (drop_of_length-le xs l)

pub seats_over : {Y : Type 0} → (f : Seat → List Y) (is : List ModuleInstance) (k : ℕ) → length is ≤ k
    → flat_map f (drop k (seats_of is)) ≡ []
unfolding seats_of
seats_over f is k l = all_over f (seats_of is) k (subst (λ n. n ≤ k) (sym (seats_long 0 0 0 is)) l)

-- ---- the clauses in the words of the parts

pub latches_are : (i : ModuleInstance) → flat_map (placed_latches i.scope) (placed_items i.tree i.scope) ≡ instance_latches i
unfolding instance_latches
latches_are i = refl

pub duties_all : (is : List ModuleInstance) → flat_map (seat_duties (seats_of is)) (seats_of is) ≡ all_duties (seats_of is)
unfolding all_duties
duties_all is = refl

pub blocks_all : (is : List ModuleInstance) → flat_map seat_blocks (seats_of is) ≡ all_blocks (seats_of is)
unfolding all_blocks
blocks_all is = refl

-- ---- the instance of the code that stands at a place

instance_is : (list : List code.ModuleInstance) (k : ℕ) (c : code.ModuleInstance) → slice_get list k ≡ Some c
    → slice_get (plain_instances list) k ≡ Some (plain_instance c)
instance_is list k c h = slice_get-map plain_instance list k ∙ ap (option_map plain_instance) h

pub latches_seat : (list : List code.ModuleInstance) (k : ℕ) (c : code.ModuleInstance) (i : ModuleInstance) (s : Scope) (items : List Item)
    → slice_get list k ≡ Some c → slice_get (plain_instances list) k ≡ Some i → s ≡ c.scope → items ≡ c.tree.now.items
    → flat_map (placed_latches s) (placed s.params s.declared (map plain_item items)) ≡ instance_latches i
latches_seat list k c i s items h at same text =
    ap (λ (t : Scope). flat_map (placed_latches t) (placed t.params t.declared (map plain_item items))) same
    ∙ ap (λ (ys : List Item). flat_map (placed_latches c.scope) (placed c.scope.params c.scope.declared (map plain_item ys))) text
    ∙ latches_are (plain_instance c) ∙ ap instance_latches (some_same (plain_instance c) i (sym (instance_is list k c h) ∙ at))

pub duties_seat : (list : List code.ModuleInstance) (bases : List Base) (k : ℕ) (c : code.ModuleInstance) (x : Seat) (base : Base)
    (s : Scope) (items : List Item) (path : List (Bor (List ℕ))) → bases ≡ map base_of (seats_of (plain_instances list))
    → slice_get bases k ≡ Some base → slice_get list k ≡ Some c → slice_get (seats_of (plain_instances list)) k ≡ Some x
    → s ≡ c.scope → items ≡ c.tree.now.items → path ≡ c.path
    → flat_map (placed_in (seats_of (plain_instances list)) (plain_path path) base s)
    (placed s.params s.declared (map plain_item items)) ≡ seat_duties (seats_of (plain_instances list)) x
duties_seat list bases k c x base s items path stand begins h at same text named =
    let xs = seats_of (plain_instances list) in
    let D : Scope → List Item → List (Bor (List ℕ)) → List Duty =
    λ t ys p. flat_map (placed_in xs (plain_path p) base t) (placed t.params t.declared (map plain_item ys)) in
    ap (λ (t : Scope). D t items path) same ∙ ap (λ (ys : List Item). D c.scope ys path) text
    ∙ ap (λ (p : List (Bor (List ℕ))). D c.scope c.tree.now.items p) named
    ∙ seat_duties_are xs x (plain_instance c) base
    (seat_instance (plain_instances list) k x (plain_instance c) at (instance_is list k c h))
    (seat_start (plain_instances list) bases k x base stand at begins)

pub blocks_seat : (list : List code.ModuleInstance) (bases : List Base) (k : ℕ) (c : code.ModuleInstance) (x : Seat) (base : Base)
    (s : Scope) (items : List Item) → bases ≡ map base_of (seats_of (plain_instances list))
    → slice_get bases k ≡ Some base → slice_get list k ≡ Some c → slice_get (seats_of (plain_instances list)) k ≡ Some x
    → s ≡ c.scope → items ≡ c.tree.now.items
    → flat_map (blocks_in base s) (placed s.params s.declared (map plain_item items)) ≡ seat_blocks x
blocks_seat list bases k c x base s items stand begins h at same text =
    let D : Scope → List Item → List ClockedBlock =
    λ t ys. flat_map (blocks_in base t) (placed t.params t.declared (map plain_item ys)) in
    ap (λ (t : Scope). D t items) same ∙ ap (λ (ys : List Item). D c.scope ys) text
    ∙ seat_blocks_are x (plain_instance c) base (seat_instance (plain_instances list) k x (plain_instance c) at (instance_is list k c h))
    (seat_start (plain_instances list) bases k x base stand at begins)

pub clean_seat : (list : List code.ModuleInstance) (k : ℕ) (c : code.ModuleInstance) (base : Base) (s : Scope) (items : List Item)
    → AreFaultlessInstances (plain_instances list) → slice_get list k ≡ Some c → s ≡ c.scope → items ≡ c.tree.now.items
    → AllByRecursion (IsFaultlessPlaced base s) (placed s.params s.declared (map plain_item items))
clean_seat list k c base s items all h same text =
    let clean = all_at IsFaultlessInstance (plain_instances list) k (plain_instance c) all (instance_is list k c h) in
    let P : Scope → List Item → Type 0 =
    λ t ys. AllByRecursion (IsFaultlessPlaced base t) (placed t.params t.declared (map plain_item ys)) in
    subst (λ (t : Scope). P t items) (sym same)
    (subst (λ (ys : List Item). P c.scope ys) (sym text)
    (instance_clean base (plain_instance c) clean.lawful (consts_empty (plain_instance c) clean.consts)
    (widths_empty (plain_instance c) clean.widths)))
