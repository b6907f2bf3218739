-- Instances, their seats, and the paths below the top.
use Rattle.std.proofs.Common.{◌≡◌, ℕ, ◌+◌, ◌<◌, List, [], ◌∷◌, ◌++◌, map, length, get_or, slice_index, slice_get, Some}
use Rattle.std.proofs.Common.{refl, ap, sym, subst, ◌∙◌, arith}
use Rattle.std.specs.List.{Contains}
use Rattle.std.proofs.lemmas.List.{length-map, get_or-map, get_or-drop}
use Rattle.std.proofs.lemmas.List.Elements.{Contains-get_or}
use Rattle.std.proofs.lemmas.Option.{slice_get_within, get_or_from_slice_get}
use Rattle.vlog_tree.specs.Tree.{ModuleOf}
use Rattle.vlog_elab.specs.vlog_size.declared.scope.ScopeNet.{ScopeNet}
use Rattle.vlog_elab.specs.vlog_size.declared.scope.Scope.{Scope}
use Rattle.vlog_elab.specs.vlog_size.Table.{Named}
use Rattle.vlog_elab.specs.Instances.{ModuleInstance}
use Rattle.vlog_driver.specs.Names.{Full}
use Rattle.flat_parts.specs.Seats.{Seat, seats_from, seats_of}
use Rattle.flat_parts.specs.Laws.{IsListed, SeatsStand, numbers_of}

abbrev instance_at : Seat → ModuleInstance
instance_at x = x.instance

seated_from : (number net word : ℕ) (is : List ModuleInstance) → map instance_at (seats_from number net word is) ≡ is
seated_from number net word [] = refl
seated_from number net word (i ∷ is) = ap (λ js. i ∷ js) (seated_from (number + 1) _ _ is)

seated : (is : List ModuleInstance) → map instance_at (seats_of is) ≡ is
unfolding seats_of
seated is = seated_from 0 0 0 is

same_below : (k n m : ℕ) → k < n → m ≡ n → k < m
same_below k n m h e = omega (arith, h, e)

mapped : (xs : List Seat) (x : Seat) → Contains xs x → Contains (map instance_at xs) x.instance
mapped xs x c = (
  c.0,
  same_below c.0 (length xs) (length (map instance_at xs)) c.1 (length-map xs instance_at),
  get_or-map instance_at xs c.0 x x.instance c.1 ∙ ap instance_at c.2,
)

pub instance_of : (is : List ModuleInstance) (x : Seat) → Contains (seats_of is) x → Contains is x.instance
instance_of is x c = subst (λ js. Contains js x.instance) (seated is) (mapped (seats_of is) x c)

-- an instance's seat
pub seat_of : (is : List ModuleInstance) (i : ModuleInstance) → Contains is i
    → (x : Seat) × Contains (seats_of is) x × (x.instance ≡ i)
seat_of is i c =
    let none : Seat = record { number = 0; base = record { net = 0; word = 0 }; instance = i } in
    let as_many : length (seats_of is) ≡ length is = sym (length-map (seats_of is) instance_at) ∙ ap length (seated is) in
    let l : c.0 < length (seats_of is) = same_below c.0 (length is) (length (seats_of is)) c.1 as_many in (
      get_or (seats_of is) c.0 none,
      Contains-get_or (seats_of is) c.0 none l,
      sym (get_or-map instance_at (seats_of is) c.0 none i l) ∙ ap (λ js. get_or js c.0 i) (seated is) ∙ c.2,
    )

-- what holds of all instances, by path, module and scope
pub of_listed : (P : Full → ModuleOf ℕ → Scope → Type 0) (is : List ModuleInstance)
    → ((i : ModuleInstance) → Contains is i → P i.path i.tree i.scope)
    → (path : Full) (m : ModuleOf ℕ) (s : Scope) → IsListed is path m s → P path m s
of_listed P is h path m s listed =
    let i : ModuleInstance = listed.0 in
    subst (λ c. P path m c) listed.4 (subst (λ n. P path n i.scope) listed.3 (subst (λ p. P p i.tree i.scope) listed.2 (h i listed.1)))

-- and of all seats
pub of_seated : (P : Full → ModuleOf ℕ → Scope → Type 0) (is : List ModuleInstance)
    → ((x : Seat) → Contains (seats_of is) x → P x.instance.path x.instance.tree x.instance.scope)
    → (path : Full) (m : ModuleOf ℕ) (s : Scope) → IsListed is path m s → P path m s
of_seated P is h =
    of_listed P is (λ i c.
    let found = seat_of is i c in
    subst (λ (j : ModuleInstance). P j.path j.tree j.scope) found.2 (h found.0 found.1))

-- the number of an instance's net j, in the list of the design
pub number_there : (nets : Full → ℕ) (words : Full → ℕ → ℕ) (is : List ModuleInstance) → SeatsStand → (x : Seat) (j : ℕ)
    (n : Named ScopeNet) → Contains (seats_of is) x → slice_get x.instance.scope.nets j ≡ Some n
    → slice_index (numbers_of nets words is).nets (x.base.net + j) ≡ nets (x.instance.path ++ n.name ∷ [])
number_there nets words is stand x j n c h =
    let there : j < length x.instance.scope.nets = slice_get_within x.instance.scope.nets j n h in
    let name : Named ScopeNet → ℕ = λ (a : Named ScopeNet). nets (x.instance.path ++ a.name ∷ []) in
    sym (get_or-drop x.base.net (numbers_of nets words is).nets j 0)
    ∙ (stand nets words is x 0 c).numbers.nets j there
    ∙ get_or-map name x.instance.scope.nets j n 0 there
    ∙ ap name (get_or_from_slice_get x.instance.scope.nets j n n h)
