-- Which net of the design is whose.
use Rattle.std.proofs.Common.{◌≡◌, ℕ, zero, suc, ◌+◌, ◌-◌, ◌<◌, ◌≤◌, inl, inr, List, [], ◌∷◌, ◌++◌, map, length, refl, sym, ap}
use Rattle.std.proofs.Common.{subst, ◌∙◌, arith, get_or, length-append, slice_get, option_map}
use Rattle.std.specs.List.{flat_map, Contains}
use Rattle.std.proofs.lemmas.Bool.{cases_lt}
use Rattle.std.proofs.lemmas.List.{length-map}
use Rattle.std.proofs.lemmas.Option.{slice_get-map}
use Rattle.flat_parts.specs.vlog_size.declared.scope.ScopeNet.{ScopeNet}
use Rattle.flat_parts.specs.vlog_size.Table.{Named}
use Rattle.flat_parts.specs.vlog_scope.Scope.{words_of}
use Rattle.net_design.specs.declared.design.Net.{Net}
use Rattle.flat_parts.specs.vlog_elab.Instances.{ModuleInstance}
use Rattle.flat_parts.specs.Seats.{Seat, seats_from, seats_of}
use Rattle.flat_parts.specs.Nets.{net_of, seat_nets, flat_nets}
use Rattle.flat_parts.specs.Laws.{IsNetOf, NetsHaveSeats, NetsHaveOneSeat, NetsAreThose}
use Rattle.flat_layout.proofs.Lists.{slice_get_left, slice_get_right}
use Rattle.flat_layout.proofs.Split.{net_count, behind}

-- ---- seats

abbrev head_seat : ℕ → ℕ → ℕ → ModuleInstance → Seat
head_seat number net word i = record { number = number; base = record { net = net; word = word }; instance = i }

abbrev tail_seats : ℕ → ℕ → ℕ → ModuleInstance → List ModuleInstance → List Seat
tail_seats number net word i is = seats_from (number + 1) (net + length i.scope.nets) (word + words_of i.scope.memories) is

nets_long : (number : ℕ) (ns : List (Named ScopeNet)) → length (map (net_of number) ns) ≡ length ns
nets_long number ns = length-map ns (net_of number)

later : (s : Seat) (xs : List Seat) (x : Seat) → Contains xs x → Contains (s ∷ xs) x
later s xs x (k, l, e) = (suc k, omega (arith, l), e)

abbrev Found : ℕ → ℕ → ℕ → List ModuleInstance → ℕ → Type 0
Found number net word is m = (x : Seat) × (j : ℕ) × IsNetOf (seats_from number net word is) (net + m) x j

module _ (number net word : ℕ) (i : ModuleInstance) (is : List ModuleInstance) where
  found_here : (m : ℕ) → m < length i.scope.nets → Found number net word (i ∷ is) m
  found_here m below =
      (head_seat number net word i, m, record { seat = (0, omega arith, refl); place = refl; there = below })

  found_later : (m : ℕ) → length i.scope.nets ≤ m
      → Found (number + 1) (net + length i.scope.nets) (word + words_of i.scope.memories) is (m - length i.scope.nets)
      → Found number net word (i ∷ is) m
  found_later m above (x, j, h) = (
    x,
    j,
    record {
      seat = later (head_seat number net word i) (tail_seats number net word i is) x h.seat;
      place = let p = h.place in omega (arith, p, above);
      there = h.there;
    },
  )

  below_rest : (m : ℕ) → m < length (flat_map seat_nets (seats_from number net word (i ∷ is))) → length i.scope.nets ≤ m
      → m - length i.scope.nets < length (flat_map seat_nets (tail_seats number net word i is))
  below_rest m l above =
      let a = length-append (map (net_of number) i.scope.nets) (flat_map seat_nets (tail_seats number net word i is)) in
      let n = nets_long number i.scope.nets in
      omega (arith, a, n, l, above)

find_seat : (number net word : ℕ) (is : List ModuleInstance) (m : ℕ) → m < length (flat_map seat_nets (seats_from number net word is))
    → Found number net word is m
find_seat number net word [] m l = absurd (omega (arith, l))
find_seat number net word (i ∷ is) m l = elim (cases_lt m (length i.scope.nets)) [
  | inl below ↦ found_here number net word i is m below
  | inr above ↦
      found_later number net word i is m above
      (find_seat (number + 1) (net + length i.scope.nets) (word + words_of i.scope.memories) is (m - length i.scope.nets)
      (below_rest number net word i is m l above))
]

pub have_seats : NetsHaveSeats
unfolding flat_nets seats_of
have_seats is m l =
    let (x, j, h) = find_seat 0 0 0 is m l in
    (x, j, record { seat = h.seat; place = let p = h.place in omega (arith, p); there = h.there })

-- ---- one seat alone

-- a net of the first instance stands before those of the others
head_below : (s x : Seat) (m j : ℕ) → s ≡ x → m ≡ x.base.net + j → j < length x.instance.scope.nets → m < s.base.net + length s.instance.scope.nets
head_below s x m j e =
    subst (λ (y : Seat). m ≡ y.base.net + j → j < length y.instance.scope.nets → m < s.base.net + length s.instance.scope.nets) e
    (λ p q. omega (arith, p, q))

tail_above : (number net word : ℕ) (is : List ModuleInstance) (x : Seat) (k m j : ℕ) → k < length (seats_from number net word is)
    → get_or (seats_from number net word is) k x ≡ x → m ≡ x.base.net + j → net ≤ m
tail_above number net word is x k m j l e p =
    let (front, rest, h) = behind number net word is x k l e in
    let n : x.base.net ≡ net + net_count front = h.net in
    omega (arith, n, p)

same_place : (x y : Seat) (m j i : ℕ) → x ≡ y → m ≡ x.base.net + j → m ≡ y.base.net + i → j ≡ i
same_place x y m j i e p q = let n : x.base.net ≡ y.base.net = ap (λ (s : Seat). s.base.net) e in omega (arith, n, p, q)

one_seat : (number net word : ℕ) (is : List ModuleInstance) (x y : Seat) (k l m j i : ℕ)
    → k < length (seats_from number net word is) → get_or (seats_from number net word is) k x ≡ x
    → l < length (seats_from number net word is) → get_or (seats_from number net word is) l y ≡ y
    → m ≡ x.base.net + j → m ≡ y.base.net + i → j < length x.instance.scope.nets → i < length y.instance.scope.nets → x ≡ y
one_seat number net word [] x y k l m j i a e b f p q s t = absurd (omega (arith, a))
one_seat number net word (z ∷ is) x y zero zero m j i a e b f p q s t = sym e ∙ f
one_seat number net word (z ∷ is) x y zero (suc l) m j i a e b f p q s t =
    let low = head_below (head_seat number net word z) x m j e p s in
    let high : net + length z.scope.nets ≤ m =
    tail_above (number + 1) (net + length z.scope.nets) (word + words_of z.scope.memories) is y l m i (omega (arith, b)) f q in
    absurd (omega (arith, low, high))
one_seat number net word (z ∷ is) x y (suc k) zero m j i a e b f p q s t =
    let low = head_below (head_seat number net word z) y m i f q t in
    let high : net + length z.scope.nets ≤ m =
    tail_above (number + 1) (net + length z.scope.nets) (word + words_of z.scope.memories) is x k m j (omega (arith, a)) e p in
    absurd (omega (arith, low, high))
one_seat number net word (z ∷ is) x y (suc k) (suc l) m j i a e b f p q s t =
    one_seat (number + 1) (net + length z.scope.nets) (word + words_of z.scope.memories) is x y k l m j i (omega (arith, a)) e
    (omega (arith, b)) f p q s t

seat_alone : (is : List ModuleInstance) (m j i : ℕ) (x y : Seat) → Contains (seats_of is) x → Contains (seats_of is) y
    → m ≡ x.base.net + j → m ≡ y.base.net + i → j < length x.instance.scope.nets → i < length y.instance.scope.nets → x ≡ y
unfolding seats_of
seat_alone is m j i x y (k, a, e) (l, b, f) p q s t = one_seat 0 0 0 is x y k l m j i a e b f p q s t

pub have_one_seat : NetsHaveOneSeat
have_one_seat is m j i x y h g =
    let e : x ≡ y = seat_alone is m j i x y h.seat g.seat h.place g.place h.there g.there in
    (e, same_place x y m j i e h.place g.place)

-- ---- the nets themselves

net_here : (s : Seat) (rest : List Net) (m j : ℕ) → m ≡ j → j < length s.instance.scope.nets
    → slice_get (seat_nets s ++ rest) m ≡ option_map (net_of s.number) (slice_get s.instance.scope.nets j)
net_here s rest m j e below =
    ap (λ k. slice_get (seat_nets s ++ rest) k) e
    ∙ (slice_get_left (seat_nets s) rest j (let n = nets_long s.number s.instance.scope.nets in omega (arith, n, below))
    ∙ slice_get-map (net_of s.number) s.instance.scope.nets j)

net_at : (number net word : ℕ) (is : List ModuleInstance) (m j : ℕ) (x : Seat) (k : ℕ) → k < length (seats_from number net word is)
    → get_or (seats_from number net word is) k x ≡ x → net + m ≡ x.base.net + j → j < length x.instance.scope.nets
    → slice_get (flat_map seat_nets (seats_from number net word is)) m
    ≡ option_map (net_of x.number) (slice_get x.instance.scope.nets j)
net_at number net word [] m j x k l e p below = absurd (omega (arith, l))
net_at number net word (i ∷ is) m j x zero l e p below =
    subst
    (λ (y : Seat). net + m ≡ y.base.net + j → j < length y.instance.scope.nets
    → slice_get (flat_map seat_nets (seats_from number net word (i ∷ is))) m
    ≡ option_map (net_of y.number) (slice_get y.instance.scope.nets j))
    e
    (λ q b. net_here (head_seat number net word i) (flat_map seat_nets (tail_seats number net word i is)) m j (omega (arith, q)) b)
    p below
net_at number net word (i ∷ is) m j x (suc k) l e p below =
    let high : net + length i.scope.nets ≤ net + m =
    tail_above (number + 1) (net + length i.scope.nets) (word + words_of i.scope.memories) is x k (net + m) j (omega (arith, l)) e p in
    slice_get_right (map (net_of number) i.scope.nets) (flat_map seat_nets (tail_seats number net word i is)) m (m - length i.scope.nets)
    (let n = nets_long number i.scope.nets in omega (arith, n, high))
    ∙ net_at (number + 1) (net + length i.scope.nets) (word + words_of i.scope.memories) is (m - length i.scope.nets) j x k
    (omega (arith, l)) e (omega (arith, p, high)) below

net_of_seat : (is : List ModuleInstance) (m j : ℕ) (x : Seat) → Contains (seats_of is) x → m ≡ x.base.net + j
    → j < length x.instance.scope.nets
    → slice_get (flat_nets (seats_of is)) m ≡ option_map (net_of x.number) (slice_get x.instance.scope.nets j)
unfolding flat_nets seats_of
net_of_seat is m j x (k, l, e) p below = net_at 0 0 0 is m j x k l e (omega (arith, p)) below

pub are_those : NetsAreThose
are_those is m j x h = net_of_seat is m j x h.seat h.place h.there
