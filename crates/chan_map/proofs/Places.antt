-- Of the ports of one direction each has a place of its own.
use Rattle.std.proofs.Common.{◌≡◌, ◌≢◌, ℕ, zero, suc, ◌+◌, ◌<◌, ◌≤◌, ◌==◌, Bool, true, false, List, [], ◌∷◌, Option, Some, None}
use Rattle.std.proofs.Common.{length, get_or, take, refl, sym, ap, ◌∙◌, arith, inl, inr}
use Rattle.std.specs.Prelude.{slice_get, count_by}
use Rattle.std.specs.List.{AllPairs}
use Rattle.std.proofs.lemmas.Bool.{eqb-true, eq-eqb, and_from, cases_lt, false_from_ne_true}
use Rattle.std.proofs.lemmas.List.{take_all}
use Rattle.std.proofs.lemmas.List.Sums.{sum_by-cons}
use Rattle.vidi_lines.proofs.vidi_bits_lemmas.Bools.{left_of, right_of}
use Rattle.trace_model.proofs.RowLaws.{flag}
use Rattle.net_design.specs.declared.design.Port.{Port}
use Rattle.net_design.specs.declared.design.Direction.{Direction}
use Rattle.net_design.specs.declared.design.Direction.TheVariants.{Input, Output}
use Rattle.net_design.specs.Settled.{same_direction}
use Rattle.chan_map.specs.declared.sockets.Socket.{Socket}
use Rattle.chan_map.specs.Ports.{socket_named, is_pin, is_port, times}
use Rattle.chan_map.specs.Bound.{place_of}
use Rattle.chan_map.specs.Places.{is_at}
use Rattle.chan_map.proofs.Counts.{port_below}
use Rattle.chan_map.proofs.Found.{socket_is, same}

pub count_cons : {A : Type 0} (p : A → Bool) (x : A) (xs : List A) → count_by p (x ∷ xs) ≡ flag (p x) + count_by p xs
count_cons p x xs = sum_by-cons (λ y. flag (p y)) x xs

one : (b : Bool) → b ≡ true → flag b ≡ 1
one true e = refl
one false e = let off : false ≡ true = e in absurd (cc)

none : (b : Bool) → b ≡ false → flag b ≡ 0
none true e = let off : true ≡ false = e in absurd (cc)
none false e = refl

same_bools : (b c : Bool) → (b ≡ true → c ≡ true) → (c ≡ true → b ≡ true) → b ≡ c
same_bools true c forth back = sym (forth refl)
same_bools false c forth back = sym (false_from_ne_true c (λ e. let off : false ≡ true = back e in absurd (cc)))

-- ---- places

earlier : (f : Port → Bool) (ports : List Port) (i j : ℕ) (p : Port) → slice_get ports i ≡ Some p → f p ≡ true → i < j
    → count_by f (take i ports) < count_by f (take j ports)
earlier f [] i j p at holds less = let off : None ≡ Some p = at in absurd (cc)
earlier f (x ∷ ports) i zero p at holds less = absurd (omega arith)
earlier f (x ∷ ports) zero (suc j) p at holds less =
    let is : x ≡ p = cc in
    let first : flag (f x) ≡ 1 = one (f x) (ap f is ∙ holds) in
    omega (arith, count_cons f x (take j ports), first)
earlier f (x ∷ ports) (suc i) (suc j) p at holds less =
    omega (arith, count_cons f x (take i ports), count_cons f x (take j ports), earlier f ports i j p at holds (omega arith))

one_place : (f : Port → Bool) (ports : List Port) (i j : ℕ) (p r : Port) → slice_get ports i ≡ Some p → slice_get ports j ≡ Some r
    → f p ≡ true → f r ≡ true
    → count_by f (take i ports) ≡ count_by f (take j ports) → i ≡ j
one_place f ports i j p r at there holds also e =
    elim (cases_lt i j) [
      | inl w ↦ absurd (omega (arith, earlier f ports i j p at holds w, e))
      | inr w ↦ elim (cases_lt j i) [
        | inl v ↦ absurd (omega (arith, earlier f ports j i r there also v, e))
        | inr v ↦ omega (arith, w, v)
      ]
    ]

-- the port with this place
pub record Standing (f : Port → Bool) (ports : List Port) (place : ℕ) : Type 0 where
  pub port : ℕ
  pub p : Port
  pub at : slice_get ports port ≡ Some p
  pub holds : f p ≡ true
  pub stands : count_by f (take port ports) ≡ place

standing_with : (f : Port → Bool) (x : Port) (ports : List Port) (b : Bool) (place : ℕ) → f x ≡ b
    → ((r : ℕ) → r < count_by f ports → Standing f ports r)
    → place < count_by f (x ∷ ports) → Standing f (x ∷ ports) place
standing_with f x ports true zero is rest less = record { port = 0; p = x; at = refl; holds = is; stands = refl }
standing_with f x ports true (suc place) is rest less =
    let first : flag (f x) ≡ 1 = one (f x) is in
    let s = rest place (omega (arith, less, count_cons f x ports, first)) in
    record {
      port = suc s.port;
      p = s.p;
      at = s.at;
      holds = s.holds;
      stands = omega
          (arith, count_cons f x (take s.port ports), first, s.stands);
    }
standing_with f x ports false place is rest less =
    let first : flag (f x) ≡ 0 = none (f x) is in
    let s = rest place (omega (arith, less, count_cons f x ports, first)) in
    record {
      port = suc s.port;
      p = s.p;
      at = s.at;
      holds = s.holds;
      stands = omega
          (arith, count_cons f x (take s.port ports), first, s.stands);
    }

pub standing : (f : Port → Bool) (ports : List Port) (place : ℕ) → place < count_by f ports → Standing f ports place
standing f [] place less = absurd (omega arith)
standing f (x ∷ ports) place less = standing_with f x ports (f x) place refl (standing f ports) less

-- ---- names that are those of the port with a place

-- a name of a port of its side stands at this place just where it is the name of port k
abbrev pub Hits : List Port → Direction → ℕ → ℕ → Type 0
Hits ports way place k =
    (side : Direction) (name : List ℕ) → is_pin side (socket_named ports name) ≡ true
    → is_at way place (side, place_of (socket_named ports name)) ≡ is_port k (socket_named ports name)

abbrev goes : Direction → Port → Bool
goes way q = same_direction way q.direction

goes_same : (way : Direction) (p : Port) → p.direction ≡ way → goes way p ≡ true
goes_same way p e = ap (same_direction way) e ∙ self way
  where
    self : (d : Direction) → same_direction d d ≡ true
    self Input = refl
    self Output = refl

hits_by : (ports : List Port) (way : Direction) (place k : ℕ)
    → ((i : ℕ) (p : Port) → slice_get ports i ≡ Some p → goes way p ≡ true → count_by (goes way) (take i ports) ≡ place → i ≡ k)
    → ((i : ℕ) (p : Port) → slice_get ports i ≡ Some p → i ≡ k → (goes way p ≡ true) × (count_by (goes way) (take i ports) ≡ place))
    → Hits ports way place k
hits_by ports way place k forth back side name pin = by (socket_named ports name) refl pin
  where
    by : (o : Option Socket) → socket_named ports name ≡ o → is_pin side o ≡ true → is_at way place (side, place_of o) ≡ is_port k o
    by None e pin = let off : false ≡ true = pin in absurd (cc)
    by (Some t) e pin =
        let is = socket_is ports name t e in
        let to : is.p.direction ≡ side = sym (ap (λ (x : Socket). x.direction) is.is) ∙ same side t.direction pin in
        let counted : side ≡ way → t.place ≡ count_by (goes way) (take t.port ports) =
        λ w. ap (λ (x : Socket). x.place) is.is ∙ ap (λ (x : Direction). count_by (goes x) (take t.port ports)) (to ∙ w) in
        same_bools (is_at way place (side, t.place)) (t.port == k)
        (λ h.
        let w : side ≡ way = same way side (left_of _ _ h) in
        eq-eqb _ _ (forth t.port is.p is.at (goes_same way is.p (to ∙ w))
        (sym (counted w) ∙ eqb-true _ _ (right_of (same_direction way side) _ h))))
        (λ h.
        let b = back t.port is.p is.at (eqb-true _ _ h) in
        let w : side ≡ way = sym to ∙ same way is.p.direction b.0 in
        and_from (same_direction way side) (t.place == place) (ap (same_direction way) (sym to) ∙ b.0) (eq-eqb _ _ (counted w ∙ b.1)))

pub hits_in : (ports : List Port) (way : Direction) (place : ℕ) (s : Standing (λ (q : Port). same_direction way q.direction) ports place)
    → Hits ports way place s.port
hits_in ports way place s = hits_by ports way place s.port
    (λ i p at holds e. one_place (goes way) ports i s.port p s.p at s.at holds s.holds (e ∙ sym s.stands))
    (λ i p at e.
    let some : Some p ≡ Some s.p = sym at ∙ ap (slice_get ports) e ∙ s.at in
    let is : p ≡ s.p = cc in
    (ap (goes way) is ∙ s.holds, ap (λ n. count_by (goes way) (take n ports)) e ∙ s.stands))

pub inside : (ports : List Port) (i : ℕ) (p : Port) → slice_get ports i ≡ Some p → i < length ports
inside [] i p at = let off : None ≡ Some p = at in absurd (cc)
inside (x ∷ ports) zero p at = omega arith
inside (x ∷ ports) (suc i) p at = omega (arith, inside ports i p at)

pub hits_out : (ports : List Port) (way : Direction) (place : ℕ) → count_by (λ (q : Port). same_direction way q.direction) ports ≤ place
    → Hits ports way place (length ports)
hits_out ports way place over = hits_by ports way place (length ports)
    (λ i p at holds e.
    absurd (omega (
      arith,
      earlier (goes way) ports i (length ports) p at holds (inside ports i p at),
      e,
      over,
      ap (count_by (goes way))
          (take_all (length ports) ports (omega arith)),
    )))
    (λ i p at e. absurd (omega (arith, inside ports i p at, e)))

pub times_out : (ports : List Port) (words : List (List ℕ)) → times ports words (length ports) ≡ 0
times_out ports [] = refl
times_out ports (name ∷ words) =
    omega (
      arith,
      count_cons (λ n. is_port (length ports) (socket_named ports n)) name words,
      none
          (is_port (length ports) (socket_named ports name)) (by (socket_named ports name) refl),
      times_out ports words,
    )
  where
    by : (o : Option Socket) → socket_named ports name ≡ o → is_port (length ports) o ≡ false
    by None e = refl
    by (Some t) e = false_from_ne_true (t.port == length ports)
        (λ h. let is : t.port ≡ length ports = eqb-true _ _ h in absurd (omega (arith, port_below ports name t e, is)))

-- ---- pins that differ

count_one : {A : Type 0} (p : A → Bool) (xs : List A) (j : ℕ) (d : A) → j < length xs → p (get_or xs j d) ≡ true → 1 ≤ count_by p xs
count_one p [] j d within holds = absurd (omega arith)
count_one p (x ∷ xs) zero d within holds = omega (arith, count_cons p x xs, one (p x) holds)
count_one p (x ∷ xs) (suc j) d within holds = omega (arith, count_cons p x xs, count_one p xs j d (omega arith) holds)

count_two : {A : Type 0} (p : A → Bool) (xs : List A) (i j : ℕ) (d : A) → i < j → j < length xs → p (get_or xs i d) ≡ true
    → p (get_or xs j d) ≡ true → 2 ≤ count_by p xs
count_two p [] i j d less within holds also = absurd (omega arith)
count_two p (x ∷ xs) i zero d less within holds also = absurd (omega arith)
count_two p (x ∷ xs) zero (suc j) d less within holds also = omega
    (arith, count_cons p x xs, one (p x) holds, count_one p xs j d (omega arith) also)
count_two p (x ∷ xs) (suc i) (suc j) d less within holds also = omega
    (arith, count_cons p x xs, count_two p xs i j d (omega arith) (omega arith) holds also)

at_self : (pin : Direction × ℕ) → is_at pin.0 pin.1 pin ≡ true
at_self pin = and_from (same_direction pin.0 pin.0) (pin.1 == pin.1) (self pin.0) (eq-eqb _ _ refl)
  where
    self : (d : Direction) → same_direction d d ≡ true
    self Input = refl
    self Output = refl

pub pins_differ : (pins : List (Direction × ℕ)) → ((way : Direction) (place : ℕ) → count_by (is_at way place) pins ≤ 1)
    → AllPairs (λ (a b : Direction × ℕ). a ≢ b) pins
pins_differ pins few = λ i j d less within e.
    let a : Direction × ℕ = get_or pins i d in
    let two : 2 ≤ count_by (is_at a.0 a.1) pins = count_two (is_at a.0 a.1) pins i j d less within (at_self a)
    (ap (is_at a.0 a.1) (sym e) ∙ at_self a) in
    absurd (omega (arith, two, few a.0 a.1))
