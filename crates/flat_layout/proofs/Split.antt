-- Where an instance's seat is, from the instances before it.
use Rattle.std.proofs.Common.{◌≡◌, ℕ, zero, suc, ◌+◌, ◌<◌, List, [], ◌∷◌, ◌++◌, length, drop, refl, sym, ap, subst, ◌∙◌, arith}
use Rattle.std.proofs.Common.{get_or, length-append}
use Rattle.std.specs.List.{flat_map, Contains}
use Rattle.std.proofs.lemmas.Grind.{flat_map-append}
use Rattle.std.proofs.lemmas.List.{drop_at}
use Rattle.flat_parts.specs.vlog_scope.Scope.{words_of}
use Rattle.flat_parts.specs.vlog_elab.Instances.{ModuleInstance}
use Rattle.flat_parts.specs.Seats.{Seat, seats_from, seats_of}

-- the numbers of nets and of words of instances
abbrev pub net_count : List ModuleInstance → ℕ
net_count [] = 0
net_count (i ∷ is) = length i.scope.nets + net_count is

abbrev pub word_count : List ModuleInstance → ℕ
word_count [] = 0
word_count (i ∷ is) = words_of i.scope.memories + word_count is

-- x is the seat of one of these instances, behind `front`, where the first of all has these places
pub record IsBehind (first first_net first_word : ℕ) (is : List ModuleInstance) (x : Seat) (front rest : List ModuleInstance) : Type 0 where
  pub whole : is ≡ front ++ x.instance ∷ rest
  pub number : x.number ≡ first + length front
  pub net : x.base.net ≡ first_net + net_count front
  pub word : x.base.word ≡ first_word + word_count front

nothing_more : (n : ℕ) → n ≡ n + 0
nothing_more n = omega arith

one_more : (x n k : ℕ) → x ≡ n + 1 + k → x ≡ n + suc k
one_more x n k h = omega (arith, h)

so_many_more : (x n a k : ℕ) → x ≡ n + a + k → x ≡ n + (a + k)
so_many_more x n a k h = omega (arith, h)

at_front : (number net word : ℕ) (i : ModuleInstance) (is : List ModuleInstance)
    → IsBehind number net word (i ∷ is) (record { number = number; base = record { net = net; word = word }; instance = i }) [] is
at_front number net word i is =
    record { whole = refl; number = nothing_more number; net = nothing_more net; word = nothing_more word }

further : (number net word : ℕ) (i : ModuleInstance) (is front rest : List ModuleInstance) (x : Seat)
    → IsBehind (number + 1) (net + length i.scope.nets) (word + words_of i.scope.memories) is x front rest
    → IsBehind number net word (i ∷ is) x (i ∷ front) rest
further number net word i is front rest x h = record {
  whole = ap (λ (l : List ModuleInstance). i ∷ l) h.whole;
  number = one_more x.number number (length front) h.number;
  net = so_many_more x.base.net net (length i.scope.nets) (net_count front) h.net;
  word = so_many_more x.base.word word (words_of i.scope.memories) (word_count front) h.word;
}

abbrev Behind : ℕ → ℕ → ℕ → List ModuleInstance → Seat → Type 0
Behind number net word is x = (front rest : List ModuleInstance) × IsBehind number net word is x front rest

pub behind : (number net word : ℕ) (is : List ModuleInstance) (x : Seat) (k : ℕ) → k < length (seats_from number net word is)
    → get_or (seats_from number net word is) k x ≡ x → Behind number net word is x
behind number net word [] x k l e = absurd (omega (arith, l))
behind number net word (i ∷ is) x zero l e = subst (Behind number net word (i ∷ is)) e ([], is, at_front number net word i is)
behind number net word (i ∷ is) x (suc k) l e =
    let (front, rest, h) = behind (number + 1) (net + length i.scope.nets) (word + words_of i.scope.memories) is x k (omega (arith, l)) e in
    (i ∷ front, rest, further number net word i is front rest x h)

pub seat_behind : (is : List ModuleInstance) (x : Seat) → Contains (seats_of is) x → Behind 0 0 0 is x
unfolding seats_of
seat_behind is x (k, l, e) = behind 0 0 0 is x k l e

-- ---- pieces, one of each instance

pub piece_count : {X : Type 0} (f : ModuleInstance → List X) (count : ModuleInstance → ℕ) (total : List ModuleInstance → ℕ)
    → ((i : ModuleInstance) → length (f i) ≡ count i) → total [] ≡ 0
    → ((i : ModuleInstance) (is : List ModuleInstance) → total (i ∷ is) ≡ count i + total is)
    → (is : List ModuleInstance) → length (flat_map f is) ≡ total is
piece_count f count total each none step [] = sym none
piece_count f count total each none step (i ∷ is) =
    length-append (f i) (flat_map f is)
    ∙ (ap (λ n. n + length (flat_map f is)) (each i)
    ∙ (ap (λ n. count i + n) (piece_count f count total each none step is) ∙ sym (step i is)))

-- what is left of all pieces from that behind `front` on
pub left_behind : {X : Type 0} (f : ModuleInstance → List X) (is front rest : List ModuleInstance) (i : ModuleInstance) (n : ℕ)
    → is ≡ front ++ i ∷ rest → length (flat_map f front) ≡ n → drop n (flat_map f is) ≡ f i ++ flat_map f rest
left_behind f is front rest i n whole long =
    ap (λ l. drop n (flat_map f l)) whole
    ∙ (ap (λ l. drop n l) (flat_map-append f front (i ∷ rest)) ∙ drop_at (flat_map f front) (f i ++ flat_map f rest) n long)
