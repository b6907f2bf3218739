-- The kinds of nets, net by net, are those of the seats.
use Rattle.std.proofs.Common.{◌≡◌, ℕ, zero, suc, ◌+◌, ◌≤◌, ◌==◌, ◌&&◌, Bool, true, false, List, [], ◌∷◌, ◌++◌, map, length, slice_get}
use Rattle.std.proofs.Common.{Some, None, subst}
use Rattle.std.proofs.Common.{refl, sym, ap, ◌∙◌, arith}
use Rattle.std.specs.List.{flat_map}
use Rattle.std.proofs.lemmas.Bool.{eqb-true}
use Rattle.flat_parts.specs.vlog_size.declared.scope.ScopeNet.{ScopeNet}
use Rattle.flat_parts.specs.vlog_size.Table.{Named}
use Rattle.flat_parts.specs.vlog_elab.Scope.{words_of}
use Rattle.std.proofs.lemmas.Option.{same_Some}
use Rattle.flat_parts.specs.vlog_elab.Instances.{ModuleInstance}
use Rattle.flat_parts.specs.vlog_elab.declared.instance.ModuleInstance as code
use Rattle.flat_parts.specs.vlog_elab.Plain.{plain_instance, plain_instances}
use Rattle.flat_parts.specs.vlog_names.Ports.{has_reg}
use Rattle.flat_parts.specs.Seats.{Seat, seats_from, seats_of}
use Rattle.flat_parts.specs.Marks.{seat_marks, reg_marks}
use Rattle.flat_drive.specs.Kinds.{has_input, kind_if, kind_of, seat_kinds, flat_kinds}
use Rattle.flat_drive.specs.Marked.{IsInputTable, is_pin, kinds_from}

two_lists : (pin : ℕ → Bool) (k : ℕ) (xs ys : List Bool)
    → kinds_from pin k (xs ++ ys) ≡ kinds_from pin k xs ++ kinds_from pin (k + length xs) ys
two_lists pin k [] ys = let same : k ≡ k + 0 = omega arith in ap (λ j. kinds_from pin j ys) same
two_lists pin k (x ∷ xs) ys =
    let same : k + 1 + length xs ≡ k + length (x ∷ xs) = omega arith in
    ap (λ ks. kind_if (pin k) x ∷ ks)
    (two_lists pin (k + 1) xs ys ∙ ap (λ j. kinds_from pin (k + 1) xs ++ kinds_from pin j ys) same)

marked : Seat → Named ScopeNet → Bool
marked x n = has_reg x.instance.tree n.name

-- ---- behind the top

no_pin : (table : List (Named Bool)) (nets : List (Named ScopeNet)) (k : ℕ) → length nets ≤ k → is_pin table nets k ≡ false
no_pin table [] k l = refl
no_pin table (n ∷ nets) zero l = absurd (omega (arith, l))
no_pin table (n ∷ nets) (suc k) l = no_pin table nets k (omega (arith, l))

abbrev NoneFrom : (ℕ → Bool) → ℕ → Type 0
NoneFrom pin k = (j : ℕ) → k ≤ j → pin j ≡ false

later_nets : (pin : ℕ → Bool) (x : Seat) (k : ℕ) (nets : List (Named ScopeNet)) → NoneFrom pin k → (x.number == 0) ≡ false
    → kinds_from pin k (map (λ (n : Named ScopeNet). has_reg x.instance.tree n.name) nets) ≡ map (kind_of x) nets
later_nets pin x k [] off later = refl
later_nets pin x k (n ∷ nets) off later =
    ap (λ b. kind_if b (has_reg x.instance.tree n.name)
    ∷ kinds_from pin (k + 1) (map (λ (n : Named ScopeNet). has_reg x.instance.tree n.name) nets))
    (off k (omega arith) ∙ sym (ap (λ b. b && has_input x.instance.tree n.name) later))
    ∙ ap (λ ks. kind_of x n ∷ ks) (later_nets pin x (k + 1) nets (λ j l. off j (omega (arith, l))) later)

not_first : (n : ℕ) → (n + 1 == 0) ≡ false
not_first n = not_so (n + 1 == 0) refl
  where
    not_so : (b : Bool) → b ≡ (n + 1 == 0) → (n + 1 == 0) ≡ false
    not_so true e = let h : n + 1 ≡ 0 = eqb-true (n + 1) 0 (sym e) in absurd (omega (arith, h))
    not_so false e = sym e

later_seats : (pin : ℕ → Bool) (k number net word : ℕ) (is : List ModuleInstance) → NoneFrom pin k
    → kinds_from pin k (flat_map seat_marks (seats_from (number + 1) net word is))
    ≡ flat_map seat_kinds (seats_from (number + 1) net word is)
later_seats pin k number net word [] off = refl
later_seats pin k number net word (i ∷ is) off =
    let x : Seat = record { number = number + 1; base = record { net = net; word = word }; instance = i } in
    let rest = seats_from (number + 1 + 1) (net + length i.scope.nets) (word + words_of i.scope.memories) is in
    two_lists pin k (seat_marks x) (flat_map seat_marks rest)
    ∙ ap (λ ks. ks ++ kinds_from pin (k + length (seat_marks x)) (flat_map seat_marks rest))
    (later_nets pin x k i.scope.nets off (not_first number))
    ∙ ap (λ ks. seat_kinds x ++ ks)
    (later_seats pin (k + length (seat_marks x)) (number + 1) (net + length i.scope.nets) (word + words_of i.scope.memories) is
    (λ j l. off j (omega (arith, l))))

-- ---- the top

top_nets : (table : List (Named Bool)) (pin : ℕ → Bool) (x : Seat) (k : ℕ) (nets : List (Named ScopeNet)) → (x.number == 0) ≡ true
    → IsInputTable x.instance.tree table → ((j : ℕ) → pin (k + j) ≡ is_pin table nets j)
    → kinds_from pin k (map (λ (n : Named ScopeNet). has_reg x.instance.tree n.name) nets) ≡ map (kind_of x) nets
top_nets table pin x k [] top right at = refl
top_nets table pin x k (n ∷ nets) top right at =
    let here : k ≡ k + 0 = omega arith in
    let pinned : pin k ≡ has_input x.instance.tree n.name = ap pin here ∙ at 0 ∙ right n.name in
    ap (λ b. kind_if b (has_reg x.instance.tree n.name)
    ∷ kinds_from pin (k + 1) (map (λ (n : Named ScopeNet). has_reg x.instance.tree n.name) nets))
    (pinned ∙ sym (ap (λ b. b && has_input x.instance.tree n.name) top))
    ∙ ap (λ ks. kind_of x n ∷ ks) (top_nets table pin x (k + 1) nets top right
    (λ j. let next : k + 1 + j ≡ k + suc j = omega arith in ap pin next ∙ at (suc j)))

long_marks : (x : Seat) (nets : List (Named ScopeNet))
    → length (map (λ (n : Named ScopeNet). has_reg x.instance.tree n.name) nets) ≡ length nets
long_marks x [] = refl
long_marks x (n ∷ nets) = ap suc (long_marks x nets)

pub kinds_right : (table : List (Named Bool)) (i : ModuleInstance) (is : List ModuleInstance) → IsInputTable i.tree table
    → kinds_from (is_pin table i.scope.nets) 0 (reg_marks (seats_of (i ∷ is))) ≡ flat_kinds (seats_of (i ∷ is))
unfolding reg_marks flat_kinds seats_of
kinds_right table i is right =
    let pin = is_pin table i.scope.nets in
    let x : Seat = record { number = 0; base = record { net = 0; word = 0 }; instance = i } in
    let rest = seats_from (0 + 1) (0 + length i.scope.nets) (0 + words_of i.scope.memories) is in
    two_lists pin 0 (seat_marks x) (flat_map seat_marks rest)
    ∙ ap (λ ks. ks ++ kinds_from pin (0 + length (seat_marks x)) (flat_map seat_marks rest))
    (top_nets table pin x 0 i.scope.nets refl right (λ j. let same : 0 + j ≡ j = omega arith in ap pin same))
    ∙ ap (λ ks. seat_kinds x ++ ks)
    (later_seats pin (0 + length (seat_marks x)) 0 (0 + length i.scope.nets) (0 + words_of i.scope.memories) is
    (λ j l. no_pin table i.scope.nets j (let e = long_marks x i.scope.nets in omega (arith, l, e))))

-- the list of the code
pub kinds_of_first : (table : List (Named Bool)) (list : List code.ModuleInstance) (top : code.ModuleInstance)
    → Some top ≡ slice_get list 0 → IsInputTable (plain_instance top).tree table
    → kinds_from (is_pin table top.scope.nets) 0 (reg_marks (seats_of (plain_instances list)))
    ≡ flat_kinds (seats_of (plain_instances list))
kinds_of_first table [] top e right = absurd cc
kinds_of_first table (x ∷ xs) top e right =
    let same : top ≡ x = same_Some top x e in
    ap (λ (y : code.ModuleInstance). kinds_from (is_pin table y.scope.nets) 0 (reg_marks (seats_of (plain_instances (x ∷ xs))))) same
    ∙ kinds_right table (plain_instance x) (plain_instances xs)
    (subst (λ (y : code.ModuleInstance). IsInputTable (plain_instance y).tree table) same right)

pub kinds_none : (list : List code.ModuleInstance) → None ≡ slice_get list 0 → [] ≡ flat_kinds (seats_of (plain_instances list))
unfolding flat_kinds seats_of
kinds_none [] e = refl
kinds_none (x ∷ xs) e = absurd cc
