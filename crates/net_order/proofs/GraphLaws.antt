-- The rows that are found are the graph of the design.
use Rattle.std.proofs.Common.{◌≡◌, ℕ, zero, suc, ◌<◌, ◌≤◌, ◌==◌, ◌&&◌, true, List, [], ◌∷◌, length, get_or}
use Rattle.std.proofs.Common.{Result, Ok, Err, IfOk, IfErr, ⊎_elim, refl, ap, sym, subst, ◌∙◌, arith}
use Rattle.std.specs.List.{Contains}
use Rattle.std.proofs.lemmas.Bool.{cases_lt, eqb-true, eq-eqb, and_parts, and_from}
use Rattle.std.proofs.lemmas.List.Folds.{Any-from_list_any, list_any_at}
use Rattle.vidi_bits.proofs.Lists.{none_in}
use Rattle.net_design.specs.declared.act.Mask.{Mask}
use Rattle.net_design.specs.declared.design.Driver.{Driver}
use Rattle.net_design.specs.declared.design.Design.{Design}
use Rattle.vidi_bits.specs.Number.{has}
use Rattle.net_design.specs.Bits.{named}
use Rattle.net_design.specs.Names.{list_at}
use Rattle.net_design.specs.Lawful.{IsLawful}
use Rattle.net_order.specs.declared.writers.Writer.{Writer}
use Rattle.net_order.specs.Order.{Follows, IsOrderBy, Chain, IsLoopBy, Reads, reads_of, writes_of}
use Rattle.net_order.specs.Graph.{Graph, Points, IsGraph}
use Rattle.net_order.specs.Index.{listed, met, meets, found, in_row, AreRows}
use Rattle.net_order.specs.Reading.{IsGraphOf, AreWriters}
use Rattle.net_order.specs.declared.answer.OrderError.{OrderError}
use Rattle.net_order.specs.declared.answer.OrderError.TheVariants.{Loop, Memory}
use Rattle.net_order.specs.Steps.{IsLoopError}
use Rattle.net_order.proofs.BitPairs.{meets_bit, bit_meets}
use Rattle.net_order.proofs.Rows.{list_past}
use Rattle.net_order.proofs.WriteRange.{writes_in_range}

-- ---- a row and its elements
row_contains : (row : List ℕ) (j : ℕ) → in_row row j ≡ true → Contains row j
row_contains row j h =
    let any = Any-from_list_any (λ (i : ℕ). i == j) row h in
    let same : any.1 ≡ j = eqb-true _ _ any.4 in
    let there : get_or row any.0 any.1 ≡ any.1 = any.3 in
    (any.0, any.2, subst (λ x. get_or row any.0 x ≡ x) same there)

contains_row : (row : List ℕ) (j : ℕ) → Contains row j → in_row row j ≡ true
contains_row row j c = list_any_at (λ (i : ℕ). i == j) row c.0 j c.1 (eq-eqb _ _ c.2)

-- ---- who is found
module _ (d : Design) (law : IsLawful d) (writers : List (List Writer)) (w : AreWriters d writers) where
  met_from : (bits m j : ℕ) → met bits (list_at writers m) j ≡ true → (k : ℕ) × (has bits k ≡ true) × (writes_of d.drivers j m k ≡ true)
  met_from bits m j h =
      let any = Any-from_list_any (λ (x : Writer). (x.driver == j) && meets bits x.bits) (list_at writers m) h in
      let x : Writer = any.1 in
      let t = and_parts _ _ any.4 in
      let bit = meets_bit bits x.bits t.1 in
      let k = bit.0 in
      let in_list : listed writers m j k ≡ true = list_any_at (λ (y : Writer). (y.driver == j) && has y.bits k) (list_at writers m) any.0 x
      any.2
      (subst (λ (y : Writer). ((y.driver == j) && has y.bits k) ≡ true) (sym any.3) (and_from _ _ t.0 bit.2)) in
      ⊎_elim
      (λ (l : m < length d.nets). (k, bit.1, sym (w.all m j k l) ∙ in_list))
      (λ (g : length d.nets ≤ m).
      let none : list_at writers m ≡ [] = list_past writers m (subst (λ n. n ≤ m) (sym w.long) g) in
      let inside : any.0 < length (list_at writers m) = any.2 in
      let empty : length (list_at writers m) ≡ 0 = ap length none in
      absurd (omega arith))
      (cases_lt m (length d.nets))

  met_by : (bits m j k : ℕ) → has bits k ≡ true → writes_of d.drivers j m k ≡ true → met bits (list_at writers m) j ≡ true
  met_by bits m j k h g =
      let l : m < length d.nets = writes_in_range d law j m k g in
      let any = Any-from_list_any (λ (y : Writer). (y.driver == j) && has y.bits k) (list_at writers m) (w.all m j k l ∙ g) in
      let x : Writer = any.1 in
      let t = and_parts _ _ any.4 in
      list_any_at (λ (y : Writer). (y.driver == j) && meets bits y.bits) (list_at writers m) any.0 x any.2
      (subst (λ (y : Writer). ((y.driver == j) && meets bits y.bits) ≡ true) (sym any.3)
      (and_from _ _ t.0 (bit_meets bits x.bits k h t.1)))

  found_from : (reads : List Mask) (j : ℕ) → found writers reads j ≡ true
      → (m : ℕ) × (k : ℕ) × (named reads m k ≡ true) × (writes_of d.drivers j m k ≡ true)
  found_from reads j h =
      let any = Any-from_list_any (λ (x : Mask). met x.bits (list_at writers x.net) j) reads h in
      let x : Mask = any.1 in
      let bit = met_from x.bits x.net j any.4 in (
        x.net,
        bit.0,
        list_any_at (λ (y : Mask). (y.net == x.net) && has y.bits bit.0) reads any.0 x any.2
            (subst (λ (y : Mask). ((y.net == x.net) && has y.bits bit.0)
            ≡ true) (sym any.3) (and_from _ _ (eq-eqb x.net x.net refl) bit.1)),
        bit.2,
      )

  found_by : (reads : List Mask) (j m k : ℕ) → named reads m k ≡ true → writes_of d.drivers j m k ≡ true → found writers reads j ≡ true
  found_by reads j m k h g =
      let any = Any-from_list_any (λ (y : Mask). (y.net == m) && has y.bits k) reads h in
      let x : Mask = any.1 in
      let t = and_parts _ _ any.4 in
      let here : x.net ≡ m = eqb-true _ _ t.0 in
      let writes : writes_of d.drivers j x.net k ≡ true = subst (λ n. writes_of d.drivers j n k ≡ true) (sym here) g in
      list_any_at (λ (y : Mask). met y.bits (list_at writers y.net) j) reads any.0 x any.2
      (subst (λ (y : Mask). met y.bits (list_at writers y.net) j ≡ true) (sym any.3) (met_by x.bits x.net j k t.1 writes))

  -- ---- the whole graph
  rows_long : (xs : List Driver) (g : Graph) → AreRows writers xs g → length g ≡ length xs
  rows_long [] [] h = refl
  rows_long [] (row ∷ g) h = absurd h
  rows_long (x ∷ xs) [] h = absurd h
  rows_long (x ∷ xs) (row ∷ g) h = ap suc (rows_long xs g h.1)

  rows_from : (xs : List Driver) (g : Graph) → AreRows writers xs g → (i j : ℕ) → Points g i j
      → (m : ℕ) × (k : ℕ) × (reads_of xs i m k ≡ true) × (writes_of d.drivers j m k ≡ true)
  rows_from [] [] h i j c = absurd (none_in j c)
  rows_from [] (row ∷ g) h i j c = absurd h
  rows_from (x ∷ xs) [] h i j c = absurd h
  rows_from (x ∷ xs) (row ∷ g) h zero j c = found_from x.code.reads j (sym (h.0 j) ∙ contains_row row j c)
  rows_from (x ∷ xs) (row ∷ g) h (suc i) j c = rows_from xs g h.1 i j c

  rows_by : (xs : List Driver) (g : Graph) → AreRows writers xs g → (i j m k : ℕ) → reads_of xs i m k ≡ true
      → writes_of d.drivers j m k ≡ true → Points g i j
  rows_by [] g h i j m k r g' = absurd cc
  rows_by (x ∷ xs) [] h i j m k r g' = absurd h
  rows_by (x ∷ xs) (row ∷ g) h zero j m k r g' = row_contains row j (h.0 j ∙ found_by x.code.reads j m k r g')
  rows_by (x ∷ xs) (row ∷ g) h (suc i) j m k r g' = rows_by xs g h.1 i j m k r g'

  pub rows_are_graph : (g : Graph) → AreRows writers d.drivers g → IsGraphOf d g
  rows_are_graph g h = record {
    long = rows_long d.drivers g h;
    reads = λ i j. (rows_from d.drivers g h i j, (λ r. rows_by d.drivers g h i j r.0 r.1 r.2 r.3));
  }

pub writer_within : (xs : List Driver) (j m k : ℕ) → writes_of xs j m k ≡ true → j < length xs
writer_within [] j m k h = absurd cc
writer_within (x ∷ xs) zero m k h = omega arith
writer_within (x ∷ xs) (suc j) m k h = let l = writer_within xs j m k h in omega arith

pub graph_closed : (d : Design) (g : Graph) → IsGraphOf d g → IsGraph g
graph_closed d g h i j c =
    let r = (h.reads i j).0 c in
    let l = writer_within d.drivers j r.0 r.1 r.3 in
    subst (λ n. j < n) (sym h.long) l

-- ---- an order or a loop of one relation is one of another that says the same
module _ (n : ℕ) (R S : ℕ → ℕ → Type 0) where
  follows_same : ((i j : ℕ) → S i j → R i j) → (before order : List ℕ) → Follows n R before order → Follows n S before order
  follows_same h before [] f = tt
  follows_same h before (i ∷ rest) f = (f.0, f.1, (λ j s. f.2 j (h i j s)), follows_same h _ rest f.3)

  chain_same : ((i j : ℕ) → R i j → S i j) → (x : ℕ) (ds : List ℕ) → Chain R x ds → Chain S x ds
  chain_same h x [] c = tt
  chain_same h x (i ∷ rest) c = (h i x c.0, chain_same h i rest c.1)

  order_same : ((i j : ℕ) → S i j → R i j) → (order : List ℕ) → IsOrderBy n R order → IsOrderBy n S order
  order_same h order o = record { all = o.all; follows = follows_same h [] order o.follows }

  loop_same : ((i j : ℕ) → R i j → S i j) → (ds : List ℕ) → IsLoopBy R ds → IsLoopBy S ds
  loop_same h ds l = record { some = l.some; chain = chain_same h _ ds l.chain; once = l.once; least = l.least }

pub order_of : (d : Design) (g : Graph) → IsGraphOf d g → (order : List ℕ) → IsOrderBy (length g) (Points g) order
    → IsOrderBy (length d.drivers) (Reads d) order
order_of d g h order o =
    subst (λ n. IsOrderBy n (Reads d) order) h.long (order_same (length g) (Points g) (Reads d) (λ i j. (h.reads i j).1) order o)

pub error_of : (d : Design) (g : Graph) → IsGraphOf d g → (e : OrderError) → IsLoopError (Points g) e → IsLoopError (Reads d) e
error_of d g h (Loop ds) l = loop_same 0 (Points g) (Reads d) (λ i j. (h.reads i j).0) ds l
error_of d g h Memory l = tt

pub if_ok : {X E : Type 0} (P Q : X → Type 0) (r : Result X E) → ((x : X) → P x → Q x) → IfOk r P → IfOk r Q
if_ok P Q (Ok x) f h = f x h
if_ok P Q (Err e) f h = h

pub if_err : {X E : Type 0} (P Q : E → Type 0) (r : Result X E) → ((e : E) → P e → Q e) → IfErr r P → IfErr r Q
if_err P Q (Ok x) f h = h
if_err P Q (Err e) f h = f e h
