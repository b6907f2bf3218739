-- What is known of a lawful design with an order, where it is known that both are there.
use Rattle.std.proofs.Common.{◌≡◌, ℕ, ◌^◌, ◌<◌, ◌≤◌, List, [], ◌∷◌, ◌++◌, All, Some, slice_get, length}
use Rattle.std.proofs.Math.Logic.{∥∥₁_elim}
use Rattle.std.proofs.Props.{props}
use Rattle.std.specs.List.{AllByRecursion}
use Rattle.std.proofs.lemmas.List.Elements.{All-from_recursion}
use Rattle.net_design.proofs.OneProof.{one_prop}
use Rattle.net_design.specs.declared.rhs.Rhs.{Rhs, Number, Bits, Word', Unary', Binary', Choose', Join', Repeat', Select'}
use Rattle.net_design.specs.declared.act.Place.{Place}
use Rattle.net_design.specs.declared.act.Place.TheVariants.{Bits as PlaceBits, BitsFrom, Word as PlaceWord, WordFrom}
use Rattle.net_design.specs.declared.design.Instance.{Instance}
use Rattle.net_design.specs.declared.design.Net.{Net}
use Rattle.net_design.specs.declared.act.Act.{Act, Set, Read, Branch', Row_of-Act, end_of-Act, more_of-Act, Row_of-Guard, end_of-Guard}
use Rattle.net_design.specs.declared.act.Act.{more_of-Guard}
use Rattle.net_design.specs.declared.design.Design.{Design}
use Rattle.net_design.specs.declared.values.Values.{Values}
use Rattle.net_design.specs.Sized.{IsRhs, IsPlace, IsAct, IsGuardRow, IsActRow, IsShort, IsCountable, IsSizedBlock}
use Rattle.net_design.specs.Settled.{IsSized, IsSettled, initial, next}
use Rattle.net_design.specs.Lawful.{IsLawful, IsState}
use Rattle.net_design.specs.Pins.{FitPins, HasOneMap}
use Rattle.net_design.proofs.LawfulCode.{lawful_sized}
use Rattle.net_design.proofs.StateLaws.{initial_state, next_state}
use Rattle.net_order.specs.Order.{Follows, IsOrder, Reads}
use Rattle.net_order.specs.Run.{settled_by}
use Rattle.net_order.proofs.OneMap.{is_settled, only_map, has_one_map}

-- ---- facts with one proof at most
values_prop : (v u : Values) → IsProp (v ≡ u)
values_prop v u = hlevel props

settled_prop : (d : Design) (s : Values) (pins : List ℕ) (v : Values) → IsProp (IsSettled d s pins v)
settled_prop d s pins v = hlevel props

state_prop : (d : Design) (s : Values) → IsProp (IsState d s)
state_prop d s = hlevel props

below_prop : (n : ℕ) (order : List ℕ) → IsProp (All (λ (i : ℕ). i < n) order)
below_prop n order = hlevel props

abbrev Sized : Rhs → Type 0
Sized e = IsRhs (IsShort (2 ^ 64)) (IsCountable (2 ^ 64)) e

rhs_prop : (e : Rhs) → IsProp (Sized e)
rhs_prop (Number n) = hlevel props
rhs_prop (Bits s) = hlevel props
rhs_prop (Word' r p i) = hlevel (props, rhs_prop i)
rhs_prop (Unary' op p a w) = hlevel (props, rhs_prop a)
rhs_prop (Binary' op p a q b w) = hlevel (props, rhs_prop a, rhs_prop b)
rhs_prop (Choose' p c q a r b) = hlevel (props, rhs_prop c, rhs_prop a, rhs_prop b)
rhs_prop (Join' p high q low x y) = hlevel (props, rhs_prop high, rhs_prop low)
rhs_prop (Repeat' n p a w) = hlevel (props, rhs_prop a)
rhs_prop (Select' p a q i w) = hlevel (props, rhs_prop a, rhs_prop i)

place_prop : (x : Place) → IsProp (IsPlace (IsShort (2 ^ 64)) (IsCountable (2 ^ 64)) x)
place_prop (PlaceBits s n) = hlevel props
place_prop (BitsFrom s i w) = hlevel (props, rhs_prop i)
place_prop (PlaceWord r i low w n) = hlevel (props, rhs_prop i)
place_prop (WordFrom r i size j w) = hlevel (props, rhs_prop i, rhs_prop j)

places_prop : (xs : List Place) → IsProp (AllByRecursion (IsPlace (IsShort (2 ^ 64)) (IsCountable (2 ^ 64))) xs)
places_prop [] = hlevel props
places_prop (x ∷ xs) = hlevel (props, place_prop x, places_prop xs)

mutual
  act_prop : (a : Act) → IsProp (IsAct (IsShort (2 ^ 64)) (IsCountable (2 ^ 64)) a)
  act_prop (Set target e) = hlevel (props, places_prop target, rhs_prop e)
  act_prop (Read e) = rhs_prop e
  act_prop (Branch' n guards m otherwise) = hlevel (props, guards_prop guards, row_prop otherwise)

  guards_prop : {n : _} → (row : Row_of-Guard n) → IsProp (IsGuardRow (IsShort (2 ^ 64)) (IsCountable (2 ^ 64)) row)
  guards_prop end_of-Guard = hlevel props
  guards_prop (more_of-Guard c k body rest) = hlevel (props, rhs_prop c, row_prop body, guards_prop rest)

  row_prop : {n : _} → (row : Row_of-Act n) → IsProp (IsActRow (IsShort (2 ^ 64)) (IsCountable (2 ^ 64)) row)
  row_prop end_of-Act = hlevel props
  row_prop (more_of-Act a rest) = hlevel (props, act_prop a, row_prop rest)

block_prop : (acts : List Act) → IsProp (IsSizedBlock acts)
block_prop [] = hlevel props
block_prop (a ∷ rest) = hlevel (props, act_prop a, block_prop rest)

sized_prop : (d : Design) → IsProp (IsSized d)
sized_prop d = hlevel (props, block_prop)

-- ---- what follows from both
follows_below : (n : ℕ) (R : ℕ → ℕ → Type 0) (before order : List ℕ) → Follows n R before order
    → AllByRecursion (λ (i : ℕ). i < n) order
follows_below n R before [] f = tt
follows_below n R before (i ∷ rest) f = (f.0, follows_below n R (before ++ i ∷ []) rest f.3)

module _ (d : Design) (law : ∥ IsLawful d ∥₁) where
  pub known_sized : IsSized d
  known_sized = ∥∥₁_elim law (sized_prop d) (lawful_sized d)

  pub known_ports : length d.ports ≤ length d.nets
  known_ports = ∥∥₁_elim law (hlevel props) (λ l. l.ports)

  pub known_parents : (i : ℕ) (x : Instance) → slice_get d.instances i ≡ Some x → 1 ≤ i → x.parent < i
  known_parents = ∥∥₁_elim law (hlevel props) (λ l. l.parents)

  pub known_instances : All (λ (n : Net). n.instance < length d.instances) d.nets
  known_instances = ∥∥₁_elim law (hlevel props) (λ l. λ k x h. (l.nets k x h).1)

  pub known_initial : IsState d (initial d)
  known_initial = ∥∥₁_elim law (state_prop d (initial d)) (initial_state d)

  pub known_next : (v s : Values) → IsState d s → IsState d (next d v s)
  known_next v s state = ∥∥₁_elim law (state_prop d (next d v s)) (λ l. next_state d l v s state)

  module _ (order : List ℕ) (o : ∥ IsOrder d order ∥₁) where
    pub known_one : HasOneMap d
    known_one = ∥∥₁_elim law (one_prop d) (λ l. ∥∥₁_elim o (one_prop d) (λ f. has_one_map d l order f))

    pub known_settled : (s : Values) (pins : List ℕ) → IsState d s → FitPins d pins → IsSettled d s pins (settled_by d order s pins)
    known_settled s pins state fit =
        let p = settled_prop d s pins (settled_by d order s pins) in
        ∥∥₁_elim law p (λ l. ∥∥₁_elim o p (λ f. is_settled d l s pins state fit order f))

    pub known_only : (s : Values) (pins : List ℕ) → IsState d s → FitPins d pins → (v : Values) → IsSettled d s pins v → v ≡
        settled_by d order s pins
    known_only s pins state fit v h =
        let p = values_prop v (settled_by d order s pins) in
        ∥∥₁_elim law p (λ l. ∥∥₁_elim o p (λ f.
        only_map d l order f s pins v (settled_by d order s pins) h (is_settled d l s pins state fit order f)))

    pub known_below : All (λ (i : ℕ). i < length d.drivers) order
    known_below = ∥∥₁_elim o (below_prop (length d.drivers) order) (λ f. All-from_recursion (λ (i : ℕ). i < length d.drivers) order
        (follows_below (length d.drivers) (Reads d) [] order f.follows))
