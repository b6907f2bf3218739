-- The pieces of the shims' trees have good shape.
use Rattle.std.proofs.Common.{◌≡◌, ℕ, zero, suc, ◌+◌, ◌-◌, ◌<◌, ◌≤◌, ◌^◌, ◌==◌, Bool, true, false, if◌then◌else◌, List, [], ◌∷◌}
use Rattle.std.proofs.Common.{None, Some, refl, subst, arith, length, slice_get}
use Rattle.std.specs.Prelude.{codes}
use Rattle.std.specs.List.{AllByRecursion, flat_map}
use Rattle.vlog_size.proofs.vidi_bits_lemmas.Lists.{some_same}
use Rattle.vlog_size.proofs.vidi_bits_lemmas.Each.{each_append}
use Rattle.vlog_tree.specs.Tree.{ExprOf, StmtOf, ConnOf}
use Rattle.vlog_tree.specs.Shape.{level, IsGoodName, IsGoodExpr, IsGoodTarget, IsGoodStmt, IsGoodRange, IsGoodOption, IsGoodPort, IsGoodConn}
use Rattle.vlog_tree.specs.Shape.{IsGoodItem}
use Rattle.shim_trees.specs.Pieces.{Name, each, each_some, upto, numbered, net, not_net, number, both, range_of, output, wire, reg, target}
use Rattle.shim_trees.specs.Pieces.{assign, next, at_clock, gated_content, conn, unjoined, instance}
use Rattle.shim_trees.proofs.Names.{fixed_name, letter_name, number_token, zero_token}

abbrev pub IsSmall : ℕ → Type 0
IsSmall n = n < 2 ^ 64

-- ---- lists of pieces
pub got : {X : Type 0} (P : X → Type 0) (xs : List X) (n : ℕ) (x : X) → AllByRecursion P xs → slice_get xs n ≡ Some x → P x
got P [] n x h e = absurd (cc)
got P (y ∷ ys) zero x h e = subst P (some_same y x e) h.0
got P (y ∷ ys) (suc n) x h e = got P ys n x h.1 e

module _ {X Y : Type 0} (Q : X → Type 0) (P : Y → Type 0) where
  pub each_good : (f : ℕ → X → Y) → ((n : ℕ) (x : X) → IsSmall n → Q x → P (f n x)) → (k : ℕ) (xs : List X) → k + length xs < 2 ^ 64
      → AllByRecursion Q xs → AllByRecursion P (each f k xs)
  each_good f good k [] room h = tt
  each_good f good k (x ∷ xs) room h =
      (good k x (omega (arith, room)) h.0, each_good f good (k + 1) xs (omega (arith, room)) h.1)

  pub some_good : (f : ℕ → X → List Y) → ((n : ℕ) (x : X) → IsSmall n → Q x → AllByRecursion P (f n x)) → (k : ℕ) (xs : List X)
      → k + length xs < 2 ^ 64 → AllByRecursion Q xs → AllByRecursion P (each_some f k xs)
  some_good f good k [] room h = tt
  some_good f good k (x ∷ xs) room h =
      each_append P (f k x) (each_some f (k + 1) xs) (good k x (omega (arith, room)) h.0)
      (some_good f good (k + 1) xs (omega (arith, room)) h.1)

  pub flat_good : (f : X → List Y) → ((x : X) → Q x → AllByRecursion P (f x)) → (xs : List X) → AllByRecursion Q xs
      → AllByRecursion P (flat_map f xs)
  flat_good f good [] h = tt
  flat_good f good (x ∷ xs) h = each_append P (f x) (flat_map f xs) (good x h.0) (flat_good f good xs h.1)

pub upto_good : {Y : Type 0} (P : Y → Type 0) (f : ℕ → Y) → ((n : ℕ) → IsSmall n → P (f n)) → (k count : ℕ) → k + count < 2 ^ 64
    → AllByRecursion P (upto f k count)
upto_good P f good k zero room = tt
upto_good P f good k (suc count) room = (good k (omega (arith, room)), upto_good P f good (k + 1) count (omega (arith, room)))

-- ---- names and numbers
pub clk_name : IsGoodName (codes "clk")
clk_name = fixed_name (codes "clk") refl refl

pub kv_name : IsGoodName (codes "kv")
kv_name = fixed_name (codes "kv") refl refl

pub kr_name : IsGoodName (codes "kr")
kr_name = fixed_name (codes "kr") refl refl

pub sv_name : IsGoodName (codes "sv")
sv_name = fixed_name (codes "sv") refl refl

pub sr_name : IsGoodName (codes "sr")
sr_name = fixed_name (codes "sr") refl refl

pub s_name : (i : ℕ) → IsSmall i → IsGoodName (numbered (codes "s") i)
s_name i small = letter_name 115 i refl small

pub k_name : (i : ℕ) → IsSmall i → IsGoodName (numbered (codes "k") i)
k_name i small = letter_name 107 i refl small

-- ---- expressions
pub good_net : (x : Name) → IsGoodName x → IsGoodExpr (net x)
good_net x good = (good, tt, tt, tt)

pub good_not : (x : Name) → IsGoodName x → IsGoodExpr (not_net x)
good_not x good = (good, tt, tt, tt)

pub good_target : (x : Name) → IsGoodName x → IsGoodTarget (target x)
good_target x good = (good, tt, tt, tt)

pub good_both : (a b : ExprOf ℕ) → 5 ≤ level a → 5 < level b → IsGoodExpr a → IsGoodExpr b → IsGoodExpr (both a b)
good_both a b low high left right = (low, high, left, right)

-- `x & y` and `x & ~ y`
pub good_nets : (x y : Name) → IsGoodName x → IsGoodName y → IsGoodExpr (both (net x) (net y))
good_nets x y one other = (omega arith, omega arith, good_net x one, good_net y other)

pub good_without : (x y : Name) → IsGoodName x → IsGoodName y → IsGoodExpr (both (net x) (not_net y))
good_without x y one other = (omega arith, omega arith, good_net x one, good_not y other)

-- ---- declarations
range_if : (b : Bool) (w : ℕ) → IsSmall w
    → IsGoodOption IsGoodRange (if b then None else Some (record { first = number (w - 1); second = number 0 }))
range_if true w small = tt
range_if false w small = (number_token (w - 1) (omega (arith, small)), number_token 0 (omega arith))

good_range : (w : ℕ) → IsSmall w → IsGoodOption IsGoodRange (range_of w)
good_range w small = range_if (w == 1) w small

-- whatever the direction, of which good shape doesn't speak
pub good_port : (x : Name) (w : ℕ) → IsGoodName x → IsSmall w → IsGoodPort (output x w)
good_port x w good small = (good_range w small, good, tt)

-- of one bit
pub good_bit : (x : Name) → IsGoodName x → IsGoodPort (output x 1)
good_bit x good = (tt, good, tt)

pub good_wire : (x : Name) (w : ℕ) → IsGoodName x → IsSmall w → IsGoodItem (wire x w)
good_wire x w good small = (good_range w small, (good, tt))

pub good_reg : (x : Name) (w : ℕ) → IsGoodName x → IsSmall w → IsGoodItem (reg x w)
good_reg x w good small = (good_range w small, ((good, tt), tt))

-- ---- what drives
pub good_assign : (x : Name) (e : ExprOf ℕ) → IsGoodName x → IsGoodExpr e → IsGoodItem (assign x e)
good_assign x e good value = ((good_target x good, value), tt)

-- `assign x = a & b ;` and `assign x = a & ~ b ;`
pub assign_both : (x a b : Name) → IsGoodName x → IsGoodName a → IsGoodName b → IsGoodItem (assign x (both (net a) (net b)))
assign_both x a b good one other = good_assign x (both (net a) (net b)) good (good_nets a b one other)

pub assign_without : (x a b : Name) → IsGoodName x → IsGoodName a → IsGoodName b → IsGoodItem (assign x (both (net a) (not_net b)))
assign_without x a b good one other = good_assign x (both (net a) (not_net b)) good (good_without a b one other)

pub good_next : (x : Name) (e : ExprOf ℕ) → IsGoodName x → IsGoodExpr e → IsGoodStmt (next x e)
good_next x e good value = (good_target x good, value)

pub good_at_clock : (s : StmtOf ℕ) → IsGoodStmt s → IsGoodItem (at_clock s)
good_at_clock s good = (clk_name, good)

pub good_gated : (i w : ℕ) → IsSmall i → IsSmall w → IsGoodItem (gated_content i w)
good_gated i w i_small w_small = (
  (
    good_target (numbered (codes "k") i) (k_name i i_small),
    (omega arith, good_net (codes "kv") kv_name, good_net (numbered (codes "s") i) (s_name i i_small), zero_token w w_small),
  ),
  tt,
)

-- ---- instances
pub good_conn : (x y : Name) → IsGoodName x → IsGoodName y → IsGoodConn (conn x y)
good_conn x y one other = (one, good_net y other)

pub good_unjoined : (x : Name) → IsGoodName x → IsGoodConn (unjoined x)
good_unjoined x good = (good, tt)

pub good_instance : (kind x : Name) (ports : List (ConnOf ℕ)) → IsGoodName kind → IsGoodName x → AllByRecursion IsGoodConn ports
    → IsGoodItem (instance kind x ports)
good_instance kind x ports one other conns = (one, tt, other, conns)
