-- Instances of shims, and the tops round them, in a settled map: what their items say of the numbers of their nets.
use Rattle.std.proofs.Common.{◌≡◌, ℕ, zero, suc, ◌<◌, ◌≤◌, ◌^◌, ◌==◌, Bool, ◌&&◌, not, if◌then◌else◌, List, [], ◌∷◌, ◌++◌}
use Rattle.std.proofs.Common.{refl, subst, arith, inl}
use Rattle.std.specs.Prelude.{codes}
use Rattle.std.specs.List.{Contains}
use Rattle.net_order.specs.vidi_bits.Number.{IsWidth, truth}
use Rattle.vlog_tree.specs.declared.module.Direction.{Direction}
use Rattle.vlog_tree.specs.Tree.{ConnOf, InstanceOf, InstanceItem, ItemOf, ModuleOf}
use Rattle.shim_trees.specs.vlog_size.declared.scope.Scope.{Scope}
use Rattle.shim_trees.specs.vlog_size.Names.{Readable}
use Rattle.flat_parts.specs.vlog_scope.Extents.{net_width}
use Rattle.flat_parts.specs.vlog_scope.Scope.{scope_with}
use Rattle.net_design.specs.declared.values.Values.{Values}
use Rattle.flat_parts.specs.vlog_driver.Names.{Full, State, numbers_at}
use Rattle.flat_parts.specs.vlog_driver.Placed.{names_at}
use Rattle.flat_parts.specs.vlog_driver.Instances.{IsChild, IsAt}
use Rattle.flat_parts.specs.vlog_driver.Items.{HoldsAt, ConnsHold}
use Rattle.flat_parts.specs.vlog_driver.Settled.{IsSettled}
use Rattle.shim_trees.specs.Pieces.{Name, ident, net, not_net, both, range_of, port, wire, reg, assign, gated_content, conn, instance, numbered}
use Rattle.shim_step.specs.Plain.{net_named, extent, nets_of, IsPlain}
use Rattle.shim_step.specs.Nets.{IsNet, IsJoint}
use Rattle.shim_step.proofs.Elements.{Has, has_contains}
use Rattle.shim_step.proofs.Scopes.{bare}
use Rattle.shim_step.proofs.Standing as standing
use Rattle.shim_step.proofs.Whole.{nets_are_joined}
use Rattle.shim_step.proofs.Texts.{range_width, zero_literal}
use Rattle.shim_step.proofs.Bits.{IsBit, and_of, and_not, choice_of}

-- ---- nets of a module, with their widths
abbrev pub HasNet : ModuleOf ℕ → Name → ℕ → Type 0
HasNet m x w = Has (nets_of m) (record { name = x; value = record { width = w } }) × (w ≤ 128)

ranged : (m : ModuleOf ℕ) (x : Name) (w : ℕ) → IsWidth w → Has (nets_of m) (net_named x (extent (range_of w))) → HasNet m x w
ranged m x w is there =
    let e : net_width (extent (range_of w)) ≡ w = range_width w is in
    (subst (λ z. Has (nets_of m) (record { name = x; value = record { width = z } })) e there, is.1)

pub port_has : (m : ModuleOf ℕ) (way : Direction) (x : Name) (w : ℕ) → IsWidth w → Has m.ports (port way x w) → HasNet m x w
port_has m way x w is there = ranged m x w is (standing.port_net m (port way x w) _ there refl)

pub wire_has : (m : ModuleOf ℕ) (x : Name) (w : ℕ) → IsWidth w → Has m.items (wire x w) → HasNet m x w
wire_has m x w is there = ranged m x w is (standing.item_net m (wire x w) (net_named x (extent (range_of w))) there (inl refl))

pub reg_has : (m : ModuleOf ℕ) (x : Name) (w : ℕ) → IsWidth w → Has m.items (reg x w) → HasNet m x w
reg_has m x w is there = ranged m x w is (standing.item_net m (reg x w) (net_named x (extent (range_of w))) there (inl refl))

pub one_bit : IsWidth 1
one_bit = (omega arith, omega arith)

-- ---- a plain module at a path of a settled map
pub record Stand (file : List (ModuleOf ℕ)) (top : ModuleOf ℕ) (s : State) (pins : List ℕ) (v : Full → ℕ) (path : Full) (m : ModuleOf ℕ)
    : Type 0 where
  pub settled : IsSettled file top s pins v
  pub plain : IsPlain m
  pub at : IsAt file top path m (scope_with [] m)

module _ {file : List (ModuleOf ℕ)} {top : ModuleOf ℕ} {s : State} {pins : List ℕ} {v : Full → ℕ} {path : Full} {m : ModuleOf ℕ}
    (st : Stand file top s pins v path m) where
  abbrev pub R : Readable
  R = names_at (bare (nets_of m)) 0

  abbrev pub V : Values
  V = numbers_at v s.words path (bare (nets_of m))

  abbrev N : Name → ℕ
  N x = v (path ++ x ∷ [])

  pub is_net : (x : Name) (w : ℕ) → HasNet m x w → IsNet R V x w (N x)
  is_net x w h = standing.net_is file top s pins v st.settled path m st.plain st.at (record { name = x; value = record { width = w } }) h.0 h.1

  pub is_number : (x : Name) (w n : ℕ) → HasNet m x w → N x ≡ n → IsNet R V x w n
  is_number x w n h e = subst (λ y. IsNet R V x w y) e (is_net x w h)

  pub is_bit : (x : Name) (b : Bool) → HasNet m x 1 → N x ≡ truth b → IsBit R V x b
  is_bit x b h e = is_number x 1 (truth b) h e

  pub holds : (i : ItemOf ℕ) → Has m.items i → HoldsAt file v s.words path (bare (nets_of m)) 0 i
  holds i there = standing.holds file top s pins v st.settled path m st.plain st.at i there

  -- a bit is up or down
  bit_case : (n : ℕ) → n < 2 ^ 1 → n ≡ truth (n == 1)
  bit_case zero h = refl
  bit_case (suc zero) h = refl
  bit_case (suc (suc n)) h = absurd (omega (arith, h))

  pub bit_is : (x : Name) → HasNet m x 1 → N x ≡ truth (N x == 1)
  bit_is x h = bit_case (N x) (is_net x 1 h).fits

  -- ---- what assignments say
  pub and_item : (x a b : Name) (p q : Bool) → Has m.items (assign x (both (net a) (net b))) → HasNet m x 1 → HasNet m a 1 → HasNet m b 1
      → N a ≡ truth p → N b ≡ truth q → N x ≡ truth (p && q)
  and_item x a b p q there has_x has_a has_b e f =
      and_of R V x a b (N x) p q (is_net x 1 has_x) (is_bit a p has_a e) (is_bit b q has_b f) (holds _ there).0

  pub and_not_item : (x a b : Name) (p q : Bool) → Has m.items (assign x (both (net a) (not_net b))) → HasNet m x 1 → HasNet m a 1
      → HasNet m b 1 → N a ≡ truth p → N b ≡ truth q → N x ≡ truth (p && not q)
  and_not_item x a b p q there has_x has_a has_b e f =
      and_not R V x a b (N x) p q (is_net x 1 has_x) (is_bit a p has_a e) (is_bit b q has_b f) (holds _ there).0

  short : (w : ℕ) → w ≤ 128 → w < 2 ^ 64
  short w h = omega (arith, h)

  pub content_item : (i w : ℕ) (p : Bool) → Has m.items (gated_content i w) → HasNet m (numbered (codes "k") i) w → HasNet m (codes "kv") 1
      → HasNet m (numbered (codes "s") i) w → N (codes "kv") ≡ truth p
      → N (numbered (codes "k") i) ≡ (if p then N (numbered (codes "s") i) else 0)
  content_item i w p there has_k has_b has_s e =
      choice_of R V (numbered (codes "k") i) (codes "kv") (numbered (codes "s") i) w w _ _ p (is_net _ w has_k)
      (is_bit (codes "kv") p has_b e) (is_net _ w has_s) (zero_literal w (short w has_k.1)) (holds _ there).0

-- ---- an instance of a module in a plain top
abbrev pub I : Name → Name → List (ConnOf ℕ) → InstanceOf ℕ
I kind x conns = record { module_id = ident kind; parameters = []; id = ident x; ports = conns }

module _ {file : List (ModuleOf ℕ)} {top : ModuleOf ℕ} (plain : IsPlain top) (kind x : Name) (conns : List (ConnOf ℕ))
    (there : Has top.items (instance kind x conns)) (m : ModuleOf ℕ) (declared : Contains file m) (named : m.name ≡ kind) where
  pub child_of : IsChild file top (scope_with [] top) (I kind x conns) m (scope_with [] m)
  child_of = standing.plain_child file top plain (I kind x conns) m there declared named refl

  pub at_of : IsAt file top (x ∷ []) m (scope_with [] m)
  at_of = (I kind x conns, m, scope_with [] m, refl, child_of, (refl, refl))

-- ---- the top itself, and an instance of a plain module in it, in a settled map
module _ {file : List (ModuleOf ℕ)} {top : ModuleOf ℕ} {s : State} {pins : List ℕ} {v : Full → ℕ} (settled : IsSettled file top s pins v)
    (plain : IsPlain top) where
  pub at_top : Stand file top s pins v [] top
  at_top = record { settled = settled; plain = plain; at = (refl, refl) }

  module _ (kind x : Name) (conns : List (ConnOf ℕ)) (there : Has top.items (instance kind x conns)) (m : ModuleOf ℕ)
      (declared : Contains file m) (named : m.name ≡ kind) where
    pub is_at : IsAt file top (x ∷ []) m (scope_with [] m)
    is_at = at_of plain kind x conns there m declared named

    pub conns_hold : ConnsHold m (R at_top) (V at_top) (names_at (scope_with [] m) (scope_with [] m).declared)
        (numbers_at v s.words (x ∷ []) (scope_with [] m)) (I kind x conns)
    conns_hold = holds at_top (InstanceItem (I kind x conns)) there m declared named

    pub joint : (inner outer : Name) → Has conns (conn inner outer) → IsJoint (I kind x conns) inner outer
    joint inner outer h = record { conn = conn inner outer; there = has_contains conns (conn inner outer) h; port = refl; line = 0; value = refl }

    module _ (own : IsPlain m) where
      pub inside : Stand file top s pins v (x ∷ []) m
      inside = record { settled = settled; plain = own; at = is_at }

      own_scope : scope_with [] m ≡ bare (nets_of m)
      own_scope = standing.plain_scope m own

      -- a port of it that is joined to a net of the top of the same width has the number of that net
      pub joined : (inner outer : Name) (w : ℕ) → Has conns (conn inner outer) → HasNet m inner w → HasNet top outer w
          → v (x ∷ inner ∷ []) ≡ v (outer ∷ [])
      joined inner outer w h has_inner has_outer =
          nets_are_joined m (R at_top) (V at_top) (R inside) (V inside) (I kind x conns)
          (subst (λ (t : Scope). ConnsHold m (R at_top) (V at_top) (names_at t t.declared) (numbers_at v s.words (x ∷ []) t) (I kind x conns)) own_scope
          conns_hold)
          inner outer w (v (x ∷ inner ∷ [])) (v (outer ∷ [])) (joint inner outer h) (is_net inside inner w has_inner)
          (is_net at_top outer w has_outer)
