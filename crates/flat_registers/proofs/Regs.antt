-- Which registers a net of the design has, and which of its bits they hold.
use Rattle.std.proofs.Common.{◌≡◌, ℕ, zero, suc, ◌+◌, ◌==◌, nat_lt, ◌&&◌, not, Bool, true, false, List, [], ◌∷◌, ◌++◌}
use Rattle.std.proofs.Common.{slice_get, Some, ◌⊎◌, inl, inr, ⊎_elim, refl, sym, ap, subst, ◌∙◌, arith}
use Rattle.std.proofs.lemmas.Bool.{eqb-true, eq-eqb, and_parts, and_from}
use Rattle.std.proofs.lemmas.Option.{slice_get_within}
use Rattle.std.proofs.lemmas.List.Elements.{Contains-append_right}
use Rattle.std.specs.List.{Contains, list_any}
use Rattle.flat_parts.proofs.vidi_bits_lemmas.Bools.{same_test, and_swap}
use Rattle.flat_parts.proofs.vidi_bits_lemmas.Lists.{from_flat, in_flat, head_in, none_in, cases_in, some_same}
use Rattle.flat_parts.specs.vidi_bits.Findings.{told_if}
use Rattle.vlog_tree.specs.Tree.{ModuleOf}
use Rattle.flat_parts.specs.vidi_bits.Number.{has}
use Rattle.flat_parts.specs.vlog_size.declared.scope.ScopeNet.{ScopeNet}
use Rattle.flat_parts.specs.vlog_size.declared.scope.Scope.{Scope}
use Rattle.flat_parts.specs.vlog_size.Table.{Named}
use Rattle.net_design.specs.declared.design.Driver.{Driver}
use Rattle.net_design.specs.declared.design.Register.{Register}
use Rattle.flat_parts.specs.vlog_names.Ports.{has_reg}
use Rattle.flat_parts.specs.vlog_driver.Next.{initial_number}
use Rattle.flat_parts.specs.vlog_elab.Instances.{ModuleInstance}
use Rattle.flat_parts.specs.Seats.{Seat, seats_of}
use Rattle.flat_parts.specs.State.{RegPlace, regs_from, seat_regs, all_regs, always_writes_bit, IsRegisterOf}
use Rattle.flat_parts.specs.Laws.{NetsHaveOneSeat, HeldAlike}
use Rattle.flat_registers.proofs.Lists.{any_found}
use Rattle.flat_registers.proofs.Lists.{found_any, any_zip}
use Rattle.flat_registers.proofs.Writes.{own_net, own_writes, writes_alike}

-- ---- the regs among the nets of an instance

-- a reg that is net `net` of the design
abbrev pub reg_of : ModuleOf ℕ → Scope → ℕ → Named ScopeNet → RegPlace
reg_of m s net n = record { net = net; width = n.value.width; initial = initial_number m s n.name }

told_cases : (b : Bool) (a : RegPlace) (rest : List RegPlace) (q : RegPlace) → Contains (told_if b a ++ rest) q
    → ((b ≡ true) × (a ≡ q)) ⊎ Contains rest q
told_cases true a rest q c = ⊎_elim (λ e. inl (refl, e)) (λ d. inr d) (cases_in a rest q c)
told_cases false a rest q c = inr c

told_first : (b : Bool) (a : RegPlace) (rest : List RegPlace) → b ≡ true → Contains (told_if b a ++ rest) a
told_first true a rest e = head_in a rest
told_first false a rest e = absurd (cc)

module _ (m : ModuleOf ℕ) (s : Scope) where
  -- one of these nets is a reg that is this one
  abbrev pub IsReg : ℕ → List (Named ScopeNet) → RegPlace → Type 0
  IsReg net ns q = (j : ℕ) × (n : Named ScopeNet) × (slice_get ns j ≡ Some n) × (has_reg m n.name ≡ true) × (reg_of m s (net + j) n ≡ q)

  reg_next : (net : ℕ) (n : Named ScopeNet) (ns : List (Named ScopeNet)) (q : RegPlace) → IsReg (net + 1) ns q → IsReg net (n ∷ ns) q
  reg_next net n ns q r =
      let e : net + suc r.0 ≡ (net + 1) + r.0 = omega arith in
      (suc r.0, r.1, r.2, r.3, ap (λ i. reg_of m s i r.1) e ∙ r.4)

  reg_first : (net : ℕ) (n : Named ScopeNet) (ns : List (Named ScopeNet)) (q : RegPlace) → has_reg m n.name ≡ true → reg_of m s net n ≡ q
      → IsReg net (n ∷ ns) q
  reg_first net n ns q h e =
      let z : net + 0 ≡ net = omega arith in
      (0, n, refl, h, ap (λ i. reg_of m s i n) z ∙ e)

  regs_in : (net : ℕ) (ns : List (Named ScopeNet)) (q : RegPlace) → Contains (regs_from m s net ns) q → IsReg net ns q
  regs_in net [] q c = absurd (none_in q c)
  regs_in net (n ∷ ns) q c =
      ⊎_elim
      (λ (e : (has_reg m n.name ≡ true) × (reg_of m s net n ≡ q)). reg_first net n ns q e.0 e.1)
      (λ (d : Contains (regs_from m s (net + 1) ns) q). reg_next net n ns q (regs_in (net + 1) ns q d))
      (told_cases (has_reg m n.name) (reg_of m s net n) (regs_from m s (net + 1) ns) q c)

  regs_there : (net : ℕ) (ns : List (Named ScopeNet)) (j i : ℕ) (n : Named ScopeNet) → i ≡ net + j → slice_get ns j ≡ Some n
      → has_reg m n.name ≡ true → Contains (regs_from m s net ns) (reg_of m s i n)
  regs_there net [] j i n e h t = absurd (cc)
  regs_there net (x ∷ xs) zero i n e h t =
      let z : net ≡ i = omega (arith, e) in
      let y = some_same x n h in
      subst (λ u. Contains (regs_from m s net (x ∷ xs)) (reg_of m s i u)) y
      (subst (λ u. Contains (regs_from m s net (x ∷ xs)) (reg_of m s u x)) z
      (told_first (has_reg m x.name) (reg_of m s net x) (regs_from m s (net + 1) xs) (ap (λ u. has_reg m u.name) y ∙ t)))
  regs_there net (x ∷ xs) (suc j) i n e h t =
      Contains-append_right (told_if (has_reg m x.name) (reg_of m s net x)) (regs_from m s (net + 1) xs) (reg_of m s i n)
      (regs_there (net + 1) xs j i n (omega (arith, e)) h t)

-- ---- the regs of the design

-- of an instance's net j, which is this one, q is the reg
abbrev pub IsRegOf : Seat → ℕ → Named ScopeNet → RegPlace → Type 0
IsRegOf x j n q = (has_reg x.instance.tree n.name ≡ true) × (reg_of x.instance.tree x.instance.scope (x.base.net + j) n ≡ q)

same_reg : (x y : Seat) (j i : ℕ) (n : Named ScopeNet) (q : RegPlace) → x ≡ y → j ≡ i → slice_get x.instance.scope.nets j ≡ Some n
    → (u : Named ScopeNet) → slice_get y.instance.scope.nets i ≡ Some u → IsRegOf y i u q → IsRegOf x j n q
same_reg x y j i n q e f h =
    subst (λ (z : Seat). (u : Named ScopeNet) → slice_get z.instance.scope.nets i ≡ Some u → IsRegOf z i u q → IsRegOf x j n q) e
    (subst (λ (z : ℕ). (u : Named ScopeNet) → slice_get x.instance.scope.nets z ≡ Some u → IsRegOf x z u q → IsRegOf x j n q) f
    (λ u g r. subst (λ (z : Named ScopeNet). IsRegOf x j z q) (some_same u n (sym g ∙ h)) r))

module _ (one : NetsHaveOneSeat) (is : List ModuleInstance) (x : Seat) (j : ℕ) (n : Named ScopeNet) (c : Contains (seats_of is) x)
    (there : slice_get x.instance.scope.nets j ≡ Some n) where
  only_at : (q : RegPlace) → q.net ≡ x.base.net + j → (y : Seat) → Contains (seats_of is) y
      → IsReg y.instance.tree y.instance.scope y.base.net y.instance.scope.nets q → IsRegOf x j n q
  only_at q e y d (i, u, h, t, f) =
      let place : x.base.net + j ≡ y.base.net + i = sym e ∙ sym (ap (λ (z : RegPlace). z.net) f) in
      let same = one is (x.base.net + j) j i x y (own_net one is x j n c there)
      (record { seat = d; place = place; there = slice_get_within y.instance.scope.nets i u h }) in
      same_reg x y j i n q same.0 same.1 there u h (t, f)

  -- the net's reg is the only one
  pub only_reg : (q : RegPlace) → Contains (all_regs (seats_of is)) q → q.net ≡ x.base.net + j → IsRegOf x j n q
  unfolding all_regs
  only_reg q d e =
      let r = from_flat seat_regs (seats_of is) q d in
      only_at q e r.0 r.1 (regs_in r.0.instance.tree r.0.instance.scope r.0.base.net r.0.instance.scope.nets q r.2)

  pub reg_there : has_reg x.instance.tree n.name ≡ true
      → Contains (all_regs (seats_of is)) (reg_of x.instance.tree x.instance.scope (x.base.net + j) n)
  unfolding all_regs
  reg_there t =
      in_flat seat_regs (seats_of is) x (reg_of x.instance.tree x.instance.scope (x.base.net + j) n) c
      (regs_there x.instance.tree x.instance.scope x.base.net x.instance.scope.nets j (x.base.net + j) n refl there t)

-- ---- the bits that registers hold

-- whether a reg holds bit k of net m
abbrev pub reg_holds : List Driver → ℕ → ℕ → RegPlace → Bool
reg_holds drivers m k q = (q.net == m) && (nat_lt k q.width && not (always_writes_bit drivers q.net k))

register_holds : (drivers : List Driver) (m k : ℕ) (q : RegPlace) (r : Register) → IsRegisterOf drivers q r
    → ((r.net == m) && has r.held k) ≡ reg_holds drivers m k q
register_holds drivers m k q r h = ap (λ i. (i == m) && has r.held k) h.net ∙ ap (λ b. (q.net == m) && b) (h.held k)

module _ (one : NetsHaveOneSeat) (is : List ModuleInstance) (x : Seat) (j : ℕ) (n : Named ScopeNet) (c : Contains (seats_of is) x)
    (there : slice_get x.instance.scope.nets j ≡ Some n) (drivers : List Driver) (k : ℕ) where
  -- whether its reg, if it has one, holds the bit
  abbrev Own : Bool
  Own = nat_lt k n.value.width && not (always_writes_bit drivers (x.base.net + j) k)

  some_holds : (q : RegPlace) → Contains (all_regs (seats_of is)) q → reg_holds drivers (x.base.net + j) k q ≡ true
      → (has_reg x.instance.tree n.name && Own) ≡ true
  some_holds q d h =
      let parts = and_parts (q.net == x.base.net + j) (nat_lt k q.width && not (always_writes_bit drivers q.net k)) h in
      let r = only_reg one is x j n c there q d (eqb-true q.net (x.base.net + j) parts.0) in
      and_from (has_reg x.instance.tree n.name) Own r.0
      (ap (λ (z : RegPlace). nat_lt k z.width && not (always_writes_bit drivers z.net k)) r.1 ∙ parts.1)

  own_holds : (has_reg x.instance.tree n.name && Own) ≡ true → list_any (reg_holds drivers (x.base.net + j) k) (all_regs (seats_of is)) ≡ true
  own_holds h =
      let parts = and_parts (has_reg x.instance.tree n.name) Own h in
      found_any (reg_holds drivers (x.base.net + j) k) (all_regs (seats_of is)) (reg_of x.instance.tree x.instance.scope (x.base.net + j) n)
      (reg_there one is x j n c there parts.0)
      (and_from (x.base.net + j == x.base.net + j) Own (eq-eqb (x.base.net + j) (x.base.net + j) refl) parts.1)

  regs_hold : list_any (reg_holds drivers (x.base.net + j) k) (all_regs (seats_of is)) ≡ (has_reg x.instance.tree n.name && Own)
  regs_hold =
      same_test (list_any (reg_holds drivers (x.base.net + j) k) (all_regs (seats_of is))) (has_reg x.instance.tree n.name && Own)
      (λ h. let r = any_found (reg_holds drivers (x.base.net + j) k) (all_regs (seats_of is)) h in some_holds r.0 r.1 r.2)
      own_holds

pub held_alike : NetsHaveOneSeat → HeldAlike
held_alike one file top is d b x j k n c there =
    any_zip (IsRegisterOf d.drivers) (reg_holds d.drivers (x.base.net + j) k) (λ (r : Register). (r.net == x.base.net + j) && has r.held k)
    (register_holds d.drivers (x.base.net + j) k) (all_regs (seats_of is)) d.registers b.registers
    ∙ regs_hold one is x j n c there d.drivers k
    ∙ ap (λ w. has_reg x.instance.tree n.name && (nat_lt k n.value.width && not w))
    (writes_alike one is x j n c there d.drivers k b.drivers)
    ∙ and_swap (has_reg x.instance.tree n.name) (nat_lt k n.value.width) (not (own_writes x j k))
