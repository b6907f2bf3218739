-- The design's initial numbers are the file's in the bits that are held, and 0 elsewhere.
use Rattle.std.proofs.Common.{◌≡◌, ℕ, zero, suc, ◌+◌, ◌<◌, ◌==◌, nat_lt, ◌&&◌, not, if◌then◌else◌, Bool, true, false, List, [], ◌∷◌}
use Rattle.std.proofs.Common.{length, map, slice_get, slice_index, option_map, Some, ◌⊎◌, inl, inr, ⊎_elim, refl, sym, ap, subst, ◌∙◌}
use Rattle.std.proofs.Common.{arith}
use Rattle.std.proofs.lemmas.Bool.{eqb-true, eq-eqb}
use Rattle.std.proofs.lemmas.Nat.Bits.{bit_at-zero}
use Rattle.std.proofs.lemmas.Option.{slice_get_within}
use Rattle.std.specs.Int.{bit_at}
use Rattle.std.specs.List.{Contains, AllZip, enumerate_from}
use Rattle.flat_parts.proofs.vidi_bits_lemmas.Lists.{head_in, tail_in, none_in, cases_in}
use Rattle.flat_parts.specs.vlog_size.declared.scope.ScopeNet.{ScopeNet}
use Rattle.flat_parts.specs.vlog_size.Table.{Named}
use Rattle.net_design.specs.declared.design.Driver.{Driver}
use Rattle.net_design.specs.declared.design.Net.{Net}
use Rattle.net_design.specs.declared.design.Register.{Register}
use Rattle.net_design.specs.Settled.{initial_number as register_number}
use Rattle.flat_parts.specs.vlog_names.Ports.{has_reg}
use Rattle.flat_parts.specs.vlog_driver.Next.{initial_number}
use Rattle.flat_parts.specs.vlog_elab.Instances.{ModuleInstance}
use Rattle.flat_parts.specs.Seats.{Seat, seats_of}
use Rattle.flat_parts.specs.Nets.{net_of, flat_nets}
use Rattle.flat_parts.specs.State.{RegPlace, all_regs, always_writes_bit, IsRegisterOf}
use Rattle.flat_parts.specs.Laws.{NetsHaveOneSeat, NetsAreThose, InitialAlike}
use Rattle.flat_registers.proofs.Writes.{own_net, writes_alike}
use Rattle.flat_registers.proofs.Regs.{reg_of, only_reg, reg_there}

-- ---- the numbers of nets, in their order

number_at : (rs : List Register) (first : ℕ) (nets : List Net) (m i : ℕ) → m < length nets → i ≡ first + m
    → slice_index (map (λ (n : ℕ × Net). register_number rs n.0) (enumerate_from first nets)) m ≡ register_number rs i
number_at rs first [] m i l e = absurd (omega (arith, l))
number_at rs first (x ∷ xs) zero i l e = let z : first ≡ i = omega (arith, e) in ap (register_number rs) z
number_at rs first (x ∷ xs) (suc m) i l e = number_at rs (first + 1) xs m i (omega (arith, l)) (omega (arith, e))

-- ---- the first register of a net

-- bit k of what a register of this reg begins with
abbrev pub first_bit : List Driver → ℕ → RegPlace → ℕ
first_bit drivers k q = if nat_lt k q.width && not (always_writes_bit drivers q.net k) then bit_at q.initial k else 0

register_bit : (drivers : List Driver) (k : ℕ) (q : RegPlace) (r : Register) → IsRegisterOf drivers q r
    → bit_at r.initial k ≡ first_bit drivers k q
register_bit drivers k q r h = h.initial k ∙ ap (λ b. if b then bit_at q.initial k else 0) (h.held k)

module _ (drivers : List Driver) (m k v : ℕ) where
  -- the regs of the net begin with v, and there is one or v is 0
  record Begins (qs : List RegPlace) : Type 0 where
    pub each : (q : RegPlace) → Contains qs q → q.net ≡ m → first_bit drivers k q ≡ v
    pub some : ((q : RegPlace) × Contains qs q × (q.net ≡ m)) ⊎ (v ≡ 0)

  begins_past : (q : RegPlace) (qs : List RegPlace) → (q.net ≡ m → ⊥) → Begins (q ∷ qs) → Begins qs
  begins_past q qs other h = record {
    each = λ p c. h.each p (tail_in q qs p c);
    some = ⊎_elim
        (λ (w : (p : RegPlace) × Contains (q ∷ qs) p × (p.net ≡ m)).
        ⊎_elim (λ (e : q ≡ w.0). absurd (other (ap (λ (z : RegPlace). z.net) e ∙ w.2))) (λ (c : Contains qs w.0). inl (w.0, c, w.2))
        (cases_in q qs w.0 w.1))
        (λ (z : v ≡ 0). inr z)
        h.some;
  }

  none_begins : Begins [] → v ≡ 0
  none_begins h = ⊎_elim (λ (w : (q : RegPlace) × Contains [] q × (q.net ≡ m)). absurd (none_in w.0 w.1)) (λ (z : v ≡ 0). z) h.some

  not_same : (a b : ℕ) → (a == b) ≡ false → a ≡ b → ⊥
  not_same a b f e = let t = eq-eqb a b e in absurd (cc)

  bit_by : (q : RegPlace) (qs : List RegPlace) (r : Register) (rest : ℕ) (b : Bool) → (r.net == m) ≡ b → IsRegisterOf drivers q r
      → Begins (q ∷ qs) → (Begins qs → bit_at rest k ≡ v) → bit_at (if b then r.initial else rest) k ≡ v
  bit_by q qs r rest true e is h more =
      register_bit drivers k q r is ∙ h.each q (head_in q qs) (sym is.net ∙ eqb-true r.net m e)
  bit_by q qs r rest false e is h more = more (begins_past q qs (λ g. not_same r.net m e (is.net ∙ g)) h)

  first_number : (qs : List RegPlace) (rs : List Register) → AllZip (IsRegisterOf drivers) qs rs → Begins qs
      → bit_at (register_number rs m) k ≡ v
  first_number [] [] z h = bit_at-zero k ∙ sym (none_begins h)
  first_number [] (r ∷ rs) z h = absurd z
  first_number (q ∷ qs) [] z h = absurd z
  first_number (q ∷ qs) (r ∷ rs) z h =
      bit_by q qs r (register_number rs m) (r.net == m) refl z.0 h (λ g. first_number qs rs z.1 g)

-- ---- the file's initial numbers

-- a bit of a number where it is below the width and held
abbrev masked : Bool → Bool → Bool → ℕ → ℕ
masked below reg free x = if below && (reg && free) then x else 0

masked_reg : (below reg free : Bool) (x : ℕ) → reg ≡ true → (if below && free then x else 0) ≡ masked below reg free x
masked_reg below reg free x e = ap (λ b. if below && (b && free) then x else 0) (sym e)

masked_none : (below free : Bool) (x : ℕ) → masked below false free x ≡ 0
masked_none true free x = refl
masked_none false free x = refl

module _ (one : NetsHaveOneSeat) (is : List ModuleInstance) (x : Seat) (j : ℕ) (n : Named ScopeNet) (c : Contains (seats_of is) x)
    (there : slice_get x.instance.scope.nets j ≡ Some n) (drivers : List Driver) (k : ℕ) where
  -- bit k of what the file gives the net
  abbrev Bit : Bool → ℕ
  Bit reg = masked (nat_lt k n.value.width) reg (not (always_writes_bit drivers (x.base.net + j) k))
      (bit_at (initial_number x.instance.tree x.instance.scope n.name) k)

  one_begins : (q : RegPlace) → Contains (all_regs (seats_of is)) q → q.net ≡ x.base.net + j
      → first_bit drivers k q ≡ Bit (has_reg x.instance.tree n.name)
  one_begins q d e =
      let r = only_reg one is x j n c there q d e in
      ap (first_bit drivers k) (sym r.1)
      ∙ masked_reg (nat_lt k n.value.width) (has_reg x.instance.tree n.name) (not (always_writes_bit drivers (x.base.net + j) k))
      (bit_at (initial_number x.instance.tree x.instance.scope n.name) k) r.0

  some_begins : (b : Bool) → has_reg x.instance.tree n.name ≡ b
      → ((q : RegPlace) × Contains (all_regs (seats_of is)) q × (q.net ≡ x.base.net + j)) ⊎ (Bit b ≡ 0)
  some_begins true e = inl (reg_of x.instance.tree x.instance.scope (x.base.net + j) n, reg_there one is x j n c there e, refl)
  some_begins false e =
      inr (masked_none (nat_lt k n.value.width) (not (always_writes_bit drivers (x.base.net + j) k))
      (bit_at (initial_number x.instance.tree x.instance.scope n.name) k))

  begins : Begins drivers (x.base.net + j) k (Bit (has_reg x.instance.tree n.name)) (all_regs (seats_of is))
  begins = record { each = one_begins; some = some_begins (has_reg x.instance.tree n.name) refl }

net_there : NetsHaveOneSeat → NetsAreThose → (is : List ModuleInstance) (x : Seat) (j : ℕ) (n : Named ScopeNet)
    → Contains (seats_of is) x → slice_get x.instance.scope.nets j ≡ Some n → x.base.net + j < length (flat_nets (seats_of is))
net_there one those is x j n c there =
    slice_get_within (flat_nets (seats_of is)) (x.base.net + j) (net_of x.number n)
    (those is (x.base.net + j) j x (own_net one is x j n c there) ∙ ap (option_map (net_of x.number)) there)

pub initial_alike : NetsHaveOneSeat → NetsAreThose → InitialAlike
initial_alike one those file top is d b x j k n c there =
    let l : x.base.net + j < length d.nets =
    subst (λ (z : List Net). x.base.net + j < length z) (sym b.nets) (net_there one those is x j n c there) in
    ap (λ i. bit_at i k) (number_at d.registers 0 d.nets (x.base.net + j) (x.base.net + j) l (omega arith))
    ∙ first_number d.drivers (x.base.net + j) k (Bit one is x j n c there d.drivers k (has_reg x.instance.tree n.name)) (all_regs (seats_of is))
    d.registers b.registers (begins one is x j n c there d.drivers k)
    ∙ ap (λ w. if nat_lt k n.value.width && (has_reg x.instance.tree n.name && not w)
    then bit_at (initial_number x.instance.tree x.instance.scope n.name) k else 0) (writes_alike one is x j n c there d.drivers k b.drivers)
