-- The parts of a settled map, told by tests.
use Rattle.std.proofs.Common.{◌≡◌, ℕ, ◌==◌, ◌&&◌, ◌↔◌, true, List, All, get_or, slice_index, refl, subst}
use Rattle.std.specs.Int.{bit_at}
use Rattle.std.proofs.lemmas.Bool.{eqb-true, eq-eqb, and_parts, and_from}
use Rattle.std.proofs.lemmas.List.Folds.{Any-from_list_any, list_any_at}
use Rattle.net_design.specs.declared.design.Register.{Register}
use Rattle.net_design.specs.declared.design.Design.{Design}
use Rattle.net_design.specs.vidi_bits.Number.{has}
use Rattle.net_design.specs.Settled.{held}

-- the two lists of numbers have the same bits of a register
abbrev SameBits : List ℕ → List ℕ → Register → Type 0
SameBits v s r = (k : ℕ) → has r.held k ≡ true → bit_at (slice_index v r.net) k ≡ bit_at (slice_index s r.net) k

abbrev SameHeld : Design → List ℕ → List ℕ → Type 0
SameHeld d v s = (m k : ℕ) → held d m k ≡ true → bit_at (slice_index v m) k ≡ bit_at (slice_index s m) k

by_registers : (d : Design) (v s : List ℕ) → All (SameBits v s) d.registers → SameHeld d v s
by_registers d v s all m k h =
    let found = Any-from_list_any _ d.registers h in
    let r : Register = found.1 in
    let t = and_parts _ _ found.4 in
    let here : r.net ≡ m = eqb-true _ _ t.0 in
    let same : SameBits v s r = subst (λ (x : Register). SameBits v s x) found.3 (all found.0 r found.2) in
    subst (λ n. bit_at (slice_index v n) k ≡ bit_at (slice_index s n) k) here (same k t.1)

by_bits : (d : Design) (v s : List ℕ) → SameHeld d v s → All (SameBits v s) d.registers
by_bits d v s same i r l k h =
    let x : Register = get_or d.registers i r in
    same x.net k (list_any_at (λ (y : Register). (y.net == x.net) && has y.held k) d.registers i r l
    (and_from _ _ (eq-eqb x.net x.net refl) h))

pub same_held : (d : Design) (v s : List ℕ) → All (SameBits v s) d.registers ↔ SameHeld d v s
same_held d v s = (by_registers d v s, by_bits d v s)
