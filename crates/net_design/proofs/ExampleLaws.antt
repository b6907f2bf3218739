-- The example is lawful, and its neighbours aren't.
use Rattle.std.proofs.Common.{◌≡◌, ◌≢◌, IsTrue, List, [], ◌∷◌, ℕ, zero, suc, ◌<◌, ◌≤◌, ◌==◌, ◌&&◌, ◌||◌, nat_lt, Bool, true, false}
use Rattle.std.proofs.Common.{◌⊎◌, inl, inr, Some, All, slice_get, take, refl, ap, sym, subst, ◌∙◌, arith}
use Rattle.std.specs.Int.{bit_at}
use Rattle.std.specs.List.{AllPairs, count_by, sum_by}
use Rattle.std.proofs.lemmas.Bool.{eqb-true, ltb-true, le-leb, false_from_ne_true}
use Rattle.std.proofs.lemmas.Nat.Bits.{bit_at_above}
use Rattle.vidi_bits.proofs.Lists.{some_same}
use Rattle.net_design.specs.declared.design.Instance.{Instance}
use Rattle.net_design.specs.declared.design.Net.{Net}
use Rattle.net_design.specs.declared.design.DesignMemory.{DesignMemory}
use Rattle.net_design.specs.declared.design.Driver.{Driver}
use Rattle.net_design.specs.declared.design.Port.{Port}
use Rattle.net_design.specs.declared.design.Design.{Design}
use Rattle.vidi_bits.specs.Number.{has, IsWidth}
use Rattle.net_design.specs.Bits.{named, bits_of}
use Rattle.net_design.specs.Settled.{net_width, held}
use Rattle.net_design.specs.declared.act.Timing.{Timing}
use Rattle.net_design.specs.declared.act.Timing.TheVariants.{Blocking, Nonblocking}
use Rattle.net_design.specs.Names.{net_names}
use Rattle.net_design.specs.Lawful.{IsLawful, is_span, is_room, IsCode, IsDriver, IsClocked, IsRegister, IsBit, is_input}
use Rattle.net_design.specs.Example.{net_of, four_words, pair, copies, stores, assigned, combined, example, driven_twice, not_driven}
use Rattle.net_design.specs.Example.{held_driven, stray_initial, named_twice}

-- the number 3 has the bits 0 and 1
two_bits : (k : ℕ) → has 3 k ≡ nat_lt k 2
two_bits zero = refl
two_bits (suc zero) = refl
two_bits (suc (suc k)) =
    let z : bit_at 3 (suc (suc k)) ≡ 0 = bit_at_above 3 2 (suc (suc k)) (omega arith) (omega arith) in
    let f : nat_lt (suc (suc k)) 2 ≡ false = false_from_ne_true _ (λ t. let l : suc (suc k) < 2 = ltb-true _ _ t in absurd (omega arith)) in
    ap (λ b. b == 1) z ∙ sym f

pair_bits : (n m k : ℕ) → ((n == m) && has 3 k) ≡ bits_of (pair n) m k
pair_bits n m k = ap (λ b. (n == m) && b) (two_bits k ∙ sym (ap (λ b. b && nat_lt k 2) (le-leb 0 k (omega arith))))

pub more : (b : Bool) → (b || false) ≡ (b || false || false)
more true = refl
more false = refl

pub open_one : (b : Bool) → (b || false) ≡ (((b || false) && true) || false)
open_one true = refl
open_one false = refl

open_two : (a b : Bool) → (a || (b || false)) ≡ (((b || (a || false)) && true) || false)
open_two true true = refl
open_two true false = refl
open_two false true = refl
open_two false false = refl

first : (a b : Bool) → ((a && b) || false) ≡ true → a ≡ true
first true b h = refl
first false b h = absurd cc

in_pair : (n m k : ℕ) → (((n == m) && has 3 k) || false) ≡ true → n ≡ m
in_pair n m k h = eqb-true _ _ (first (n == m) (has 3 k) h)

module _ (d : Design) where
  copies_code : (to from : ℕ) → (t : Timing) → IsTrue (is_span d (pair to)) → IsTrue (is_span d (pair from)) → IsCode d t (copies to from)
  copies_code to from time t f = record {
    acts = ((omega arith, (((omega arith, omega arith), omega arith, t), tt), ((omega arith, omega arith), f)), tt);
    bits = record {
      writes = λ m k. ap (λ b. b || false) (pair_bits to m k) ∙ more (bits_of (pair to) m k);
      reads = λ m k. ap (λ b. b || false) (pair_bits from m k) ∙ open_one (bits_of (pair from) m k);
    };
  }

  stores_code : (at from : ℕ) → (t : Timing) → IsTrue (is_room d four_words 2) → IsTrue (is_span d (pair at))
      → IsTrue (is_span d (pair from)) → IsCode d t (stores at from)
  stores_code at from time r a f = record {
    acts = (
      (
        omega arith,
        (((omega arith, omega arith), omega arith, r, ((omega arith, omega arith), a)), tt),
        ((omega arith, omega arith), f),
      ),
      tt,
    );
    bits = record {
      writes = λ m k. refl;
      reads = λ m k.
          ap (λ b. b || (((from == m) && has 3 k) || false)) (pair_bits at m k)
          ∙ ap (λ b. bits_of (pair at) m k || (b || false)) (pair_bits from m k)
          ∙ open_two (bits_of (pair at) m k) (bits_of (pair from) m k);
    };
  }

assigned_driver : IsDriver example assigned
assigned_driver = record {
  code = copies_code example 2 4 Blocking refl refl;
  whole = λ m k h. sym (ap (λ b. b || false) (pair_bits 2 m k) ∙ more (bits_of (pair 2) m k)) ∙ h;
  no_words = refl;
  equation = λ h. ((λ m k t. refl), tt);
  own = λ h. absurd cc;
}

combined_driver : IsDriver example combined
combined_driver = record {
  code = copies_code example 4 3 Blocking refl refl;
  whole = λ m k h. sym (ap (λ b. b || false) (pair_bits 4 m k) ∙ more (bits_of (pair 4) m k)) ∙ h;
  no_words = refl;
  equation = λ h. absurd cc;
  own = λ h m k t. false_from_ne_true _ (λ u. let a : 4 ≡ m = in_pair 4 m k t in let b : 3 ≡ m = in_pair 3 m k u in absurd (omega arith));
}

abbrev IsNet : Net → Type 0
IsNet n = IsWidth n.width × (n.instance < 2)

one_net : (letter width : ℕ) → 1 ≤ width → width ≤ 128 → IsNet (net_of 0 letter width)
one_net letter width l h = ((l, h), omega arith)

all_nets : All IsNet example.nets
all_nets zero d l = one_net 99 1 (omega arith) (omega arith)
all_nets (suc zero) d l = one_net 100 2 (omega arith) (omega arith)
all_nets (suc (suc zero)) d l = one_net 121 2 (omega arith) (omega arith)
all_nets (suc (suc (suc zero))) d l = one_net 113 2 (omega arith) (omega arith)
all_nets (suc (suc (suc (suc zero)))) d l = one_net 116 2 (omega arith) (omega arith)
all_nets (suc (suc (suc (suc (suc k))))) d l = absurd (omega arith)

all_memories : All (λ (a : DesignMemory). IsWidth a.width × (1 ≤ a.room.length) × (a.instance < 2)) example.memories
all_memories zero d l = ((omega arith, omega arith), omega arith, omega arith)
all_memories (suc k) d l = absurd (omega arith)

no_other_bit : (k : ℕ) → has 3 k ≡ false → bit_at 2 k ≡ 0
no_other_bit zero h = refl
no_other_bit (suc zero) h = absurd cc
no_other_bit (suc (suc k)) h = bit_at_above 2 2 (suc (suc k)) (omega arith) (omega arith)

all_registers : All (IsRegister example) example.registers
all_registers zero d l = record { net = omega arith; driven = refl; held = omega arith; initial = no_other_bit }
all_registers (suc k) d l = absurd (omega arith)

all_drivers : All (IsDriver example) example.drivers
all_drivers zero d l = assigned_driver
all_drivers (suc zero) d l = combined_driver
all_drivers (suc (suc k)) d l = absurd (omega arith)

all_blocks : All (IsClocked example) example.blocks
all_blocks zero d l = record { code = copies_code example 3 1 Nonblocking refl refl; held = λ m k h. h }
all_blocks (suc zero) d l = record { code = stores_code example 3 1 Nonblocking refl refl refl; held = λ m k h. absurd cc }
all_blocks (suc (suc k)) d l = absurd (omega arith)

pub same_port : (q p : Port) (x n : Net) → x.name ≡ q.name → x.width ≡ q.width → x.instance ≡ 0 → Some q ≡ Some p → Some x ≡ Some n
    → (n.name ≡ p.name) × (n.width ≡ p.width) × (n.instance ≡ 0)
same_port q p x n name width top a b =
    let e = some_same q p a in
    let f = some_same x n b in (
      sym (ap (λ (y : Net). y.name) f) ∙ name ∙ ap (λ (y : Port). y.name) e,
      sym (ap (λ (y : Net). y.width) f) ∙ width
          ∙ ap (λ (y : Port). y.width) e,
      sym (ap (λ (y : Net). y.instance) f) ∙ top,
    )

ports_nets : (k : ℕ) (p : Port) (n : Net) → slice_get example.ports k ≡ Some p → slice_get example.nets k ≡ Some n
    → (n.name ≡ p.name) × (n.width ≡ p.width) × (n.instance ≡ 0)
ports_nets zero p n a b = same_port _ p _ n refl refl refl a b
ports_nets (suc zero) p n a b = same_port _ p _ n refl refl refl a b
ports_nets (suc (suc zero)) p n a b = same_port _ p _ n refl refl refl a b
ports_nets (suc (suc (suc k))) p n a b = absurd cc

parent_first : (i : ℕ) (x : Instance) → slice_get example.instances i ≡ Some x → 1 ≤ i → x.parent < i
parent_first zero x h l = absurd (omega arith)
parent_first (suc zero) x h l = subst (λ (y : Instance). y.parent < 1) (some_same _ x h) (omega arith)
parent_first (suc (suc i)) x h l = absurd cc

room_places : (i : ℕ) (a : DesignMemory) → slice_get example.memories i ≡ Some a
    → a.room.first ≡ sum_by (λ (x : DesignMemory). x.room.length) (take i example.memories)
room_places zero a h = sym (ap (λ (y : DesignMemory). y.room.first) (some_same _ a h))
room_places (suc i) a h = absurd cc

abbrev letter_of : List (List ℕ) → ℕ
letter_of [] = 0
letter_of ([] ∷ rest) = 0
letter_of ((x ∷ xs) ∷ rest) = x

other : (a b : List (List ℕ)) → (letter_of a ≡ letter_of b → ⊥) → a ≢ b
other a b h e = h (ap letter_of e)

names_differ : AllPairs (λ (a b : List (List ℕ)). a ≢ b) (net_names example)
names_differ zero zero d l h = absurd (omega arith)
names_differ zero (suc zero) d l h = other _ _ (λ e. omega arith)
names_differ zero (suc (suc zero)) d l h = other _ _ (λ e. omega arith)
names_differ zero (suc (suc (suc zero))) d l h = other _ _ (λ e. omega arith)
names_differ zero (suc (suc (suc (suc zero)))) d l h = other _ _ (λ e. omega arith)
names_differ zero (suc (suc (suc (suc (suc j))))) d l h = absurd (omega arith)
names_differ (suc zero) zero d l h = absurd (omega arith)
names_differ (suc zero) (suc zero) d l h = absurd (omega arith)
names_differ (suc zero) (suc (suc zero)) d l h = other _ _ (λ e. omega arith)
names_differ (suc zero) (suc (suc (suc zero))) d l h = other _ _ (λ e. omega arith)
names_differ (suc zero) (suc (suc (suc (suc zero)))) d l h = other _ _ (λ e. omega arith)
names_differ (suc zero) (suc (suc (suc (suc (suc j))))) d l h = absurd (omega arith)
names_differ (suc (suc zero)) zero d l h = absurd (omega arith)
names_differ (suc (suc zero)) (suc zero) d l h = absurd (omega arith)
names_differ (suc (suc zero)) (suc (suc zero)) d l h = absurd (omega arith)
names_differ (suc (suc zero)) (suc (suc (suc zero))) d l h = other _ _ (λ e. omega arith)
names_differ (suc (suc zero)) (suc (suc (suc (suc zero)))) d l h = other _ _ (λ e. omega arith)
names_differ (suc (suc zero)) (suc (suc (suc (suc (suc j))))) d l h = absurd (omega arith)
names_differ (suc (suc (suc zero))) (suc (suc (suc (suc zero)))) d l h = other _ _ (λ e. omega arith)
names_differ (suc (suc (suc zero))) (suc (suc (suc (suc (suc j))))) d l h = absurd (omega arith)
names_differ (suc (suc (suc zero))) (suc (suc (suc zero))) d l h = absurd (omega arith)
names_differ (suc (suc (suc zero))) (suc (suc zero)) d l h = absurd (omega arith)
names_differ (suc (suc (suc zero))) (suc zero) d l h = absurd (omega arith)
names_differ (suc (suc (suc zero))) zero d l h = absurd (omega arith)
names_differ (suc (suc (suc (suc i)))) j d l h = absurd (omega arith)

each_driven : (m k : ℕ) → IsBit example m k → is_input example m ≡ false → held example m k ≡ false
    → count_by (λ (x : Driver). named x.code.writes m k) example.drivers ≡ 1
each_driven zero k b i h = absurd cc
each_driven (suc zero) k b i h = absurd cc
each_driven (suc (suc zero)) zero b i h = refl
each_driven (suc (suc zero)) (suc zero) b i h = refl
each_driven (suc (suc zero)) (suc (suc k)) b i h = let l : suc (suc k) < 2 = b in absurd (omega arith)
each_driven (suc (suc (suc zero))) zero b i h = absurd cc
each_driven (suc (suc (suc zero))) (suc zero) b i h = absurd cc
each_driven (suc (suc (suc zero))) (suc (suc k)) b i h = let l : suc (suc k) < 2 = b in absurd (omega arith)
each_driven (suc (suc (suc (suc zero)))) zero b i h = refl
each_driven (suc (suc (suc (suc zero)))) (suc zero) b i h = refl
each_driven (suc (suc (suc (suc zero)))) (suc (suc k)) b i h = let l : suc (suc k) < 2 = b in absurd (omega arith)
each_driven (suc (suc (suc (suc (suc m))))) k b i h = absurd (omega arith)

none_else : (m k : ℕ) → (is_input example m ≡ true) ⊎ (held example m k ≡ true)
    → count_by (λ (x : Driver). named x.code.writes m k) example.drivers ≡ 0
none_else zero k h = refl
none_else (suc zero) k h = refl
none_else (suc (suc zero)) k (inl h) = absurd cc
none_else (suc (suc zero)) k (inr h) = absurd cc
none_else (suc (suc (suc zero))) k h = refl
none_else (suc (suc (suc (suc zero)))) k (inl h) = absurd cc
none_else (suc (suc (suc (suc zero)))) k (inr h) = absurd cc
none_else (suc (suc (suc (suc (suc m))))) k (inl h) = absurd cc
none_else (suc (suc (suc (suc (suc m))))) k (inr h) = let e : 3 ≡ suc (suc (suc (suc (suc m)))) = in_pair 3 _ k h in absurd (omega arith)

pub lawful : IsLawful example
lawful = record {
  small = record { instances = omega arith; nets = omega arith; drivers = omega arith; blocks = omega arith; words = omega arith };
  top = omega arith;
  parents = parent_first;
  names = names_differ;
  nets = all_nets;
  memories = all_memories;
  rooms = room_places;
  ports = omega arith;
  port_nets = ports_nets;
  clock = λ k h. subst (λ j. (is_input example j ≡ true) × (net_width example j ≡ 1)) (some_same 0 k h) (refl, refl);
  registers = all_registers;
  registers_differ = λ i j r l h. absurd (omega arith);
  drivers = all_drivers;
  blocks = all_blocks;
  driven = each_driven;
  others = none_else;
}

no_two : (a : ℕ) → a ≡ 1 → a ≡ 2 → ⊥
no_two a h k = omega arith

no_one : (a : ℕ) → a ≡ 0 → a ≡ 1 → ⊥
no_one a h k = omega arith

pub twice : IsLawful driven_twice → ⊥
twice law = no_two _ (law.driven 2 0 (omega arith) refl refl) refl

pub undriven : IsLawful not_driven → ⊥
undriven law = no_one _ refl (law.driven 4 0 (omega arith) refl refl)

pub both_kinds : IsLawful held_driven → ⊥
both_kinds law = no_one _ (law.others 3 0 (inr refl)) refl

one_or_none : (a : ℕ) → a ≡ 1 → a ≡ 0 → ⊥
one_or_none a h k = omega arith

pub stray : IsLawful stray_initial → ⊥
stray law = one_or_none (bit_at 6 2) refl ((law.registers 0 (record { net = 0; held = 0; initial = 0 }) (omega arith)).initial 2 refl)

pub same_name : IsLawful named_twice → ⊥
same_name law = law.names 3 4 [] (omega arith) (omega arith) refl
