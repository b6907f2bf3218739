-- Of constant positions in which nothing is found: the parameters that they make, and what ranges make of names.
use Rattle.std.proofs.Common.{◌≡◌, ◌<◌, ◌^◌, ◌+◌, ℕ, Bool, true, false, ◌&&◌, not, nat_lt, nat_le, min, if◌then◌else◌, []}
use Rattle.std.proofs.Common.{Option, None, Some, is_some, option_map, refl, ap, sym, ◌∙◌, arith}
use Rattle.std.proofs.lemmas.Bool.{not-false, and_from}
use Rattle.vlog_size.proofs.vidi_bits_lemmas.Bools.{left_of}
use Rattle.vlog_size.proofs.vidi_bits_lemmas.FindingLaws.{told_none}
use Rattle.vlog_size.proofs.vidi_bits_lemmas.Lists.{nil_left, nil_right}
use Rattle.vlog_size.specs.vidi_bits.Findings.{told_if}
use Rattle.vlog_size.specs.vidi_bits.Number.{IsWidth}
use Rattle.vlog_tree.specs.Tree.{ExprOf, IdentOf, RangeOf}
use Rattle.vlog_size.specs.declared.error.SizeError.TheVariants as error
use Rattle.vlog_size.specs.declared.scope.Const.{Const}
use Rattle.vlog_size.specs.declared.scope.Const.TheVariants as const
use Rattle.vlog_size.specs.declared.scope.Param.{Param}
use Rattle.vlog_size.specs.Literal.{is_lawful}
use Rattle.vlog_size.specs.Names.{Readable, fixed, is_lawful_const, are_lawful_params}
use Rattle.vlog_size.specs.Size.{Sizes, sizes_of, number, or_zero, reaches, too_large, constant_at, constant_of, assigned_number, faults}
use Rattle.vlog_size.proofs.Answered.{lawful_constant, lawful_parts, lawful_assigned}
use Rattle.vlog_scope.specs.declared.fault.FaultKind.TheVariants.{Constant, Width}
use Rattle.vlog_scope.specs.declared.extent.Extent.{Extent}
use Rattle.vlog_scope.specs.declared.extent.Extent.TheVariants.{NoRange, Bits, AtFault}
use Rattle.vlog_scope.specs.Extents.{MOST, constant_sizes, counted, vector_width, bits_of, extent_of, net_width}
use Rattle.vlog_scope.specs.Params.{own_param, ranged_param, assigned, param_of}
use Rattle.vlog_scope.specs.Faults.{bound_faults, not_zero, zero_faults, vector_faults, range_faults, name_faults}

-- a known parameter with a lawful constant
abbrev pub is_good : Param → Bool
is_good p = p.known && is_lawful_const p.value

-- an expression that makes lawful constants
pub record Makes (e : Sizes) : Type 0 where
  pub parts : e.parts_lawful ≡ true
  pub own : (c : Const) × (constant_of e ≡ Some c) × (is_lawful_const c ≡ true)
  pub assigned : (w : ℕ) → IsWidth w → (n : ℕ) × (assigned_number w e ≡ Some n) × (n < 2 ^ w)

both_faults : (e : Sizes) → e.const_faults ≡ [] → e.width_faults ≡ [] → faults e ≡ []
unfolding faults
both_faults e h k = rw (h, k) refl

pub makes : (r : Readable) (e : ExprOf ℕ) → are_lawful_params r.constants ≡ true → (constant_sizes r e).const_faults ≡ []
    → (constant_sizes r e).width_faults ≡ [] → Makes (constant_sizes r e)
makes r e l h k =
    let sound : faults (sizes_of (fixed r) e) ≡ [] = both_faults (constant_sizes r e) h k in
    record {
      parts = lawful_parts r e l sound;
      own = lawful_constant r e l sound;
      assigned = λ w i. lawful_assigned r e w i l sound;
    }

-- ---- parameters
not_wider : (w : ℕ) → is_lawful w ≡ true → min w MOST ≡ w
not_wider w l = grind arith

good_const : (p : Bool) (w : ℕ) (o : Option ℕ) (c : Const) → option_map (constant_at p w) o ≡ Some c → is_lawful_const c ≡ true
    → (is_some o && is_lawful_const (constant_at p (min w MOST) (or_zero o))) ≡ true
good_const p w None c h l = (cc)
good_const true w (Some n) c h l = let e : const.Plain n ≡ c = (cc) in ap is_lawful_const e ∙ l
good_const false w (Some n) c h l =
    let e : const.Sized w n ≡ c = (cc) in
    let lawful : (is_lawful w && nat_lt n (2 ^ w)) ≡ true = ap is_lawful_const e ∙ l in
    ap (λ v. is_lawful v && nat_lt n (2 ^ v)) (not_wider w (left_of (is_lawful w) (nat_lt n (2 ^ w)) lawful)) ∙ lawful

pub good_own : (e : Sizes) → Makes e → is_good (own_param e) ≡ true
unfolding constant_of
good_own e m =
    ap (λ (b : Bool). is_some (number e)
    && is_lawful_const (constant_at e.plain (if b then min e.width MOST else 0) (or_zero (number e)))) m.parts
    ∙ good_const e.plain e.width (number e) m.own.0 m.own.1 m.own.2

below : (n w : ℕ) → n < 2 ^ w → nat_lt n (2 ^ w) ≡ true
below n w h = grind arith

good_number : (w : ℕ) (o : Option ℕ) (n : ℕ) → o ≡ Some n → is_lawful w ≡ true → n < 2 ^ w → is_good (ranged_param w o) ≡ true
good_number w o n h l b =
    ap (λ p. is_good (ranged_param w p)) h ∙ and_from (is_lawful w) (nat_lt n (2 ^ w)) l (below n w b)

a_width : (w : ℕ) → is_lawful w ≡ true → IsWidth w
a_width w l = (grind arith, grind arith)

good_ranged : (w : ℕ) (e : Sizes) → is_lawful w ≡ true → Makes e → is_good (ranged_param w (assigned w e)) ≡ true
good_ranged w e l m =
    let a = m.assigned w (a_width w l) in
    good_number w (assigned w e) a.0 (ap (λ (b : Bool). if b then assigned_number w e else None) l ∙ a.1) l a.2

-- ---- ranges
abbrev pub is_known : Extent → Bool
is_known AtFault = false
is_known NoRange = true
is_known (Bits w) = true

-- a range of lawful width, or none
abbrev pub is_named : Extent → Bool
is_named AtFault = false
is_named NoRange = true
is_named (Bits w) = is_lawful w

pub good_param : (x : Extent) (e : Sizes) → is_named x ≡ true → Makes e → is_good (param_of x e) ≡ true
good_param NoRange e h m = good_own e m
good_param (Bits w) e h m = good_ranged w e h m
good_param AtFault e h m = (cc)

some_number : (f : ℕ → Const) (o : Option ℕ) (c : Const) → option_map f o ≡ Some c → (n : ℕ) × (o ≡ Some n) × (f n ≡ c)
some_number f None c h = (cc)
some_number f (Some n) c h = let e : f n ≡ c = (cc) in (n, refl, e)

number_in : (e : Sizes) → Makes e → (n : ℕ) × (number e ≡ Some n) × (is_lawful_const (constant_at e.plain e.width n) ≡ true)
unfolding constant_of
number_in e m =
    let s = some_number (constant_at e.plain e.width) (number e) m.own.0 m.own.1 in (s.0, s.1, ap is_lawful_const s.2 ∙ m.own.2)

small_last : (p : Bool) (w n : ℕ) → is_lawful_const (constant_at p w n) ≡ true → (not p && nat_le 2147483648 n) ≡ false
    → nat_lt n MOST ≡ true
small_last true w n l h = grind arith
small_last false w n l h = grind arith

a_zero : (n : ℕ) → nat_le 1 n ≡ false → n ≡ 0
a_zero n h = grind arith

counted_some : (z n : ℕ) → z ≡ 0 → nat_lt n MOST ≡ true → counted (Some z) (Some n) ≡ Some (n + 1)
counted_some z n h b = rw h (ap (λ (c : Bool). if c then Some (n + 1) else None) b)

counted_known : (a b : Sizes) (m n : ℕ) → number a ≡ Some m → number b ≡ Some n → is_lawful_const (constant_at b.plain b.width n) ≡ true
    → told_if (reaches 1 (number a)) (error.Const a.line) ≡ [] → too_large b ≡ []
    → counted (number a) (number b) ≡ Some (n + 1)
counted_known a b m n h k l zero small =
    let none : nat_le 1 m ≡ false = sym (ap (reaches 1) h) ∙ told_none (reaches 1 (number a)) _ zero in
    let few : (not b.plain && nat_le 2147483648 n) ≡ false =
    sym (ap (λ o. not b.plain && reaches 2147483648 o) k) ∙ told_none (not b.plain && reaches 2147483648 (number b)) _ small in
    ap (λ o. counted o (number b)) h
    ∙ (ap (λ o. counted (Some m) o) k ∙ counted_some m n (a_zero m none) (small_last b.plain b.width n l few))

vector_known : (r : Readable) (x : RangeOf ℕ) → are_lawful_params r.constants ≡ true → vector_faults Constant r x ≡ []
    → vector_faults Width r x ≡ [] → (w : ℕ) × (vector_width r x ≡ Some w)
vector_known r x l h k =
    let a = constant_sizes r x.second in
    let b = constant_sizes r x.first in
    let bc : bound_faults Constant b ≡ [] = nil_left (bound_faults Constant b) (zero_faults Constant a) h in
    let ac : zero_faults Constant a ≡ [] = nil_right (bound_faults Constant b) (zero_faults Constant a) h in
    let bw : b.width_faults ≡ [] = nil_left b.width_faults (zero_faults Width a) k in
    let aw : a.width_faults ≡ [] = nil_right b.width_faults (zero_faults Width a) k in
    let ab : bound_faults Constant a ≡ [] = nil_right (not_zero Constant a) (bound_faults Constant a) ac in
    let na = number_in a (makes r x.second l (nil_right (too_large a) a.const_faults ab) aw) in
    let nb = number_in b (makes r x.first l (nil_right (too_large b) b.const_faults bc) bw) in (
      nb.0 + 1,
      counted_known a b na.0 nb.0 na.1 nb.1 nb.2 (nil_left (not_zero Constant a) (bound_faults Constant a) ac)
          (nil_left (too_large b) b.const_faults bc),
    )

pub extent_known : (r : Readable) (range : Option (RangeOf ℕ)) → are_lawful_params r.constants ≡ true → range_faults Constant r range ≡ []
    → range_faults Width r range ≡ [] → is_known (extent_of r range) ≡ true
extent_known r None l h k = refl
extent_known r (Some x) l h k = let v = vector_known r x l h k in ap (λ o. is_known (bits_of o)) v.1

pub named : (x : Extent) (id : IdentOf ℕ) → is_known x ≡ true → name_faults Width x id ≡ [] → is_named x ≡ true
named NoRange id k h = refl
named (Bits w) id k h = not-false (is_lawful w) (told_none (not (is_lawful w)) (error.Width id.line w) h)
named AtFault id k h = (cc)

pub lawful_net : (x : Extent) → is_named x ≡ true → is_lawful (net_width x) ≡ true
lawful_net NoRange h = refl
lawful_net (Bits w) h = h
lawful_net AtFault h = (cc)
