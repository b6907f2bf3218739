-- What reading, assigning and joining whole nets by name asks of their numbers.
use Rattle.std.proofs.Common.{◌≡◌, ℕ, ◌+◌, ◌-◌, ◌/◌, ◌%◌, ◌<◌, ◌^◌, ◌==◌, Bool, true, false}
use Rattle.std.proofs.Common.{get_or, None, Some, refl, sym, ap, ◌∙◌, subst, arith, nat_lt, nat_le, min}
use Rattle.std.specs.Prelude.{max}
use Rattle.std.specs.Int.{bit_at}
use Rattle.std.proofs.Math.Nat.{div-one, mod-eq_of_lt}
use Rattle.std.proofs.lemmas.Nat.{pow_pos, mod_below, shr_split}
use Rattle.std.proofs.lemmas.Nat.Bits.{bit_at_cat_low}
use Rattle.net_design.specs.Updates.{part_updates}
use Rattle.std.proofs.lemmas.Nat.Bits.{same_from_bits_below}
use Rattle.std.proofs.lemmas.Bool.Decides.{nat_tests}
use Rattle.vlog_tree.specs.Tree.{IdentOf, ExprOf, NoLast}
use Rattle.flat_parts.specs.vlog_size.declared.names.Meaning.{Meaning}
use Rattle.flat_parts.specs.vlog_size.declared.names.Meaning.TheVariants.{Place}
use Rattle.flat_parts.specs.vlog_size.Names.{Readable, meaning_of}
use Rattle.flat_parts.specs.vlog_size.Size.{of_ref, NoBracket}
use Rattle.net_design.specs.declared.values.Values.{Values}
use Rattle.net_design.specs.declared.values.Target.TheVariants as targets
use Rattle.net_design.specs.Last.{HasLast, last_bit}
use Rattle.flat_parts.specs.vlog_block.declared.source.Source.{Source}
use Rattle.flat_parts.specs.vlog_block.declared.source.Source.TheVariants.{Net}
use Rattle.flat_parts.specs.vlog_block.Sources.{source_of}
use Rattle.flat_parts.specs.vlog_block.Value.{value, width_of, source_number}
use Rattle.flat_parts.specs.vlog_block.Targets.{target_width, source_updates}
use Rattle.flat_parts.specs.vlog_names.Ports.{has_output}
use Rattle.flat_parts.specs.vlog_driver.Items.{IsAssigned, JoinHolds, ConnHolds, whole, read}
use Rattle.shim_step.proofs.Elements.{at_member, contains_has}
use Rattle.shim_step.specs.Nets.{IsNet, NetIsRead, NetIsAssigned, NetsAreJoined}

below_whole : (x w : ℕ) → x < 2 ^ w → x / 2 ^ 0 % 2 ^ w ≡ x
below_whole x w h = ap (λ y. y % 2 ^ w) (div-one x) ∙ mod-eq_of_lt h

same_eq : (n : ℕ) → (n == n) ≡ true
same_eq n = grind (arith, nat_tests)

zero_least : (i : ℕ) → nat_le 0 i ≡ true
zero_least i = grind (arith, nat_tests)

less_true : (k w : ℕ) → k < w → nat_lt k w ≡ true
less_true k w h = grind (arith, nat_tests)

bit_at-rest : (n k i : ℕ) → i < k → bit_at (n % 2 ^ k) i ≡ bit_at n i
bit_at-rest n k i l = sym (bit_at_cat_low (n / 2 ^ k) k (n % 2 ^ k) i l) ∙ ap (λ m. bit_at m i) (shr_split n k)

rest_below : (n w : ℕ) → n % 2 ^ w < 2 ^ w
rest_below n w = mod_below n (2 ^ w) (pow_pos w)

some_less : (i w : ℕ) → i < w → 0 < w
some_less i w h = omega (arith, h)

-- the bit that an assignment to all w bits of net p gives to bit i
last_is : (p w y i : ℕ) → i < w → last_bit (part_updates (targets.Net p) 0 w 0 w y) (targets.Net p) i ≡ Some (bit_at y i)
last_is p w y i h =
    let some : nat_lt 0 w ≡ true = less_true 0 w (some_less i w h) in
    let all : min w (w - 0) ≡ w = omega arith in
    let here : nat_lt i (0 + w) ≡ true = less_true i (0 + w) (omega (arith, h)) in
    let from : nat_le 0 i ≡ true = zero_least i in
    let eq : (p == p) ≡ true = same_eq p in
    let low : i - 0 ≡ i = omega arith in
    rw (some, all, eq, from, here, low) refl

module _ (r : Readable) (v : Values) (id : IdentOf ℕ) (w x : ℕ) (n : IsNet r v id.name w x) where
  meaning : meaning_of r id.name ≡ Place w 1 w
  meaning = rw (n.no_param, n.width) refl

  pub read_width : width_of r (read id) ≡ w
  read_width = ap (λ (m : Meaning). (of_ref id.line m None NoBracket).width) meaning

  pub target_bits : target_width r (whole id) ≡ w
  target_bits = ap (λ (m : Meaning). (of_ref id.line m None NoBracket).width) meaning

  pub source : source_of r id.name ≡ Net (record { net = n.place; low = 0; width = w })
  source = rw (n.no_param, n.width, n.placed) refl

  part_whole : x / 2 ^ 0 % 2 ^ w ≡ x
  part_whole = below_whole x w n.fits

  pub read_number : (m : ℕ) → value r v (read id) m ≡ x
  read_number m =
      ap (λ (s : Source). source_number r v s None NoLast None) source
      ∙ ap (λ y. y / 2 ^ 0 % 2 ^ w) n.number ∙ part_whole

  -- what an assignment to the whole net asks
  abbrev Last : ℕ → Source → Type 0
  Last y s = HasLast (source_updates r s None NoLast None y) v

  pub assigned : (q : Readable) (u : Values) (e : ExprOf ℕ) → IsAssigned r v (whole id) q u e
      → x ≡ value q u e (max w (width_of q e)) % 2 ^ w
  assigned q u e h =
      let y : ℕ = value q u e (max (target_width r (whole id)) (width_of q e)) in
      let at : Last y (Net (record { net = n.place; low = 0; width = w })) = subst (Last y) source h in
      let to : ℕ = value q u e (max w (width_of q e)) in
      let same : y ≡ to = ap (λ m. value q u e (max m (width_of q e))) target_bits in
      same_from_bits_below w x (to % 2 ^ w) n.fits (rest_below to w)
      (λ i less.
      let wide : i < 128 = omega (arith, less, n.lawful) in
      let bit : bit_at (get_or v.nets n.place 0) i ≡ bit_at y i =
      at (targets.Net n.place) i (bit_at y i) n.there wide (last_is n.place w y i less) in
      sym (ap (λ z. bit_at z i) n.number) ∙ bit ∙ ap (λ z. bit_at z i) same ∙ sym (bit_at-rest to w i less))

pub net_is_read : NetIsRead
net_is_read r v id w x n = (read_width r v id w x n, read_number r v id w x n)

pub net_is_assigned : NetIsAssigned
net_is_assigned r v id w x n q u e h = assigned r v id w x n q u e h

-- ---- whole nets that are joined
small : (x w : ℕ) → x < 2 ^ w → x % 2 ^ w ≡ x
small x w h = mod-eq_of_lt h

-- a whole net that is assigned another of its width has its number
pub copy_of : (r : Readable) (v : Values) (q : Readable) (u : Values) (a b : IdentOf ℕ) (w n m : ℕ) → IsNet r v a.name w n
    → IsNet q u b.name w m → IsAssigned r v (whole a) q u (read b) → n ≡ m
copy_of r v q u a b w n m is_a is_b h =
    assigned r v a w n is_a q u (read b) h
    ∙ ap (λ z. z % 2 ^ w) (read_number q u b w m is_b (max w (width_of q (read b)))) ∙ small m w is_b.fits

joined_way : (r : Readable) (v : Values) (q : Readable) (u : Values) (port outer : IdentOf ℕ) (w n m : ℕ) (output : Bool)
    → JoinHolds output r v q u port (Some (read outer)) → IsNet q u port.name w n → IsNet r v outer.name w m → n ≡ m
joined_way r v q u port outer w n m false h is_in is_out = copy_of q u r v port outer w n m is_in is_out h
joined_way r v q u port outer w n m true h is_in is_out = sym (copy_of r v q u outer port w m n is_out is_in (h (whole outer) refl))

pub nets_are_joined : NetsAreJoined
nets_are_joined child r v q u i holds inner outer w n m j is_in is_out =
    let h : ConnHolds child r v q u j.conn =
    at_member (ConnHolds child r v q u) i.ports j.conn holds (contains_has i.ports j.conn j.there) in
    joined_way r v q u j.conn.id (record { name = outer; line = j.line }) w n m (has_output child j.conn.id.name)
    (subst (λ o. JoinHolds (has_output child j.conn.id.name) r v q u j.conn.id o) j.value h)
    (subst (λ x. IsNet q u x w n) (sym j.port) is_in) is_out
