-- Bits that are read, written and learned, one after the other.
use Rattle.std.proofs.Common.{◌≡◌, ℕ, ◌+◌, ◌-◌, ◌^◌, ◌<◌, ◌==◌, ◌&&◌, ◌||◌, not, nat_le, nat_lt, Bool, true, false}
use Rattle.std.proofs.Common.{List, [], ◌∷◌, ◌++◌, length, get_or, drop, bit_and, refl, ap, sym, subst, ◌∙◌}
use Rattle.std.proofs.lemmas.List.Folds.{list_any-append}
use Rattle.std.proofs.lemmas.Bool.{eqb-true}
use Rattle.std.proofs.Math.Bool.{or-false, or_assoc}
use Rattle.net_design.specs.declared.rhs.Span.{Span}
use Rattle.net_design.specs.declared.act.Mask.{Mask}
use Rattle.net_code.specs.declared.bit_map.BitMap.{BitMap}
use Rattle.net_design.specs.vidi_bits.Number.{has}
use Rattle.net_design.specs.declared.act.Place.{Place}
use Rattle.net_design.specs.Bits.{BitSet, named, bits_of, place_reads, place_writes, target_reads, target_writes}
use Rattle.net_code.specs.BitMap.{mask_of, in_map}
use Rattle.net_code.specs.Found.{Reads, Learns}
use Rattle.net_code.proofs.MaskLaws.{has_less, has_and}
use Rattle.net_design.proofs.UpdateLaws.{from_here}

-- ---- Bool
pub or_nothing : (a : Bool) (k : Bool) → a ≡ (a || (false && k))
or_nothing true k = refl
or_nothing false k = refl

both_false : (q : Bool) → (false || (q && false)) ≡ false
both_false true = refl
both_false false = refl

-- two sets of bits that aren't known are read
open_then : (r p q k : Bool) → ((r || (p && not k)) || (q && not k)) ≡ (r || ((p || q) && not k))
open_then true p q k = refl
open_then false true q true = both_false q
open_then false true q false = refl
open_then false false q k = refl

-- two sets of bits are learned
fresh_then : (x k a b : Bool) → ((x || (a && not k)) || (b && not (k || a))) ≡ (x || ((a || b) && not k))
fresh_then true k a b = refl
fresh_then false true true b = both_false b
fresh_then false true false b = refl
fresh_then false false true b = refl
fresh_then false false false b = refl

-- what isn't known of a net's bits
fresh_case : (b mask known x k' : Bool) → (b ≡ true → mask ≡ known) → (b && (x && not mask)) ≡ ((b && x) && not known)
fresh_case true mask known x k' h = ap (λ z. x && not z) (h refl)
fresh_case false mask known x k' h = refl

module _ (known : BitMap) where
  -- the bits of a mask that aren't known
  pub fresh_bits : (net bits m k : ℕ) → bits < 2 ^ 128 → mask_of known net < 2 ^ 128
      → ((net == m) && has (bit_and bits (2 ^ 128 - 1 - mask_of known net)) k) ≡ (((net == m) && has bits k) && not (in_map known m k))
  unfolding in_map
  fresh_bits net bits m k l h =
      ap (λ b. (net == m) && b) (has_less bits (mask_of known net) k l h)
      ∙ fresh_case (net == m) (has (mask_of known net) k) (has (mask_of known m) k) (has bits k) true
      (λ t. ap (λ n. has (mask_of known n) k) (eqb-true net m t))

  pub reads_nothing : (p : BitSet) (out : BitMap) → ((m k : ℕ) → p m k ≡ false) → Reads p known out out
  reads_nothing p out h = record {
    more = λ m k. or_nothing (in_map out m k) (not (in_map known m k))
        ∙ ap (λ b. in_map out m k || (b && not (in_map known m k))) (sym (h m k));
  }

  pub reads_both : (p q : BitSet) (out mid end : BitMap) → Reads p known out mid → Reads q known mid end
      → Reads (λ m k. p m k || q m k) known out end
  reads_both p q out mid end a b = record {
    more = λ m k.
        b.more m k ∙ ap (λ z. z || (q m k && not (in_map known m k))) (a.more m k)
        ∙ open_then (in_map out m k) (p m k) (q m k) (in_map known m k);
  }

  pub read_one : (s : Span) (bits mask : ℕ) (out end : BitMap) → bits < 2 ^ 128 → mask < 2 ^ 128 → mask ≡ mask_of known s.net
      → ((k : ℕ) → has bits k ≡ (nat_le s.low k && nat_lt k (s.low + s.width)))
      → ((m k : ℕ) → in_map end m k ≡ (in_map out m k || ((s.net == m) && has (bit_and bits (2 ^ 128 - 1 - mask)) k)))
      → Reads (bits_of s) known out end
  read_one s bits mask out end lb lm is same all = record {
    more = λ m k.
        all m k
        ∙ ap (λ b. in_map out m k || b)
        (ap (λ n. (s.net == m) && has (bit_and bits (2 ^ 128 - 1 - n)) k) is
        ∙ fresh_bits s.net bits m k lb (subst (λ n. n < 2 ^ 128) is lm)
        ∙ ap (λ b. ((s.net == m) && b) && not (in_map known m k)) (same k));
  }

  -- the places of a target, one after the other
  pub places_read : (places : List Place) (i : ℕ) (p : Place) (out mid : BitMap) → i < length places → p ≡ get_or places i p
      → Reads (place_reads p) known out mid → (m k : ℕ)
      → (in_map mid m k || (target_reads (drop (i + 1) places) m k && not (in_map known m k)))
      ≡ (in_map out m k || (target_reads (drop i places) m k && not (in_map known m k)))
  places_read places i p out mid l e h m k =
      ap (λ z. z || (target_reads (drop (i + 1) places) m k && not (in_map known m k))) (h.more m k)
      ∙ open_then (in_map out m k) (place_reads p m k) (target_reads (drop (i + 1) places) m k) (in_map known m k)
      ∙ ap (λ xs. in_map out m k || (target_reads xs m k && not (in_map known m k))) (sym (from_here places i p l e))

pub places_written : (places : List Place) (i : ℕ) (p : Place) (out mid : BitMap) → i < length places → p ≡ get_or places i p
    → ((m k : ℕ) → in_map mid m k ≡ (in_map out m k || place_writes p m k)) → (m k : ℕ)
    → (in_map mid m k || target_writes (drop (i + 1) places) m k) ≡ (in_map out m k || target_writes (drop i places) m k)
places_written places i p out mid l e h m k =
    ap (λ z. z || target_writes (drop (i + 1) places) m k) (h m k)
    ∙ or_assoc (in_map out m k) (place_writes p m k) (target_writes (drop (i + 1) places) m k)
    ∙ ap (λ xs. in_map out m k || target_writes xs m k) (sym (from_here places i p l e))

-- ---- learning
pub learn_nothing : (p : BitSet) (known : BitMap) (fresh : List Mask) → ((m k : ℕ) → p m k ≡ false) → Learns p known known fresh fresh
learn_nothing p known fresh h = record {
  bits = λ m k. or_nothing (in_map known m k) true ∙ ap (λ b. in_map known m k || b) (sym (h m k));
  masks = λ m k. or_nothing (named fresh m k) (not (in_map known m k)) ∙ ap (λ b. named fresh m k || (b && not (in_map known m k)))
      (sym (h m k));
}

pub learn_both : (p q : BitSet) (known mid end : BitMap) (fresh new or-false : List Mask) → Learns p known mid fresh new
    → Learns q mid end new or-false
    → Learns (λ m k. p m k || q m k) known end fresh or-false
learn_both p q known mid end fresh new or-false a b = record {
  bits = λ m k. b.bits m k ∙ ap (λ z. z || q m k) (a.bits m k) ∙ or_assoc (in_map known m k) (p m k) (q m k);
  masks = λ m k.
      b.masks m k
      ∙ ap (λ z. z || (q m k && not (in_map mid m k))) (a.masks m k)
      ∙ ap (λ z. (named fresh m k || (p m k && not (in_map known m k))) || (q m k && not z)) (a.bits m k)
      ∙ fresh_then (named fresh m k) (in_map known m k) (p m k) (q m k);
}

pub learn_same : (p q : BitSet) (known after : BitMap) (fresh new : List Mask) → ((m k : ℕ) → p m k ≡ q m k)
    → Learns p known after fresh new
    → Learns q known after fresh new
learn_same p q known after fresh new h a = record {
  bits = λ m k. a.bits m k ∙ ap (λ b. in_map known m k || b) (h m k);
  masks = λ m k. a.masks m k ∙ ap (λ b. named fresh m k || (b && not (in_map known m k))) (h m k);
}

pub or_fresh : (k p : Bool) → (k || (p && not k)) ≡ (k || p)
or_fresh true p = refl
or_fresh false true = refl
or_fresh false false = refl

pub push_named : (fresh : List Mask) (x : Mask) (m k : ℕ) → named (fresh ++ x ∷ []) m k ≡
    (named fresh m k || ((x.net == m) && has x.bits k))
push_named fresh x m k =
    list_any-append (λ (y : Mask). (y.net == m) && has y.bits k) fresh (x ∷ [])
    ∙ ap (λ b. named fresh m k || b) (or-false ((x.net == m) && has x.bits k))

pub learn_one : (net bits mask : ℕ) (known after : BitMap) (fresh new : List Mask) → bits < 2 ^ 128 → mask < 2 ^ 128
    → mask ≡ mask_of known net
    → ((m k : ℕ) → in_map after m k ≡ (in_map known m k || ((net == m) && has (bit_and bits (2 ^ 128 - 1 - mask)) k)))
    → new ≡ fresh ++ record { net = net; bits = bit_and bits (2 ^ 128 - 1 - mask) } ∷ []
    → Learns (λ m k. (net == m) && has bits k) known after fresh new
learn_one net bits mask known after fresh new lb lm is all pushed =
    let same : (m k : ℕ) → ((net == m) && has (bit_and bits (2 ^ 128 - 1 - mask)) k) ≡
    (((net == m) && has bits k) && not (in_map known m k)) =
    λ m k. ap (λ n. (net == m) && has (bit_and bits (2 ^ 128 - 1 - n)) k) is
    ∙ fresh_bits known net bits m k lb (subst (λ n. n < 2 ^ 128) is lm) in
    record {
      bits = λ m k. all m k ∙ ap (λ b. in_map known m k || b) (same m k) ∙ or_fresh (in_map known m k) ((net == m) && has bits k);
      masks = λ m k.
          ap (λ xs. named xs m k) pushed
          ∙ push_named fresh (record { net = net; bits = bit_and bits (2 ^ 128 - 1 - mask) }) m k
          ∙ ap (λ b. named fresh m k || b) (same m k);
    }

-- the rest of a list is learned after what was learned so far
abbrev pub LearnsRest : BitSet → BitSet → BitMap → BitMap → List Mask → List Mask → Type 0
LearnsRest whole rest known now fresh new =
    ((m k : ℕ) → (in_map now m k || rest m k) ≡ (in_map known m k || whole m k))
    × ((m k : ℕ) → (named new m k || (rest m k && not (in_map now m k))) ≡ (named fresh m k || (whole m k && not (in_map known m k))))

pub rest_step : (whole p rest later : BitSet) (known now mid : BitMap) (fresh new or-false : List Mask)
    → ((m k : ℕ) → rest m k ≡ (p m k || later m k))
    → LearnsRest whole rest known now fresh new → Learns p now mid new or-false → LearnsRest whole later known mid fresh or-false
rest_step whole p rest later known now mid fresh new or-false split h a = (
  (λ m k.
      ap (λ z. z || later m k) (a.bits m k) ∙ or_assoc (in_map now m k) (p m k) (later m k)
      ∙ ap (λ b. in_map now m k || b) (sym (split m k)) ∙ h.0 m k),
  (λ m k.
      ap (λ z. z || (later m k && not (in_map mid m k))) (a.masks m k)
      ∙ ap (λ z. (named new m k || (p m k && not (in_map now m k))) || (later m k && not z)) (a.bits m k)
      ∙ fresh_then (named new m k) (in_map now m k) (p m k) (later m k)
      ∙ ap (λ b. named new m k || (b && not (in_map now m k))) (sym (split m k))
      ∙ h.1 m k),
)

pub rest_done : (whole rest : BitSet) (known now : BitMap) (fresh new : List Mask) → ((m k : ℕ) → rest m k ≡ false)
    → LearnsRest whole rest known now fresh new
    → Learns whole known now fresh new
rest_done whole rest known now fresh new none h = record {
  bits = λ m k. or_nothing (in_map now m k) true ∙ ap (λ b. in_map now m k || b) (sym (none m k)) ∙ h.0 m k;
  masks = λ m k. or_nothing (named new m k) (not (in_map now m k)) ∙ ap (λ b. named new m k || (b && not (in_map now m k))) (sym (none m k))
      ∙ h.1 m k;
}

-- ---- masks narrowed
narrow_case : (b : Bool) (mask known x : Bool) → (b ≡ true → mask ≡ known) → (b && (x && mask)) ≡ ((b && x) && known)
narrow_case true mask known x h = ap (λ z. x && z) (h refl)
narrow_case false mask known x h = refl

narrow_then : (o x r n : Bool) → ((o || (x && n)) || (r && n)) ≡ (o || ((x || r) && n))
narrow_then true x r n = refl
narrow_then false true true true = refl
narrow_then false true false true = refl
narrow_then false true true false = refl
narrow_then false true false false = refl
narrow_then false false r n = refl

narrow_bits : (known : BitMap) (net bits m k : ℕ) → ((net == m) && has (bit_and bits (mask_of known net)) k) ≡
    (((net == m) && has bits k) && in_map known m k)
unfolding in_map
narrow_bits known net bits m k =
    ap (λ b. (net == m) && b) (has_and bits (mask_of known net) k)
    ∙ narrow_case (net == m) (has (mask_of known net) k) (has (mask_of known m) k) (has bits k)
    (λ t. ap (λ n. has (mask_of known n) k) (eqb-true net m t))

pub masks_narrowed : (known : BitMap) (masks out new : List Mask) (i : ℕ) (x : Mask) (mask : ℕ) → i < length masks → x ≡ get_or masks i x
    → mask ≡ mask_of known x.net
    → ((m k : ℕ) → named new m k ≡ (named out m k || ((x.net == m) && has (bit_and x.bits mask) k))) → (m k : ℕ)
    → (named new m k || (named (drop (i + 1) masks) m k && in_map known m k)) ≡
    (named out m k || (named (drop i masks) m k && in_map known m k))
masks_narrowed known masks out new i x mask l e is all m k =
    ap (λ b. b || (named (drop (i + 1) masks) m k && in_map known m k))
    (all m k ∙ ap (λ b. named out m k || b) (ap (λ n. (x.net == m) && has (bit_and x.bits n) k) is ∙ narrow_bits known x.net x.bits m k))
    ∙ narrow_then (named out m k) ((x.net == m) && has x.bits k) (named (drop (i + 1) masks) m k) (in_map known m k)
    ∙ ap (λ xs. named out m k || (named xs m k && in_map known m k)) (sym (from_here masks i x l e))
