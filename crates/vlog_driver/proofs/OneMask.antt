-- The two parts of E9, by masks and by nets that are named, one after the other.
use Rattle.std.proofs.Common.{◌≡◌, ℕ, ◌-◌, ◌^◌, ◌<◌, ◌≤◌, ◌==◌, ◌&&◌, ◌||◌, not, Bool, true, false, List, [], ◌∷◌, ◌++◌, bit_and}
use Rattle.std.proofs.Common.{refl, ap, sym, subst, ◌∙◌, arith}
use Rattle.std.specs.List.{list_any, flat_map}
use Rattle.std.proofs.lemmas.Bool.{eqb-true, eq-eqb}
use Rattle.std.proofs.lemmas.Nat.{and_le_l}
use Rattle.net_drive.specs.vidi_bits.Number.{has}
use Rattle.net_design.specs.declared.act.Mask.{Mask}
use Rattle.net_design.specs.declared.act.Place.{Place}
use Rattle.net_design.specs.declared.act.Place.TheVariants.{Bits as PlaceBits, BitsFrom, Word as PlaceWord, WordFrom}
use Rattle.net_design.specs.Bits.{BitSet, named}
use Rattle.net_drive.specs.net_code.declared.bit_map.BitMap.{BitMap}
use Rattle.net_drive.specs.net_code.BitMap.{mask_of, in_map, is_among}
use Rattle.net_drive.specs.net_code.Targets.{place_net, nets_named}
use Rattle.net_drive.proofs.net_code_lemmas.MaskLaws.{has_less}
use Rattle.vlog_block.specs.Naming.{place_names}
use Rattle.vlog_driver.specs.Latch.{some_bit, is_net, is_named}
use Rattle.vlog_driver.specs.Masks.{is_missed, is_read}
use Rattle.vlog_driver.proofs.SomeBit.{some_or, some_none, some_same, some_of_mask}

-- ---- what the code computes of one mask

pub mask_read : (b : BitMap) (m r : ℕ) → r ≡ mask_of b m → r < 2 ^ 128 → not (r == 0) ≡ is_read (in_map b) m
unfolding in_map is_read
mask_read b m r e l =
    let h : mask_of b m < 2 ^ 128 = subst (λ n. n < 2 ^ 128) e l in
    ap (λ n. not (n == 0)) e ∙ sym (some_of_mask (mask_of b m) h)

some_missed : (b : BitMap) (bits m : ℕ) → bits < 2 ^ 128 → mask_of b m < 2 ^ 128 → bit_and bits (2 ^ 128 - 1 - mask_of b m) < 2 ^ 128
    → some_bit (λ k. has bits k && not (in_map b m k)) ≡ not (bit_and bits (2 ^ 128 - 1 - mask_of b m) == 0)
unfolding in_map
some_missed b bits m l h w =
    some_same _ _ (λ k. sym (has_less bits (mask_of b m) k l h)) ∙ some_of_mask (bit_and bits (2 ^ 128 - 1 - mask_of b m)) w

pub mask_missed : (sure : BitMap) (net bits s : ℕ) → s ≡ mask_of sure net → bits < 2 ^ 128 → s < 2 ^ 128
    → not (bit_and bits (2 ^ 128 - 1 - s) == 0) ≡ is_missed (in_map sure) net bits
unfolding is_missed
mask_missed sure net bits s es l hs =
    let low : bit_and bits (2 ^ 128 - 1 - mask_of sure net) ≤ bits = and_le_l bits (2 ^ 128 - 1 - mask_of sure net) in
    ap (λ n. not (bit_and bits (2 ^ 128 - 1 - n) == 0)) es
    ∙ sym (some_missed sure bits net l (subst (λ n. n < 2 ^ 128) es hs) (omega (arith, low, l)))

-- ---- masks, one after the other

-- a bit of net m that one of the masks has isn't surely assigned
abbrev pub any_missed : BitSet → List Mask → ℕ → Bool
any_missed adds masks m = list_any (λ (x : Mask). (x.net == m) && is_missed adds x.net x.bits) masks

split : (a b s : Bool) → ((a || b) && not s) ≡ ((a && not s) || (b && not s))
split true true true = refl
split true false true = refl
split true b false = refl
split false b s = refl

-- those of some masks
abbrev missed_in : BitSet → List Mask → ℕ → Bool
missed_in adds masks m = some_bit (λ k. named masks m k && not (adds m k))

module _ (adds : BitSet) where
  -- at the net of the first mask, then at any net
  at_first : (x : Mask) (xs : List Mask) → (x.net == x.net) ≡ true
      → missed_in adds (x ∷ xs) x.net ≡ (is_missed adds x.net x.bits || missed_in adds xs x.net)
  unfolding is_missed
  at_first x xs t =
      some_same (λ k. named (x ∷ xs) x.net k && not (adds x.net k))
      (λ k. (has x.bits k && not (adds x.net k)) || (named xs x.net k && not (adds x.net k)))
      (λ k. ap (λ b. ((b && has x.bits k) || named xs x.net k) && not (adds x.net k)) t
      ∙ split (has x.bits k) (named xs x.net k) (adds x.net k))
      ∙ some_or (λ k. has x.bits k && not (adds x.net k)) (λ k. named xs x.net k && not (adds x.net k))

  elsewhere : (x : Mask) (xs : List Mask) (m : ℕ) → (x.net == m) ≡ false → missed_in adds (x ∷ xs) m ≡ missed_in adds xs m
  elsewhere x xs m h =
      some_same (λ k. named (x ∷ xs) m k && not (adds m k)) (λ k. named xs m k && not (adds m k))
      (λ k. ap (λ b. ((b && has x.bits k) || named xs m k) && not (adds m k)) h)

  one_more : (x : Mask) (xs : List Mask) (m : ℕ) (t : Bool) → (x.net == m) ≡ t
      → missed_in adds (x ∷ xs) m ≡ ((t && is_missed adds x.net x.bits) || missed_in adds xs m)
  one_more x xs m true h =
      let e : x.net ≡ m = eqb-true x.net m h in
      subst (λ n. missed_in adds (x ∷ xs) n ≡ (is_missed adds x.net x.bits || missed_in adds xs n)) e
      (at_first x xs (eq-eqb x.net x.net refl))
  one_more x xs m false h = elsewhere x xs m h

  pub by_masks : (masks : List Mask) (m : ℕ) → any_missed adds masks m ≡ some_bit (λ k. named masks m k && not (adds m k))
  by_masks [] m = sym some_none
  by_masks (x ∷ xs) m =
      ap (λ b. ((x.net == m) && is_missed adds x.net x.bits) || b) (by_masks xs m) ∙ sym (one_more x xs m (x.net == m) refl)

-- ---- nets that are named, one after the other

-- net m is one of the nets, and a bit of it is read
abbrev pub any_read : BitSet → List ℕ → ℕ → Bool
any_read reads nets m = list_any (λ (i : ℕ). (i == m) && is_read reads i) nets

gather : (a b r : Bool) → ((a && r) || (b && r)) ≡ ((a || b) && r)
gather true true true = refl
gather true true false = refl
gather true false true = refl
gather true false false = refl
gather false b r = refl

module _ (reads : BitSet) where
  read_at : (x m : ℕ) (t : Bool) → (x == m) ≡ t → (t && is_read reads x) ≡ (t && is_read reads m)
  read_at x m true h = ap (is_read reads) (eqb-true x m h)
  read_at x m false h = refl

  read_among : (nets : List ℕ) (m : ℕ) → any_read reads nets m ≡ (is_among m nets && is_read reads m)
  read_among [] m = refl
  read_among (x ∷ xs) m =
      ap (λ b. ((x == m) && is_read reads x) || b) (read_among xs m)
      ∙ (ap (λ b. b || (is_among m xs && is_read reads m)) (read_at x m (x == m) refl)
      ∙ gather (x == m) (is_among m xs) (is_read reads m))

-- the nets of places are the nets that they name
same_names : (m : ℕ) (places : List Place) → is_among m (flat_map place_net places) ≡ is_named (place_names places) m
same_names m [] = refl
same_names m (PlaceBits s n ∷ ps) = ap (λ b. (s.net == m) || b) (same_names m ps)
same_names m (BitsFrom s i w ∷ ps) = ap (λ b. (s.net == m) || b) (same_names m ps)
same_names m (PlaceWord r i low w n ∷ ps) = same_names m ps
same_names m (WordFrom r i size j w ∷ ps) = same_names m ps

pub by_names : (reads : BitSet) (places : List Place) (m : ℕ)
    → any_read reads (nets_named places) m ≡ (is_named (place_names places) m && some_bit (λ k. reads m k))
unfolding nets_named is_read
by_names reads places m =
    read_among reads (flat_map place_net places) m ∙ ap (λ b. b && some_bit (λ k. reads m k)) (same_names m places)
