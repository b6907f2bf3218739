-- What a driver's code keeps: widths, words, and bits that it doesn't write.
use Rattle.std.proofs.Common.{◌≡◌, ℕ, ◌/◌, ◌^◌, ◌<◌, ◌≤◌, ◌==◌, nat_lt, Bool, true, false, List, [], ◌∷◌, ◌++◌}
use Rattle.std.proofs.Common.{slice_index, if◌then◌else◌, ⊎_elim, refl, ap, sym, ◌∙◌, arith}
use Rattle.std.specs.Int.{bit_at}
use Rattle.std.specs.List.{list_any}
use Rattle.std.proofs.lemmas.Bool.{cases_lt, or_from, false_from_ne_true, or_parts}
use Rattle.std.proofs.lemmas.List.{ext_get_or}
use Rattle.std.proofs.lemmas.List.Folds.{list_any-append}
use Rattle.std.proofs.lemmas.Nat.Bits.{bit_at_above, same_from_bits}
use Rattle.vidi_bits.proofs.BitLemmas.{fits_by_bits}
use Rattle.net_design.specs.declared.act.Place.{Place}
use Rattle.net_design.specs.declared.act.Place.TheVariants.{Bits, BitsFrom, Word, WordFrom}
use Rattle.net_design.specs.declared.act.Act.{Act, Set, Read, Branch', Row_of-Act, end_of-Act, more_of-Act, Row_of-Guard, end_of-Guard}
use Rattle.net_design.specs.declared.act.Act.{more_of-Guard}
use Rattle.net_design.specs.declared.act.Timing.TheVariants.{Blocking}
use Rattle.net_design.specs.declared.design.Design.{Design}
use Rattle.net_design.specs.declared.values.Target.{Target}
use Rattle.net_design.specs.declared.values.Target.TheVariants.{Net, Word as WordTarget}
use Rattle.net_design.specs.declared.values.Update.{Update}
use Rattle.net_design.specs.declared.values.Values.{Values}
use Rattle.net_design.specs.Value.{value}
use Rattle.net_design.specs.Updates.{written_to, apply, place_updates, target_width, target_updates, updates, guard_row, act_row}
use Rattle.net_design.specs.Updates.{block_updates, run}
use Rattle.net_design.specs.Bits.{place_is_word, writes_words, guards_write_words, row_writes_words, block_writes, block_writes_words}
use Rattle.net_design.specs.Settled.{net_width, FitNets}
use Rattle.net_design.specs.Lawful.{IsLawful, IsInRange}
use Rattle.net_design.proofs.LawfulCode.{net_width_le}
use Rattle.net_design.proofs.FrameLaws.{unwritten}
use Rattle.net_design.proofs.StateLaws.{applied_long, AreNarrow, nets_narrow}
use Rattle.net_order.proofs.WriteRange.{block_bit}

-- ---- code that writes no word makes no update of one
abbrev is_word : Target → Bool
is_word (Net m) = false
is_word (WordTarget i) = true

abbrev worded : List Update → Bool
worded us = list_any (λ (u : Update). is_word u.target) us

either_way : (b : Bool) (us ws : List Update) → worded us ≡ false → worded ws ≡ false → worded (if b then us else ws) ≡ false
either_way true us ws h g = h
either_way false us ws h g = g

both_none : (us ws : List Update) → worded us ≡ false → worded ws ≡ false → worded (us ++ ws) ≡ false
both_none us ws h g = list_any-append (λ (u : Update). is_word u.target) us ws ∙ or_from _ _ h g

place_none : (q : Place) (x : ℕ) (v : Values) → place_is_word q ≡ false → worded (place_updates q x v) ≡ false
place_none (Bits s n) x v h = either_way (s.width == 0) _ _ refl refl
place_none (BitsFrom s i w) x v h = either_way (nat_lt (value i v) s.width) _ _ refl refl
place_none (Word r i low w n) x v h = absurd cc
place_none (WordFrom r i size j w) x v h = absurd cc

target_none : (ps : List Place) (x : ℕ) (v : Values) → list_any place_is_word ps ≡ false → worded (target_updates ps x v) ≡ false
target_none [] x v h = refl
target_none (q ∷ ps) x v h =
    let t = or_parts (place_is_word q) (list_any place_is_word ps) h in
    both_none (place_updates q (x / 2 ^ target_width ps) v) (target_updates ps x v) (place_none q (x / 2 ^ target_width ps) v t.0)
    (target_none ps x v t.1)

mutual
  act_none : (a : Act) (v : Values) → writes_words a ≡ false → worded (updates Blocking a v) ≡ false
  act_none (Set target e) v h = target_none target (value e v) v h
  act_none (Read e) v h = refl
  act_none (Branch' n guards l otherwise) v h =
      let t = or_parts (guards_write_words guards) (row_writes_words otherwise) h in
      guards_none guards (act_row Blocking otherwise v) v t.0 (row_none otherwise v t.1)

  guards_none : {n : _} → (row : Row_of-Guard n) (us : List Update) (v : Values) → guards_write_words row ≡ false → worded us ≡ false
      → worded (guard_row Blocking row us v) ≡ false
  guards_none end_of-Guard us v h g = g
  guards_none (more_of-Guard c l body rest) us v h g =
      let t = or_parts (row_writes_words body) (guards_write_words rest) h in
      either_way (value c v == 0) (guard_row Blocking rest us v) (act_row Blocking body v) (guards_none rest us v t.1 g)
      (row_none body v t.0)

  row_none : {n : _} → (row : Row_of-Act n) (v : Values) → row_writes_words row ≡ false → worded (act_row Blocking row v) ≡ false
  row_none end_of-Act v h = refl
  row_none (more_of-Act a rest) v h =
      let t = or_parts (writes_words a) (row_writes_words rest) h in
      both_none (updates Blocking a v) (act_row Blocking rest (apply (updates Blocking a v) v)) (act_none a v t.0)
      (row_none rest (apply (updates Blocking a v) v) t.1)

block_none : (acts : List Act) (v : Values) → block_writes_words acts ≡ false → worded (block_updates Blocking acts v) ≡ false
block_none [] v h = refl
block_none (a ∷ rest) v h =
    let t = or_parts (writes_words a) (block_writes_words rest) h in
    both_none (updates Blocking a v) (block_updates Blocking rest (apply (updates Blocking a v) v)) (act_none a v t.0)
    (block_none rest (apply (updates Blocking a v) v) t.1)

word_stays : (target : Target) (u : Update) (v : Values) → is_word target ≡ false → (written_to target u v).words ≡ v.words
word_stays (Net m) u v h = refl
word_stays (WordTarget i) u v h = absurd cc

words_stay : (us : List Update) (v : Values) → worded us ≡ false → (apply us v).words ≡ v.words
words_stay [] v h = refl
words_stay (u ∷ us) v h =
    let t = or_parts (is_word u.target) (worded us) h in
    words_stay us (written_to u.target u v) t.1 ∙ word_stays u.target u v t.0

pub run_words : (acts : List Act) (v : Values) → block_writes_words acts ≡ false → (run acts v).words ≡ v.words
run_words acts v h = words_stay (block_updates Blocking acts v) v (block_none acts v h)

-- ---- widths
module _ (d : Design) (law : IsLawful d) where
  pub fit_narrow : (xs : List ℕ) → FitNets d xs → AreNarrow xs
  fit_narrow xs fit m =
      let wide : net_width d m ≤ 128 = net_width_le d law m in
      fits_by_bits (slice_index xs m) 128 (λ k g. bit_at_above (slice_index xs m) (net_width d m) k (fit.each m) (omega arith))

  -- values that fit and have the same bits and words are the same
  pub same_values : (v u : Values) → FitNets d v.nets → FitNets d u.nets → v.words ≡ u.words
      → ((m k : ℕ) → bit_at (slice_index v.nets m) k ≡ bit_at (slice_index u.nets m) k) → v ≡ u
  same_values v u fv fu words h =
      let nets : v.nets ≡ u.nets = ext_get_or 0 v.nets u.nets (fv.long ∙ sym fu.long) (λ m l. same_from_bits _ _ (h m)) in
      ap (λ (xs : List ℕ). record { nets = xs; words = v.words }) nets ∙ ap (λ (xs : List ℕ). record { nets = u.nets; words = xs }) words

  module _ (acts : List Act) (range : IsInRange d acts) (v : Values) (fit : FitNets d v.nets) where
    narrow_after : AreNarrow (run acts v).nets
    narrow_after = nets_narrow (block_updates Blocking acts v) v (fit_narrow v.nets fit)

    pub frame : (m k : ℕ) → block_writes acts m k ≡ false → bit_at (slice_index (run acts v).nets m) k ≡ bit_at (slice_index v.nets m) k
    frame m k h = ⊎_elim
        (λ (l : k < 128). unwritten Blocking acts v v m k l h)
        (λ (g : 128 ≤ k). bit_at_above _ 128 k (narrow_after m) g ∙ sym (bit_at_above _ 128 k (fit_narrow v.nets fit m) g))
        (cases_lt k 128)

    pub run_fits : FitNets d (run acts v).nets
    run_fits = record {
      long = (applied_long (block_updates Blocking acts v) v).0 ∙ fit.long;
      each = λ m. fits_by_bits _ (net_width d m) (λ k g.
          frame m k (false_from_ne_true _ (λ t. let l : k < net_width d m = block_bit d acts range m k t in omega arith))
          ∙ bit_at_above _ (net_width d m) k (fit.each m) g);
    }
