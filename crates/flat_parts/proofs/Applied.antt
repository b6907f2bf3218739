-- Updates of an instance's own nets and words, made in a list in which others stand before and behind.
use Rattle.std.proofs.Common.{◌≡◌, ℕ, ◌+◌, ◌-◌, ◌<◌, ◌≤◌, List, [], ◌∷◌, ◌++◌, map, length, slice_index, slice_set}
use Rattle.std.proofs.Common.{refl, ap, sym, ◌∙◌, arith}
use Rattle.std.specs.List.{flat_map}
use Rattle.std.proofs.lemmas.List.{append_assoc, length-append, get_or_append_left, get_or-append-add, set-append_left}
use Rattle.std.proofs.lemmas.List.{set-append_right}
use Rattle.vlog_elab.specs.vlog_size.Names.{Readable}
use Rattle.vlog_elab.specs.vidi_bits.Number.{put_of}
use Rattle.net_design.specs.declared.values.Target.{Target}
use Rattle.net_design.specs.declared.values.Target.TheVariants.{Net, Word}
use Rattle.net_design.specs.declared.values.Update.{Update}
use Rattle.net_design.specs.declared.values.Values.{Values}
use Rattle.net_design.specs.Updates.{written_to, apply}
use Rattle.net_design.proofs.StateLaws.{written_long, applied_long}
use Rattle.net_design.proofs.UpdateLaws.{apply_both}
use Rattle.vlog_driver.specs.net_code.Moved.{moved_target, moved_update}
use Rattle.vlog_elab.specs.vlog_scope.Scope.{words_of}
use Rattle.vlog_elab.specs.Instances.{ModuleInstance}
use Rattle.vlog_driver.specs.Own.{IsLong, word_total}
use Rattle.vlog_driver.specs.Placed.{names_at}
use Rattle.vlog_driver.proofs.SameUpdates.{TargetIn, AreIn}
use Rattle.flat_parts.specs.Seats.{Seat, seats_from}

-- other numbers behind those of v
abbrev pub with_more : Values → List ℕ → List ℕ → Values
with_more v ns ws = record { nets = v.nets ++ ns; words = v.words ++ ws }

-- others before them
abbrev pub after_these : List ℕ → List ℕ → Values → Values
after_these ns ws v = record { nets = ns ++ v.nets; words = ws ++ v.words }

-- ---- one update
abbrev put : Update → ℕ → ℕ
put u x = put_of x u.low u.width u.number

set_before : (u : Update) (xs ys : List ℕ) (m : ℕ) → m < length xs
    → slice_set (xs ++ ys) m (put u (slice_index (xs ++ ys) m)) ≡ slice_set xs m (put u (slice_index xs m)) ++ ys
set_before u xs ys m l =
    ap (λ x. slice_set (xs ++ ys) m (put u x)) (get_or_append_left xs ys 0 m l)
    ∙ set-append_left xs ys m (put u (slice_index xs m)) l

set_behind : (u : Update) (xs ys : List ℕ) (n m : ℕ) → length xs ≡ n
    → slice_set (xs ++ ys) (n + m) (put u (slice_index (xs ++ ys) (n + m))) ≡ xs ++ slice_set ys m (put u (slice_index ys m))
set_behind u xs ys n m l =
    let here : slice_index (xs ++ ys) (n + m) ≡ slice_index ys m =
    ap (λ k. slice_index (xs ++ ys) (k + m)) (sym l) ∙ get_or-append-add xs ys m 0 in
    let place : n + m - n ≡ m = omega arith in
    ap (λ x. slice_set (xs ++ ys) (n + m) (put u x)) here
    ∙ set-append_right xs ys n (n + m) (put u (slice_index ys m)) l (omega arith)
    ∙ ap (λ k. xs ++ slice_set ys k (put u (slice_index ys m))) place

within : (n m k : ℕ) → m < n → n ≤ k → m < k
within n m k h l = omega (arith, h, l)

longer : (n k j : ℕ) → k ≡ j → n ≤ j → n ≤ k
longer n k j e h = omega (arith, e, h)

module _ (r : Readable) where
  written_before : (t : Target) (u : Update) (v : Values) (ns ws : List ℕ) → TargetIn r t → IsLong r v
      → written_to t u (with_more v ns ws) ≡ with_more (written_to t u v) ns ws
  written_before (Net m) u v ns ws inside long =
      ap (λ xs. record { nets = xs; words = v.words ++ ws })
      (set_before u v.nets ns m (within (length r.nets) m (length v.nets) inside long.nets))
  written_before (Word i) u v ns ws inside long =
      ap (λ xs. record { nets = v.nets ++ ns; words = xs })
      (set_before u v.words ws i (within (word_total r) i (length v.words) inside long.words))

  still_long : (t : Target) (u : Update) (v : Values) → IsLong r v → IsLong r (written_to t u v)
  still_long t u v long =
      let same = written_long t u v in
      record {
        nets = longer (length r.nets) (length (written_to t u v).nets) (length v.nets) same.0 long.nets;
        words = longer (word_total r) (length (written_to t u v).words) (length v.words) same.1 long.words;
      }

  pub applied_before : (us : List Update) (v : Values) (ns ws : List ℕ) → AreIn r us → IsLong r v
      → apply us (with_more v ns ws) ≡ with_more (apply us v) ns ws
  applied_before [] v ns ws inside long = refl
  applied_before (u ∷ us) v ns ws inside long =
      ap (apply us) (written_before u.target u v ns ws inside.0 long)
      ∙ applied_before us (written_to u.target u v) ns ws inside.1 (still_long u.target u v long)

module _ (net word : ℕ) (ns ws : List ℕ) (before : length ns ≡ net) (below : length ws ≡ word) where
  written_behind : (t : Target) (u : Update) (v : Values)
      → written_to (moved_target net word t) (moved_update net word u) (after_these ns ws v) ≡ after_these ns ws (written_to t u v)
  written_behind (Net m) u v = ap (λ xs. record { nets = xs; words = ws ++ v.words }) (set_behind u ns v.nets net m before)
  written_behind (Word i) u v = ap (λ xs. record { nets = ns ++ v.nets; words = xs }) (set_behind u ws v.words word i below)

  pub applied_behind : (us : List Update) (v : Values)
      → apply (map (moved_update net word) us) (after_these ns ws v) ≡ after_these ns ws (apply us v)
  applied_behind [] v = refl
  applied_behind (u ∷ us) v =
      ap (apply (map (moved_update net word) us)) (written_behind u.target u v) ∙ applied_behind us (written_to u.target u v)

-- ---- the updates of all instances

-- the own numbers of an instance, as many as it has nets and words
pub record AreOwn (part : ModuleInstance → Values) : Type 0 where
  pub nets : (i : ModuleInstance) → length (part i).nets ≡ length i.scope.nets
  pub words : (i : ModuleInstance) → length (part i).words ≡ words_of i.scope.memories
  pub long : (i : ModuleInstance) → IsLong (names_at i.scope 0) (part i)

-- instance by instance
abbrev pub all_parts : (ModuleInstance → Values) → List ModuleInstance → Values
all_parts part is = record {
  nets = flat_map (λ (i : ModuleInstance). (part i).nets) is;
  words = flat_map (λ (i : ModuleInstance). (part i).words) is;
}

-- what an instance's own updates make of its part
abbrev pub made : (ModuleInstance → List Update) → (ModuleInstance → Values) → ModuleInstance → Values
made own part i = apply (own i) (part i)

-- the updates at an instance's seat
abbrev pub moved_own : (ModuleInstance → List Update) → Seat → List Update
moved_own own x = map (moved_update x.base.net x.base.word) (own x.instance)

regrouped : (ns ws : List ℕ) (v rest : Values)
    → after_these ns ws (with_more v rest.nets rest.words) ≡ after_these (ns ++ v.nets) (ws ++ v.words) rest
regrouped ns ws v rest =
    ap (λ xs. record { nets = xs; words = ws ++ (v.words ++ rest.words) }) (sym (append_assoc ns v.nets rest.nets))
    ∙ ap (λ xs. record { nets = ns ++ v.nets ++ rest.nets; words = xs }) (sym (append_assoc ws v.words rest.words))

module _ (own : ModuleInstance → List Update) (inside : (i : ModuleInstance) → AreIn (names_at i.scope 0) (own i))
    (part : ModuleInstance → Values) (are : AreOwn part) where
  one_made : (net word : ℕ) (i : ModuleInstance) (rest : Values) (ns ws : List ℕ) → length ns ≡ net → length ws ≡ word
      → apply (map (moved_update net word) (own i)) (after_these ns ws (with_more (part i) rest.nets rest.words))
      ≡ after_these (ns ++ (made own part i).nets) (ws ++ (made own part i).words) rest
  one_made net word i rest ns ws before below =
      applied_behind net word ns ws before below (own i) (with_more (part i) rest.nets rest.words)
      ∙ ap (after_these ns ws) (applied_before (names_at i.scope 0) (own i) (part i) rest.nets rest.words (inside i) (are.long i))
      ∙ regrouped ns ws (made own part i) rest

  nets_before : (net : ℕ) (i : ModuleInstance) (ns : List ℕ) → length ns ≡ net
      → length (ns ++ (made own part i).nets) ≡ net + length i.scope.nets
  nets_before net i ns before =
      length-append ns (made own part i).nets ∙ ap (λ n. n + length (made own part i).nets) before
      ∙ ap (λ n. net + n) ((applied_long (own i) (part i)).0 ∙ are.nets i)

  words_before : (word : ℕ) (i : ModuleInstance) (ws : List ℕ) → length ws ≡ word
      → length (ws ++ (made own part i).words) ≡ word + words_of i.scope.memories
  words_before word i ws below =
      length-append ws (made own part i).words ∙ ap (λ n. n + length (made own part i).words) below
      ∙ ap (λ n. word + n) ((applied_long (own i) (part i)).1 ∙ are.words i)

  from_here : (number net word : ℕ) (is : List ModuleInstance) (ns ws : List ℕ) → length ns ≡ net → length ws ≡ word
      → apply (flat_map (moved_own own) (seats_from number net word is)) (after_these ns ws (all_parts part is))
      ≡ after_these ns ws (all_parts (made own part) is)
  from_here number net word [] ns ws before below = refl
  from_here number net word (i ∷ is) ns ws before below =
      let later : List Update =
      flat_map (moved_own own) (seats_from (number + 1) (net + length i.scope.nets) (word + words_of i.scope.memories) is) in
      apply_both (map (moved_update net word) (own i)) later (after_these ns ws (all_parts part (i ∷ is)))
      ∙ ap (apply later) (one_made net word i (all_parts part is) ns ws before below)
      ∙ from_here (number + 1) (net + length i.scope.nets) (word + words_of i.scope.memories) is (ns ++ (made own part i).nets)
      (ws ++ (made own part i).words) (nets_before net i ns before) (words_before word i ws below)
      ∙ sym (regrouped ns ws (made own part i) (all_parts (made own part) is))

  -- making the updates of all instances at their seats makes those of each in its own part
  pub all_made : (is : List ModuleInstance)
      → apply (flat_map (moved_own own) (seats_from 0 0 0 is)) (all_parts part is) ≡ all_parts (made own part) is
  all_made is = from_here 0 0 0 is [] [] refl refl
