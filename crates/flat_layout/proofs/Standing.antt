-- Each instance's numbers stand from its seat's places on.
use Rattle.std.proofs.Common.{◌≡◌, ℕ, ◌+◌, ◌<◌, ◌≤◌, List, [], ◌∷◌, ◌++◌, length, drop, refl, sym, ap, subst, ◌∙◌, arith}
use Rattle.std.proofs.Common.{length-append, slice_index}
use Rattle.std.specs.List.{flat_map}
use Rattle.std.proofs.lemmas.List.{length-map, get_or_append_left}
use Rattle.std.proofs.lemmas.List.Recursion.{is_sum_by}
use Rattle.flat_layout.proofs.Counted.{own_length}
use Rattle.flat_parts.proofs.vlog_driver_lemmas.Words.{length-words}
use Rattle.flat_parts.specs.vlog_size.declared.scope.ScopeMemory.{ScopeMemory}
use Rattle.flat_parts.specs.vlog_size.declared.scope.ScopeNet.{ScopeNet}
use Rattle.flat_parts.specs.vlog_size.Table.{Named}
use Rattle.flat_parts.specs.vlog_scope.Scope.{words_of}
use Rattle.flat_parts.specs.vlog_block.Sources.{words_before}
use Rattle.flat_parts.specs.vlog_elab.Instances.{ModuleInstance}
use Rattle.flat_parts.specs.vlog_driver.Names.{Full, words_from, numbers_at}
use Rattle.flat_parts.specs.vlog_driver.Placed.{names_at}
use Rattle.flat_parts.specs.vlog_driver.Own.{word_total}
use Rattle.flat_parts.specs.vlog_driver.Held.{StandsAt}
use Rattle.flat_parts.specs.Seats.{Seat, site_at}
use Rattle.flat_parts.specs.Laws.{numbers_of, SeatsStand}
use Rattle.flat_layout.proofs.Split.{net_count, word_count, IsBehind, seat_behind, piece_count, left_behind}

-- ---- words

-- the words of memories, as the words before the place past the last
pub words_before_end : (ms : List (Named ScopeMemory)) → words_before ms (length ms) ≡ words_of ms
words_before_end ms = is_sum_by (λ (l : List (Named ScopeMemory)). words_before l (length l)) own_length refl (λ _ _. refl) ms

abbrev words_in : (Named ScopeMemory → ℕ → ℕ) → List (Named ScopeMemory) → List ℕ
words_in word ms = flat_map (λ (m : Named ScopeMemory). words_from (word m) 0 m.value.length) ms

more_words : (word : Named ScopeMemory → ℕ → ℕ) (m : Named ScopeMemory) (ms : List (Named ScopeMemory))
    → length (words_in word (m ∷ ms)) ≡ m.value.length + length (words_in word ms)
more_words word m ms =
    length-append (words_from (word m) 0 m.value.length) (words_in word ms)
    ∙ ap (λ n. n + length (words_in word ms)) (length-words (word m) 0 m.value.length)

pub all_words : (word : Named ScopeMemory → ℕ → ℕ) (ms : List (Named ScopeMemory)) → length (words_in word ms) ≡ words_of ms
all_words word ms = is_sum_by (λ (l : List (Named ScopeMemory)). length (words_in word l)) own_length refl (more_words word) ms

-- ---- the numbers of one instance among all

-- a list that begins with these n numbers
pub record Begins (n : ℕ) (all own : List ℕ) : Type 0 where
  pub long : n ≤ length all
  pub own_long : n ≤ length own
  pub same : (k : ℕ) → k < n → slice_index all k ≡ slice_index own k

begins : (n : ℕ) (all own rest : List ℕ) → all ≡ own ++ rest → length own ≡ n → Begins n all own
begins n all own rest whole long = record {
  long =
      let l : length all ≡ length own + length rest = ap (λ (x : List ℕ). length x) whole ∙ length-append own rest in
      omega (arith, l, long);
  own_long = omega (arith, long);
  same = λ k below. ap (λ (x : List ℕ). slice_index x k) whole ∙ get_or_append_left own rest 0 k (omega (arith, below, long));
}

module _ (nets : Full → ℕ) (words : Full → ℕ → ℕ) where
  abbrev own_nets : ModuleInstance → List ℕ
  own_nets i = (numbers_at nets words i.path i.scope).nets

  abbrev own_words : ModuleInstance → List ℕ
  own_words i = (numbers_at nets words i.path i.scope).words

  nets_long : (i : ModuleInstance) → length (own_nets i) ≡ length i.scope.nets
  nets_long i = length-map i.scope.nets (λ (n : Named ScopeNet). nets (i.path ++ n.name ∷ []))

  words_long : (i : ModuleInstance) → length (own_words i) ≡ words_of i.scope.memories
  words_long i = all_words (λ (m : Named ScopeMemory). words (i.path ++ m.name ∷ [])) i.scope.memories

  nets_stand : (is front rest : List ModuleInstance) (x : Seat) → IsBehind 0 0 0 is x front rest
      → Begins (length x.instance.scope.nets) (drop x.base.net (flat_map own_nets is)) (own_nets x.instance)
  nets_stand is front rest x h =
      begins (length x.instance.scope.nets) (drop x.base.net (flat_map own_nets is)) (own_nets x.instance) (flat_map own_nets rest)
      (left_behind own_nets is front rest x.instance x.base.net h.whole
      (let e : length (flat_map own_nets front) ≡ net_count front =
      piece_count own_nets (λ (i : ModuleInstance). length i.scope.nets) net_count nets_long refl (λ _ _. refl) front in
      let n = h.net in omega (arith, e, n)))
      (nets_long x.instance)

  words_stand : (is front rest : List ModuleInstance) (x : Seat) → IsBehind 0 0 0 is x front rest
      → Begins (words_of x.instance.scope.memories) (drop x.base.word (flat_map own_words is)) (own_words x.instance)
  words_stand is front rest x h =
      begins (words_of x.instance.scope.memories) (drop x.base.word (flat_map own_words is)) (own_words x.instance) (flat_map own_words rest)
      (left_behind own_words is front rest x.instance x.base.word h.whole
      (let e : length (flat_map own_words front) ≡ word_count front =
      piece_count own_words (λ (i : ModuleInstance). words_of i.scope.memories) word_count words_long refl (λ _ _. refl) front in
      let n = h.word in omega (arith, e, n)))
      (words_long x.instance)

  stand : (is : List ModuleInstance) (x : Seat) (k : ℕ) (front rest : List ModuleInstance) → IsBehind 0 0 0 is x front rest
      → StandsAt nets words x.instance.path x.instance.scope k (site_at x k) (numbers_of nets words is)
  stand is x k front rest h =
      let n = nets_stand is front rest x h in
      let w : Begins (word_total (names_at x.instance.scope k)) (drop x.base.word (flat_map own_words is)) (own_words x.instance) =
      subst (λ t. Begins t (drop x.base.word (flat_map own_words is)) (own_words x.instance))
      (sym (words_before_end x.instance.scope.memories)) (words_stand is front rest x h) in
      record {
        names = refl;
        numbers = record {
          left = record { nets = n.long; words = w.long };
          right = record { nets = n.own_long; words = w.own_long };
          nets = n.same;
          words = w.same;
        };
      }

pub seats_stand : SeatsStand
seats_stand nets words is x k there =
    let (front, rest, h) = seat_behind is x there in
    stand nets words is x k front rest h
