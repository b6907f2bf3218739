-- What a name is, is within the instance's nets and words.
use Rattle.std.proofs.Common.{◌≡◌, ℕ, suc, ◌+◌, ◌<◌, ◌≤◌, not, Bool, true, false, cond, if◌then◌else◌}
use Rattle.std.proofs.Common.{List, [], ◌∷◌, length, Option, Some, None, refl, ap, sym, subst, arith}
use Rattle.std.specs.List.{position_or_len}
use Rattle.std.specs.Str.{bytes_eq}
use Rattle.std.proofs.lemmas.Bool.{lt-ltb}
use Rattle.vlog_names.proofs.vidi_bits_lemmas.Lists.{some_same}
use Rattle.vlog_names.specs.vlog_size.declared.scope.Param.{Param}
use Rattle.vlog_names.specs.vlog_size.declared.scope.ScopeNet.{ScopeNet}
use Rattle.vlog_names.specs.vlog_size.declared.scope.ScopeMemory.{ScopeMemory}
use Rattle.vlog_names.specs.vlog_size.Names.{Readable}
use Rattle.vlog_names.specs.vlog_size.Size.{or_zero}
use Rattle.vlog_names.specs.vlog_size.Table.{Named, value_of, place_of}
use Rattle.vlog_block.specs.declared.source.Source.{Source}
use Rattle.vlog_block.specs.declared.source.Source.TheVariants.{Net, Memory, Nothing}
use Rattle.vlog_block.specs.Sources.{source_of, words_before, or_constant, or_source, net_source, memory_source, memory_named}
use Rattle.vlog_driver.specs.Own.{word_total}

-- within so many nets and words
abbrev pub SourceIn : ℕ → ℕ → Source → Type 0
SourceIn n k (Net span) = span.net < n
SourceIn n k (Memory room width) = room.first + room.length ≤ k
SourceIn n k _ = Unit {0}

-- the place of a name in a list
abbrev place : {V : Type 0} → List (Named V) → List ℕ → ℕ
place xs name = position_or_len (λ x. bytes_eq name x.name) xs

next_below : (p n : ℕ) → p < n → 1 + p < suc n
next_below p n h = omega (arith, h)

none_is : {V : Type 0} (x : V) → None ≡ Some x → ⊥
none_is x h = (cc)

below_by : {V : Type 0} (y : Named V) (xs : List (Named V)) (name : List ℕ) (x : V) (b : Bool)
    → (value_of xs name ≡ Some x → place xs name < length xs) → (if b then Some y.value else value_of xs name) ≡ Some x
    → cond (not b) (1 + place xs name) 0 < length (y ∷ xs)
below_by y xs name x true more h = omega arith
below_by y xs name x false more h = next_below (place xs name) (length xs) (more h)

below : {V : Type 0} (xs : List (Named V)) (name : List ℕ) (x : V) → value_of xs name ≡ Some x → place xs name < length xs
below [] name x h = absurd (none_is x h)
below (y ∷ xs) name x h = below_by y xs name x (bytes_eq name y.name) (λ e. below xs name x e) h

found : {V : Type 0} (xs : List (Named V)) (name : List ℕ) (x : V) → value_of xs name ≡ Some x → or_zero (place_of xs name) ≡ place xs name
found xs name x h =
    ap (λ b. or_zero (cond b (Some (place xs name)) None)) (lt-ltb (place xs name) (length xs) (below xs name x h))

-- ---- the words of a memory
first_words : (x : Named ScopeMemory) (xs : List (Named ScopeMemory)) (m : ScopeMemory) → x.value ≡ m
    → words_before (x ∷ xs) 0 + m.length ≤ x.value.length + words_before xs (length xs)
first_words x xs m h = let e : x.value.length ≡ m.length = ap (λ (y : ScopeMemory). y.length) h in omega (arith, e)

later_words : (x : Named ScopeMemory) (xs : List (Named ScopeMemory)) (p n : ℕ) → words_before xs p + n ≤ words_before xs (length xs)
    → words_before (x ∷ xs) (1 + p) + n ≤ x.value.length + words_before xs (length xs)
later_words x xs p n h =
    let e : 1 + p ≡ suc p = omega arith in
    subst (λ i. words_before (x ∷ xs) i + n ≤ x.value.length + words_before xs (length xs)) (sym e) (omega (arith, h))

room_by : (x : Named ScopeMemory) (xs : List (Named ScopeMemory)) (name : List ℕ) (m : ScopeMemory) (b : Bool)
    → (value_of xs name ≡ Some m → words_before xs (place xs name) + m.length ≤ words_before xs (length xs))
    → (if b then Some x.value else value_of xs name) ≡ Some m
    → words_before (x ∷ xs) (cond (not b) (1 + place xs name) 0) + m.length ≤ x.value.length + words_before xs (length xs)
room_by x xs name m true more h = first_words x xs m (some_same x.value m h)
room_by x xs name m false more h = later_words x xs (place xs name) m.length (more h)

room_in : (xs : List (Named ScopeMemory)) (name : List ℕ) (m : ScopeMemory) → value_of xs name ≡ Some m
    → words_before xs (place xs name) + m.length ≤ words_before xs (length xs)
room_in [] name m h = absurd (none_is m h)
room_in (x ∷ xs) name m h = room_by x xs name m (bytes_eq name x.name) (λ e. room_in xs name m e) h

-- ---- names
module _ (r : Readable) where
  memory_in : (name : List ℕ) (v : Option ScopeMemory) → value_of r.memories name ≡ v
      → SourceIn (length r.nets) (word_total r) (or_source (memory_source r.memories) (place_of r.memories name) v Nothing)
  memory_in name None e = tt
  memory_in name (Some m) e =
      subst (λ p. words_before r.memories p + m.length ≤ word_total r) (sym (found r.memories name m e)) (room_in r.memories name m e)

  place_in : (name : List ℕ) (p : Option Param) (v : Option ScopeNet) → value_of r.nets name ≡ v
      → SourceIn (length r.nets) (word_total r)
      (or_constant p (or_source net_source (place_of r.nets name) v (memory_named r.memories name)))
  place_in name (Some p) v e = tt
  place_in name None None e = memory_in name (value_of r.memories name) refl
  place_in name None (Some n) e = subst (λ p. p < length r.nets) (sym (found r.nets name n e)) (below r.nets name n e)

  pub source_in : (name : List ℕ) → SourceIn (length r.nets) (word_total r) (source_of r name)
  source_in name = place_in name (value_of r.params name) (value_of r.nets name) refl
