-- States and settled lists of the flat design of a file, as maps from full names to numbers.
use Rattle.std.proofs.Common.{◌≡◌, ℕ, zero, suc, ◌+◌, ◌-◌, ◌<◌, ◌≤◌, ◌^◌, Bool, true, false, if◌then◌else◌, nat_lt, List, [], ◌∷◌}
use Rattle.std.proofs.Common.{◌++◌, map, length, take, get_or, slice_get, Some, ⊎_elim, inl, inr, refl, sym, ap, ◌∙◌, subst, arith}
use Rattle.std.specs.List.{flat_map, sum_by}
use Rattle.std.proofs.lemmas.Bool.{cases_lt}
use Rattle.std.proofs.lemmas.List.{map-append}
use Rattle.std.proofs.lemmas.List.Sums.{sum_by-cons}
use Rattle.std.proofs.lemmas.Bool.Decides.{nat_tests}
use Rattle.std.proofs.lemmas.List.Elements.{recursion_from_All}
use Rattle.std.proofs.lemmas.Nat.{pow_pos}
use Rattle.std.proofs.Math.Nat.{pow-le-pow_right}
use Rattle.vlog_tree.specs.Tree.{ModuleOf, FileOf}
use Rattle.vlog_design.specs.vlog_elab.Instances.{instances}
use Rattle.vlog_design.specs.vlog_elab.Reasons.{Clear}
use Rattle.vlog_design.specs.vlog_size.declared.scope.ScopeMemory.{ScopeMemory}
use Rattle.vlog_design.specs.vlog_size.Table.{Named}
use Rattle.net_design.specs.declared.design.DesignMemory.{DesignMemory}
use Rattle.net_design.specs.declared.design.Design.{Design}
use Rattle.net_design.specs.declared.values.Values.{Values}
use Rattle.net_design.specs.Lawful.{IsLawful, IsState}
use Rattle.net_design.specs.Settled.{word_count}
use Rattle.shim_step.specs.vlog_driver.Names.{Full, State, words_from}
use Rattle.vlog_design.specs.flat_parts.Built.{IsBuilt}
use Rattle.vlog_design.specs.flat_parts.Laws.{IsTop}
use Rattle.vlog_design.specs.flat_parts.Meaning.{memory_words, values_of, state_of, AreNarrow}
use Rattle.shim_step.specs.Maps.{IsListOf}
use Rattle.net_sim.specs.vidi_bits.Number.{IsWidth}
use Rattle.shim_step.proofs.Elements.{Has, has_contains, all_members, at_member}
use Rattle.shim_step.proofs.Maps.{lists_are_maps}
use Rattle.shim_step.proofs.Memories.{memories_differ}

-- ---- numbers of at most 128 bits
abbrev clamp_by : Bool → ℕ → ℕ
clamp_by b x = if b then x else 0

abbrev clamp : ℕ → ℕ
clamp x = clamp_by (nat_lt x (2 ^ 128)) x

below_by : (b : Bool) (x : ℕ) → nat_lt x (2 ^ 128) ≡ b → clamp_by b x < 2 ^ 128
below_by true x e = grind (arith, nat_tests, e)
below_by false x e = pow_pos 128

clamp_below : (x : ℕ) → clamp x < 2 ^ 128
clamp_below x = below_by (nat_lt x (2 ^ 128)) x refl

clamp_same : (x : ℕ) → x < 2 ^ 128 → clamp x ≡ x
clamp_same x l = let t : nat_lt x (2 ^ 128) ≡ true = grind (arith, nat_tests, l) in ap (λ b. clamp_by b x) t

words_clamp : (w : ℕ → ℕ) (k n : ℕ) → words_from (λ j. clamp (w j)) k n ≡ map clamp (words_from w k n)
words_clamp w k zero = refl
words_clamp w k (suc n) = ap (λ xs. clamp (w k) ∷ xs) (words_clamp w (suc k) n)

memories_clamp : (d : Design) (w : Full → ℕ → ℕ) (ms : List DesignMemory)
    → flat_map (memory_words d (λ f j. clamp (w f j))) ms ≡ map clamp (flat_map (memory_words d w) ms)
memories_clamp d w [] = refl
memories_clamp d w (a ∷ ms) =
    ap (λ xs. xs ++ flat_map (memory_words d (λ f j. clamp (w f j))) ms) (words_clamp (w _) 0 a.room.length)
    ∙ ap (λ xs. map clamp (memory_words d w a) ++ xs) (memories_clamp d w ms)
    ∙ sym (map-append clamp (memory_words d w a) (flat_map (memory_words d w) ms))

clamp_all : (xs : List ℕ) → ((k : ℕ) → k < length xs → get_or xs k 0 < 2 ^ 128) → map clamp xs ≡ xs
clamp_all [] h = refl
clamp_all (x ∷ xs) h =
    ap (λ y. y ∷ map clamp xs) (clamp_same x (h 0 (omega arith)))
    ∙ ap (λ ys. x ∷ ys) (clamp_all xs (λ k l. h (suc k) (omega (arith, l))))

-- each word is one of a memory
abbrev len : DesignMemory → ℕ
len a = a.room.length

room_of : (ms : List DesignMemory) (base : ℕ)
    → ((i : ℕ) (a : DesignMemory) → slice_get ms i ≡ Some a → a.room.first ≡ base + sum_by len (take i ms)) → (P : ℕ → Type 0)
    → ((a : DesignMemory) (i : ℕ) → Has ms a → i < len a → P (a.room.first + i)) → (j : ℕ) → j < sum_by len ms → P (base + j)
room_of [] base rooms P h j l = absurd (omega (arith, l))
room_of (a ∷ ms) base rooms P h j l =
    let first : a.room.first ≡ base = (let e = rooms 0 a refl in omega (arith, e)) in
    let sum : sum_by len (a ∷ ms) ≡ len a + sum_by len ms = sum_by-cons len a ms in
    ⊎_elim
    (λ (less : j < len a). subst P (ap (λ k. k + j) first) (h a j (inl refl) less))
    (λ (more : len a ≤ j).
    let here : base + len a + (j - len a) ≡ base + j = omega (arith, more) in
    subst P here
    (room_of ms (base + len a)
    (λ i b at.
    (let e = rooms (suc i) b at in
    let s : sum_by len (take (suc i) (a ∷ ms)) ≡ len a + sum_by len (take i ms) = sum_by-cons len a (take i ms) in
    omega (arith, e, s)))
    P (λ b i there less. h b i (inr there) less) (j - len a) (omega (arith, l, sum, more))))
    (cases_lt j (len a))

zero_plus : (n : ℕ) → n ≡ 0 + n
zero_plus n = omega arith

narrow_words : (d : Design) → IsLawful d → (s : Values) → IsState d s → (k : ℕ) → k < length s.words → get_or s.words k 0 < 2 ^ 128
narrow_words d law s is k l =
    let count : length s.words ≡ word_count d = is.words in
    let zero_first : 0 + k ≡ k = omega arith in
    subst (λ j. get_or s.words j 0 < 2 ^ 128) zero_first
    (room_of d.memories 0 (λ i a at. law.rooms i a at ∙ zero_plus (sum_by len (take i d.memories))) (λ j. get_or s.words j 0 < 2 ^ 128)
    (λ a i there less.
    (let fits = is.fit a i (has_contains d.memories a there) less in
    let wide = (at_member (λ (x : DesignMemory). IsWidth x.width × (1 ≤ x.room.length) × (x.instance < length d.instances)) d.memories a
    (recursion_from_All (λ (x : DesignMemory). IsWidth x.width × (1 ≤ x.room.length) × (x.instance < length d.instances)) d.memories law.memories)
    there).0 in
    let p : 2 ^ a.width ≤ 2 ^ 128 = pow-le-pow_right (omega arith) wide.1 in
    omega (arith, fits, p)))
    k (subst (λ n. k < n) count l))

-- ---- a state of the design is that of a map
pub record IsFull (d : Design) (s : Values) : Type 0 where
  pub full : State
  pub is : state_of d full ≡ s
  pub narrow : (name : Full) (k : ℕ) → full.words name k < 2 ^ 128

module _ (file : FileOf ℕ) (name : List ℕ) (top : ModuleOf ℕ) (d : Design) (clear : Clear file name) (named : IsTop file name top)
    (built : IsBuilt file.modules top (instances file name) d) (law : IsLawful d) where
  -- a list of numbers is that of a map
  pub list_of : (v : Values) → length v.nets ≡ length d.nets → length v.words ≡ word_count d → IsListOf d v
  list_of v n w = lists_are_maps d v law.names (memories_differ file name top d clear named built) n w

  pub full_of : (s : Values) → IsState d s → IsFull d s
  full_of s is =
      let m = list_of s is.nets.long is.words in
      record {
        full = record { nets = m.nets; words = λ f k. clamp (m.words f k) };
        is =
            (let same : flat_map (memory_words d (λ f k. clamp (m.words f k))) d.memories ≡ s.words =
            memories_clamp d m.words d.memories ∙ ap (map clamp) (ap (λ (v : Values). v.words) m.is)
            ∙ clamp_all s.words (narrow_words d law s is) in
            λ i. record { nets = (ap (λ (v : Values). v.nets) m.is) i; words = same i });
        narrow = λ f k. clamp_below (m.words f k);
      }

-- its words are narrow in any file
pub narrow_in : (modules : List (ModuleOf ℕ)) (top : ModuleOf ℕ) (words : Full → ℕ → ℕ) → ((name : Full) (k : ℕ) → words name k < 2 ^ 128)
    → AreNarrow modules top words
narrow_in modules top words h path m c at =
    all_members (λ (a : Named ScopeMemory). (k : ℕ) → k < a.value.length → words (path ++ a.name ∷ []) k < 2 ^ 128) c.memories
    (λ a there k less. h (path ++ a.name ∷ []) k)

-- ---- a settled list has the state's words, so it is the list of a map with these
pub record IsMapBeside (d : Design) (s : State) (v : Values) : Type 0 where
  pub nets : Full → ℕ
  pub is : values_of d nets s.words ≡ v

pub beside_state : (d : Design) (s : State) (state v : Values) → state_of d s ≡ state → v.words ≡ state.words → IsListOf d v → IsMapBeside d s v
beside_state d s state v e w m = record {
  nets = m.nets;
  is =
      (let words : flat_map (memory_words d s.words) d.memories ≡ v.words = ap (λ (u : Values). u.words) e ∙ sym w in
      λ i. record { nets = (ap (λ (u : Values). u.nets) m.is) i; words = words i });
}
