-- Numbers that fit the nets, and that have at most 128 bits.
use Rattle.std.proofs.Common.{◌≡◌, ℕ, zero, suc, ◌+◌, ◌<◌, ◌≤◌, ◌^◌, ◌↔◌, true, ◌&&◌, List, [], ◌∷◌, ◌++◌, map, length, get_or}
use Rattle.std.proofs.Common.{refl, ap, sym, subst, ◌∙◌, arith}
use Rattle.std.specs.List.{AllByRecursion, flat_map, list_all}
use Rattle.std.proofs.lemmas.List.{length-map}
use Rattle.std.proofs.lemmas.List.Elements.{recursion_from_All}
use Rattle.std.proofs.lemmas.List.Sums.{AllPass-from_list_all}
use Rattle.std.proofs.Math.Pow.{pow_mono}
use Rattle.vlog_elab.proofs.vidi_bits_lemmas.Bools.{left_of, right_of}
use Rattle.vlog_elab.proofs.vidi_bits_lemmas.Each.{then_so, each_weaker}
use Rattle.vlog_tree.specs.Tree.{ModuleOf}
use Rattle.vlog_elab.specs.vlog_size.declared.scope.ScopeNet.{ScopeNet}
use Rattle.vlog_elab.specs.vlog_size.declared.scope.ScopeMemory.{ScopeMemory}
use Rattle.vlog_elab.specs.vlog_size.declared.scope.Scope.{Scope}
use Rattle.vlog_elab.specs.vlog_size.Literal.{is_lawful}
use Rattle.vlog_elab.specs.vlog_size.Names.{are_lawful_params, is_lawful_scope}
use Rattle.vlog_elab.specs.vlog_size.Table.{Named}
use Rattle.vlog_elab.specs.vlog_scope.Scope.{words_of}
use Rattle.net_design.specs.declared.design.Design.{Design}
use Rattle.net_design.specs.declared.design.Net.{Net}
use Rattle.net_design.specs.Names.{net_names}
use Rattle.net_design.specs.Settled.{FitNets}
use Rattle.net_design.specs.Last.{IsNarrow}
use Rattle.vlog_elab.specs.Instances.{ModuleInstance}
use Rattle.vlog_driver.specs.Names.{Full, words_from}
use Rattle.flat_parts.specs.Seats.{seats_from, seats_of}
use Rattle.flat_parts.specs.Nets.{net_of, seat_nets, flat_nets}
use Rattle.flat_parts.specs.Meaning.{values_of}
use Rattle.flat_parts.specs.Laws.{numbers_of}
use Rattle.flat_parts.proofs.SettledLists.{each_flat, each_map, each_alike, at_each, below_powers, map_flat, map_map}
use Rattle.net_design.specs.declared.values.Values.{Values}

-- ---- widths in order of the nets
abbrev pub instance_widths : ModuleInstance → List ℕ
instance_widths i = map (λ (n : Named ScopeNet). n.value.width) i.scope.nets

net_widths : (number : ℕ) (ns : List (Named ScopeNet))
    → map (λ (n : Net). n.width) (map (net_of number) ns) ≡ map (λ (n : Named ScopeNet). n.value.width) ns
net_widths number ns = map_map (λ (n : Net). n.width) (net_of number) ns

widths_from : (number net word : ℕ) (is : List ModuleInstance)
    → flat_map (λ x. map (λ (n : Net). n.width) (seat_nets x)) (seats_from number net word is) ≡ flat_map instance_widths is
widths_from number net word [] = refl
widths_from number net word (i ∷ is) =
    ap (λ ws. ws ++ flat_map (λ x. map (λ (n : Net). n.width) (seat_nets x))
    (seats_from (number + 1) (net + length i.scope.nets) (word + words_of i.scope.memories) is)) (net_widths number i.scope.nets)
    ∙ ap (λ ws. instance_widths i ++ ws)
    (widths_from (number + 1) (net + length i.scope.nets) (word + words_of i.scope.memories) is)

flat_widths : (is : List ModuleInstance) → map (λ (n : Net). n.width) (flat_nets (seats_of is)) ≡ flat_map instance_widths is
unfolding flat_nets seats_of
flat_widths is = map_flat (λ (n : Net). n.width) seat_nets (seats_of is) ∙ widths_from 0 0 0 is

-- ---- numbers beside widths
module _ (v : Full → ℕ) where
  -- the numbers of an instance's nets fit them
  abbrev pub FitAt : Full → ModuleOf ℕ → Scope → Type 0
  FitAt path m s = AllByRecursion (λ (n : Named ScopeNet). v (path ++ n.name ∷ []) < 2 ^ n.value.width) s.nets

  abbrev pub FitOf : ModuleInstance → Type 0
  FitOf i = FitAt i.path i.tree i.scope

  abbrev pair_of : ModuleInstance → Named ScopeNet → ℕ × ℕ
  pair_of i n = (v (i.path ++ n.name ∷ []), n.value.width)

  abbrev pairs_of : ModuleInstance → List (ℕ × ℕ)
  pairs_of i = map (pair_of i) i.scope.nets

  abbrev IsBelow : ℕ × ℕ → Type 0
  IsBelow p = p.0 < 2 ^ p.1

  numbers_paired : (is : List ModuleInstance)
      → map (λ (p : ℕ × ℕ). p.0) (flat_map pairs_of is)
      ≡ flat_map (λ (i : ModuleInstance). map (λ (n : Named ScopeNet). v (i.path ++ n.name ∷ [])) i.scope.nets) is
  numbers_paired [] = refl
  numbers_paired (i ∷ is) =
      map_flat (λ (p : ℕ × ℕ). p.0) pairs_of (i ∷ is)
      ∙ ap (λ ys. ys ++ flat_map (λ j. map (λ (p : ℕ × ℕ). p.0) (pairs_of j)) is) (map_map (λ (p : ℕ × ℕ). p.0) (pair_of i) i.scope.nets)
      ∙ ap (λ ys. map (λ (n : Named ScopeNet). v (i.path ++ n.name ∷ [])) i.scope.nets ++ ys)
      (sym (map_flat (λ (p : ℕ × ℕ). p.0) pairs_of is) ∙ numbers_paired is)

  widths_paired : (is : List ModuleInstance) → map (λ (p : ℕ × ℕ). p.1) (flat_map pairs_of is) ≡ flat_map instance_widths is
  widths_paired [] = refl
  widths_paired (i ∷ is) =
      map_flat (λ (p : ℕ × ℕ). p.1) pairs_of (i ∷ is)
      ∙ ap (λ ys. ys ++ flat_map (λ j. map (λ (p : ℕ × ℕ). p.1) (pairs_of j)) is) (map_map (λ (p : ℕ × ℕ). p.1) (pair_of i) i.scope.nets)
      ∙ ap (λ ys. instance_widths i ++ ys) (sym (map_flat (λ (p : ℕ × ℕ). p.1) pairs_of is) ∙ widths_paired is)

  -- each number of a list is below 2 to the power of the width there
  abbrev Below : List ℕ → List ℕ → Type 0
  Below xs ws = (m : ℕ) → get_or xs m 0 < 2 ^ get_or ws m 0

  each_below : (is : List ModuleInstance)
      → Below (map (λ (p : ℕ × ℕ). p.0) (flat_map pairs_of is)) (map (λ (p : ℕ × ℕ). p.1) (flat_map pairs_of is))
      ↔ AllByRecursion FitOf is
  each_below is =
      then_so (below_powers (λ (p : ℕ × ℕ). p.0) (λ (p : ℕ × ℕ). p.1) (flat_map pairs_of is))
      (then_so (each_flat IsBelow pairs_of is)
      (each_alike (λ i. AllByRecursion IsBelow (pairs_of i)) FitOf is (λ i c. each_map IsBelow (pair_of i) i.scope.nets)))

  below_alike : (words : Full → ℕ → ℕ) (is : List ModuleInstance)
      → Below (numbers_of v words is).nets (flat_map instance_widths is) ↔ AllByRecursion FitOf is
  below_alike words is =
      subst (λ xs. Below xs (flat_map instance_widths is) ↔ AllByRecursion FitOf is) (numbers_paired is)
      (subst (λ ws. Below (map (λ (p : ℕ × ℕ). p.0) (flat_map pairs_of is)) ws ↔ AllByRecursion FitOf is) (widths_paired is)
      (each_below is))

  -- the numbers fit the design's nets where they fit those of each instance
  pub fit_alike : (words : Full → ℕ → ℕ) (is : List ModuleInstance) (d : Design) → d.nets ≡ flat_nets (seats_of is)
      → values_of d v words ≡ numbers_of v words is
      → FitNets d (values_of d v words).nets ↔ AllByRecursion FitOf is
  fit_alike words is d nets numbers =
      let widths : map (λ (n : Net). n.width) d.nets ≡ flat_map instance_widths is =
      ap (map (λ (n : Net). n.width)) nets ∙ flat_widths is in
      let alike : Below (values_of d v words).nets (map (λ (n : Net). n.width) d.nets) ↔ AllByRecursion FitOf is =
      subst (λ ws. Below (values_of d v words).nets ws ↔ AllByRecursion FitOf is) (sym widths)
      (subst (λ (u : Values). Below u.nets (flat_map instance_widths is) ↔ AllByRecursion FitOf is) (sym numbers)
      (below_alike words is)) in
      let long : length (values_of d v words).nets ≡ length d.nets = length-map (net_names d) v ∙ length-map d.nets _ in
      ((λ h. alike.0 h.each), (λ h. record { long = long; each = alike.1 h }))

-- ---- at most 128 bits
abbrev pub Narrow : ℕ → Type 0
Narrow x = x < 2 ^ 128

-- the words of an instance's memories have at most 128 bits
abbrev pub NarrowAt : (Full → ℕ → ℕ) → Full → ModuleOf ℕ → Scope → Type 0
NarrowAt words path m s =
    AllByRecursion (λ (a : Named ScopeMemory). (k : ℕ) → k < a.value.length → Narrow (words (path ++ a.name ∷ []) k)) s.memories

lawful_width : (w : ℕ) → is_lawful w ≡ true → w ≤ 128
lawful_width w h = grind arith

fits_narrow : (x w : ℕ) → w ≤ 128 → x < 2 ^ w → x < 2 ^ 128
fits_narrow x w l h = let p : 2 ^ w ≤ 2 ^ 128 = pow_mono l in omega (arith, p, h)

abbrev pub IsLawfulOf : ModuleInstance → Type 0
IsLawfulOf i = is_lawful_scope i.scope ≡ true

lawful_nets : (s : Scope) → is_lawful_scope s ≡ true → AllByRecursion (λ (n : Named ScopeNet). n.value.width ≤ 128) s.nets
lawful_nets s h =
    let nets = list_all (λ (n : Named ScopeNet). is_lawful n.value.width) s.nets in
    let memories = list_all (λ (m : Named ScopeMemory). is_lawful m.value.width) s.memories in
    each_weaker (λ (n : Named ScopeNet). is_lawful n.value.width ≡ true) (λ n. n.value.width ≤ 128)
    (λ n l. lawful_width n.value.width l) s.nets
    (recursion_from_All (λ (n : Named ScopeNet). is_lawful n.value.width ≡ true) s.nets
    (AllPass-from_list_all (λ (n : Named ScopeNet). is_lawful n.value.width) s.nets
    (left_of nets memories (right_of (are_lawful_params s.params) (nets && memories) h))))

lawful_memories : (s : Scope) → is_lawful_scope s ≡ true → AllByRecursion (λ (a : Named ScopeMemory). a.value.width ≤ 128) s.memories
lawful_memories s h =
    let nets = list_all (λ (n : Named ScopeNet). is_lawful n.value.width) s.nets in
    let memories = list_all (λ (m : Named ScopeMemory). is_lawful m.value.width) s.memories in
    each_weaker (λ (a : Named ScopeMemory). is_lawful a.value.width ≡ true) (λ a. a.value.width ≤ 128)
    (λ a l. lawful_width a.value.width l) s.memories
    (recursion_from_All (λ (a : Named ScopeMemory). is_lawful a.value.width ≡ true) s.memories
    (AllPass-from_list_all (λ (a : Named ScopeMemory). is_lawful a.value.width) s.memories
    (right_of nets memories (right_of (are_lawful_params s.params) (nets && memories) h))))

-- both at each element
pub both_each : {X : Type 0} (P Q R : X → Type 0) → ((x : X) → P x → Q x → R x) → (xs : List X) → AllByRecursion P xs
    → AllByRecursion Q xs → AllByRecursion R xs
both_each P Q R h [] a b = tt
both_each P Q R h (x ∷ xs) a b = (h x a.0 b.0, both_each P Q R h xs a.1 b.1)

words_narrow : (word : ℕ → ℕ) (k n : ℕ) → ((j : ℕ) → j < k + n → Narrow (word j)) → AllByRecursion Narrow (words_from word k n)
words_narrow word k zero h = tt
words_narrow word k (suc n) h = (h k (omega arith), words_narrow word (suc k) n (λ j l. h j (omega (arith, l))))

-- words that fit their memories
pub memory_narrow : (words : Full → ℕ → ℕ) (path : Full) (m : ModuleOf ℕ) (s : Scope) → is_lawful_scope s ≡ true
    → AllByRecursion (λ (a : Named ScopeMemory). (k : ℕ) → k < a.value.length → words (path ++ a.name ∷ []) k < 2 ^ a.value.width)
    s.memories → NarrowAt words path m s
memory_narrow words path m s lawful h =
    both_each (λ (a : Named ScopeMemory). a.value.width ≤ 128)
    (λ (a : Named ScopeMemory). (k : ℕ) → k < a.value.length → words (path ++ a.name ∷ []) k < 2 ^ a.value.width)
    (λ (a : Named ScopeMemory). (k : ℕ) → k < a.value.length → Narrow (words (path ++ a.name ∷ []) k))
    (λ a l f k less. fits_narrow (words (path ++ a.name ∷ []) k) a.value.width l (f k less)) s.memories (lawful_memories s lawful) h

module _ (v : Full → ℕ) (words : Full → ℕ → ℕ) where
  abbrev pub NarrowOf : ModuleInstance → Type 0
  NarrowOf i = NarrowAt words i.path i.tree i.scope

  nets_narrow : (i : ModuleInstance) → IsLawfulOf i → FitOf v i
      → AllByRecursion Narrow (map (λ (n : Named ScopeNet). v (i.path ++ n.name ∷ [])) i.scope.nets)
  nets_narrow i l h =
      (each_map Narrow (λ (n : Named ScopeNet). v (i.path ++ n.name ∷ [])) i.scope.nets).1
      (both_each (λ (n : Named ScopeNet). n.value.width ≤ 128) (λ (n : Named ScopeNet). v (i.path ++ n.name ∷ []) < 2 ^ n.value.width)
      (λ (n : Named ScopeNet). Narrow (v (i.path ++ n.name ∷ [])))
      (λ n w f. fits_narrow (v (i.path ++ n.name ∷ [])) n.value.width w f) i.scope.nets (lawful_nets i.scope l) h)

  memories_narrow : (i : ModuleInstance) → NarrowOf i
      → AllByRecursion Narrow
      (flat_map (λ (m : Named ScopeMemory). words_from (words (i.path ++ m.name ∷ [])) 0 m.value.length) i.scope.memories)
  memories_narrow i h =
      (each_flat Narrow (λ (m : Named ScopeMemory). words_from (words (i.path ++ m.name ∷ [])) 0 m.value.length) i.scope.memories).1
      (each_weaker (λ (a : Named ScopeMemory). (k : ℕ) → k < a.value.length → Narrow (words (i.path ++ a.name ∷ []) k))
      (λ (m : Named ScopeMemory). AllByRecursion Narrow (words_from (words (i.path ++ m.name ∷ [])) 0 m.value.length))
      (λ a f. words_narrow (words (i.path ++ a.name ∷ [])) 0 a.value.length (λ j l. f j (omega (arith, l)))) i.scope.memories h)

  -- numbers that fit the nets, with words of at most 128 bits, have at most 128 bits
  pub numbers_narrow : (is : List ModuleInstance) → AllByRecursion IsLawfulOf is → AllByRecursion (FitOf v) is
      → AllByRecursion NarrowOf is → IsNarrow (numbers_of v words is)
  numbers_narrow is lawful fit narrow = record {
    nets = λ m. at_each Narrow (numbers_of v words is).nets m 0 (omega arith)
        ((each_flat Narrow (λ (i : ModuleInstance). map (λ (n : Named ScopeNet). v (i.path ++ n.name ∷ [])) i.scope.nets) is).1
        (both_each IsLawfulOf (FitOf v)
        (λ (i : ModuleInstance). AllByRecursion Narrow (map (λ (n : Named ScopeNet). v (i.path ++ n.name ∷ [])) i.scope.nets))
        nets_narrow is lawful fit));
    words = λ m. at_each Narrow (numbers_of v words is).words m 0 (omega arith)
        ((each_flat Narrow (λ (i : ModuleInstance). flat_map
        (λ (m : Named ScopeMemory). words_from (words (i.path ++ m.name ∷ [])) 0 m.value.length) i.scope.memories) is).1
        (each_weaker NarrowOf (λ (i : ModuleInstance). AllByRecursion Narrow (flat_map
        (λ (m : Named ScopeMemory). words_from (words (i.path ++ m.name ∷ [])) 0 m.value.length) i.scope.memories)) memories_narrow is
        narrow));
  }
