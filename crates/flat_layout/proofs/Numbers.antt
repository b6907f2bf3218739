-- The list of a map for the built design has the numbers of the instances, one behind the other.
use Rattle.std.proofs.Common.{◌≡◌, ℕ, suc, ◌+◌, List, [], ◌∷◌, ◌++◌, map, length, refl, ap, ◌∙◌, arith}
use Rattle.std.specs.List.{flat_map}
use Rattle.std.proofs.lemmas.Grind.{flat_map-append}
use Rattle.std.proofs.lemmas.List.{map-append}
use Rattle.vlog_tree.specs.Tree.{ModuleOf}
use Rattle.flat_parts.specs.vlog_size.declared.scope.ScopeMemory.{ScopeMemory}
use Rattle.flat_parts.specs.vlog_size.declared.scope.ScopeNet.{ScopeNet}
use Rattle.flat_parts.specs.vlog_size.Table.{Named}
use Rattle.flat_parts.specs.vlog_scope.Scope.{words_of}
use Rattle.net_design.specs.declared.design.DesignMemory.{DesignMemory}
use Rattle.net_design.specs.declared.design.Design.{Design}
use Rattle.net_design.specs.declared.design.Net.{Net}
use Rattle.net_design.specs.declared.values.Values.{Values}
use Rattle.net_design.specs.Names.{list_at, paths, net_names}
use Rattle.flat_parts.specs.vlog_elab.Instances.{ModuleInstance}
use Rattle.flat_parts.specs.vlog_driver.Names.{Full, words_from}
use Rattle.flat_parts.specs.Seats.{seats_from, seats_of}
use Rattle.flat_parts.specs.Nets.{net_of, seat_nets, flat_nets, memories_from, seat_memories, flat_memories}
use Rattle.flat_parts.specs.Built.{IsBuilt}
use Rattle.flat_parts.specs.Meaning.{values_of}
use Rattle.flat_parts.specs.Laws.{numbers_of, BuiltNumbers}

-- ---- full names

abbrev name_in : List Full → Net → Full
name_in known n = list_at known n.instance ++ n.name ∷ []

abbrev paths_of : List ModuleInstance → List Full
paths_of is = map (λ (i : ModuleInstance). i.path) is

-- what F is at the full names of an instance's nets
abbrev pub at_names : {X : Type 0} → (Full → X) → ModuleInstance → List X
at_names F i = map (λ (n : Named ScopeNet). F (i.path ++ n.name ∷ [])) i.scope.nets

-- the paths from this number on are those of these instances
abbrev AreFrom : List Full → ℕ → List ModuleInstance → Type 0
AreFrom known number is = (j : ℕ) → list_at known (number + j) ≡ list_at (paths_of is) j

first_path : (known : List Full) (number : ℕ) (i : ModuleInstance) (is : List ModuleInstance) → AreFrom known number (i ∷ is)
    → list_at known number ≡ i.path
first_path known number i is h = let e : number ≡ number + 0 = omega arith in ap (λ k. list_at known k) e ∙ h 0

later_paths : (known : List Full) (number : ℕ) (i : ModuleInstance) (is : List ModuleInstance) → AreFrom known number (i ∷ is)
    → AreFrom known (number + 1) is
later_paths known number i is h j = let e : number + 1 + j ≡ number + suc j = omega arith in ap (λ k. list_at known k) e ∙ h (suc j)

all_paths : (is : List ModuleInstance) → AreFrom (paths_of is) 0 is
all_paths is j = let e : 0 + j ≡ j = omega arith in ap (λ k. list_at (paths_of is) k) e

module _ {X : Type 0} (F : Full → X) (known : List Full) where
  own_names : (number : ℕ) (ns : List (Named ScopeNet)) → map F (map (name_in known) (map (net_of number) ns))
      ≡ map (λ (n : Named ScopeNet). F (list_at known number ++ n.name ∷ [])) ns
  own_names number [] = refl
  own_names number (n ∷ ns) = ap (λ (l : List X). F (list_at known number ++ n.name ∷ []) ∷ l) (own_names number ns)

  seat_names : (number : ℕ) (i : ModuleInstance) → list_at known number ≡ i.path
      → map F (map (name_in known) (map (net_of number) i.scope.nets)) ≡ at_names F i
  seat_names number i e =
      own_names number i.scope.nets ∙ ap (λ (p : Full). map (λ (n : Named ScopeNet). F (p ++ n.name ∷ [])) i.scope.nets) e

  names_from : (number net word : ℕ) (is : List ModuleInstance) → AreFrom known number is
      → map F (map (name_in known) (flat_map seat_nets (seats_from number net word is))) ≡ flat_map (at_names F) is
  names_from number net word [] h = refl
  names_from number net word (i ∷ is) h =
      let rest : List Net =
      flat_map seat_nets (seats_from (number + 1) (net + length i.scope.nets) (word + words_of i.scope.memories) is) in
      let own : List Net = map (net_of number) i.scope.nets in
      ap (λ (l : List Full). map F l) (map-append (name_in known) own rest)
      ∙ (map-append F (map (name_in known) own) (map (name_in known) rest)
      ∙ (ap (λ (l : List X). l ++ map F (map (name_in known) rest)) (seat_names number i (first_path known number i is h))
      ∙ ap (λ (l : List X). at_names F i ++ l)
      (names_from (number + 1) (net + length i.scope.nets) (word + words_of i.scope.memories) is (later_paths known number i is h))))

  pub flat_names : (is : List ModuleInstance) → AreFrom known 0 is
      → map F (map (name_in known) (flat_nets (seats_of is))) ≡ flat_map (at_names F) is
  unfolding flat_nets seats_of
  flat_names is h = names_from 0 0 0 is h

pub built_names : {X : Type 0} (F : Full → X) (file : List (ModuleOf ℕ)) (top : ModuleOf ℕ) (is : List ModuleInstance) (d : Design)
    → IsBuilt file top is d → map F (net_names d) ≡ flat_map (at_names F) is
built_names F file top is d h =
    ap (λ (l : List Full). map F (map (name_in l) d.nets)) h.paths
    ∙ (ap (λ (ns : List Net). map F (map (name_in (paths_of is)) ns)) h.nets ∙ flat_names F (paths_of is) is (all_paths is))

-- ---- words

module _ (words : Full → ℕ → ℕ) (known : List Full) where
  abbrev words_in : DesignMemory → List ℕ
  words_in a = words_from (words (list_at known a.instance ++ a.name ∷ [])) 0 a.room.length

  abbrev memory_at : Full → Named ScopeMemory → List ℕ
  memory_at path m = words_from (words (path ++ m.name ∷ [])) 0 m.value.length

  abbrev words_at : ModuleInstance → List ℕ
  words_at i = flat_map (memory_at i.path) i.scope.memories

  own_words : (number word : ℕ) (ms : List (Named ScopeMemory)) → flat_map words_in (memories_from number word ms)
      ≡ flat_map (memory_at (list_at known number)) ms
  own_words number word [] = refl
  own_words number word (m ∷ ms) =
      ap (λ (l : List ℕ). memory_at (list_at known number) m ++ l) (own_words number (word + m.value.length) ms)

  seat_words : (number word : ℕ) (i : ModuleInstance) → list_at known number ≡ i.path
      → flat_map words_in (memories_from number word i.scope.memories) ≡ words_at i
  seat_words number word i e =
      own_words number word i.scope.memories ∙ ap (λ (p : Full). flat_map (memory_at p) i.scope.memories) e

  words_from_seats : (number net word : ℕ) (is : List ModuleInstance) → AreFrom known number is
      → flat_map words_in (flat_map seat_memories (seats_from number net word is)) ≡ flat_map words_at is
  words_from_seats number net word [] h = refl
  words_from_seats number net word (i ∷ is) h =
      let rest : List DesignMemory =
      flat_map seat_memories (seats_from (number + 1) (net + length i.scope.nets) (word + words_of i.scope.memories) is) in
      let own : List DesignMemory = memories_from number word i.scope.memories in
      flat_map-append words_in own rest
      ∙ (ap (λ (l : List ℕ). l ++ flat_map words_in rest) (seat_words number word i (first_path known number i is h))
      ∙ ap (λ (l : List ℕ). words_at i ++ l)
      (words_from_seats (number + 1) (net + length i.scope.nets) (word + words_of i.scope.memories) is (later_paths known number i is h)))

  flat_words : (is : List ModuleInstance) → AreFrom known 0 is
      → flat_map words_in (flat_memories (seats_of is)) ≡ flat_map words_at is
  unfolding flat_memories seats_of
  flat_words is h = words_from_seats 0 0 0 is h

built_words : (words : Full → ℕ → ℕ) (file : List (ModuleOf ℕ)) (top : ModuleOf ℕ) (is : List ModuleInstance) (d : Design)
    → IsBuilt file top is d → flat_map (words_in words (paths d.instances)) d.memories ≡ flat_map (words_at words (paths_of is)) is
built_words words file top is d h =
    ap (λ (l : List Full). flat_map (words_in words l) d.memories) h.paths
    ∙ (ap (λ (ms : List DesignMemory). flat_map (words_in words (paths_of is)) ms) h.memories
    ∙ flat_words words (paths_of is) is (all_paths is))

abbrev values : List ℕ → List ℕ → Values
values nets words = record { nets = nets; words = words }

pub built_numbers : BuiltNumbers
built_numbers file top is d h nets words =
    ap (λ (l : List ℕ). values l (values_of d nets words).words) (built_names nets file top is d h)
    ∙ ap (λ (l : List ℕ). values (numbers_of nets words is).nets l) (built_words words file top is d h)
