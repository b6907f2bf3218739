-- The initial state of the design is the file's.
use Rattle.std.proofs.Common.{◌≡◌, ℕ, ◌+◌, ◌<◌, nat_lt, ◌&&◌, if◌then◌else◌, List, [], ◌∷◌, ◌++◌, length, replicate}
use Rattle.std.proofs.Common.{slice_index, slice_get, get_or, Some, refl, ap, sym, subst, ◌∙◌}
use Rattle.std.specs.Int.{bit_at}
use Rattle.std.specs.List.{enumerate_from, Contains}
use Rattle.std.proofs.lemmas.Grind.{same_number_lists}
use Rattle.std.proofs.lemmas.List.{length-map}
use Rattle.std.proofs.lemmas.List.FromFn.{length-enumerate_from}
use Rattle.std.proofs.lemmas.Nat.Bits.{same_from_bits}
use Rattle.std.proofs.lemmas.Option.{slice_get-get_or}
use Rattle.vlog_driver.proofs.Words.{length-words}
use Rattle.vlog_tree.specs.Tree.{ModuleOf}
use Rattle.vlog_elab.specs.vlog_size.declared.scope.ScopeNet.{ScopeNet}
use Rattle.vlog_elab.specs.vlog_size.declared.scope.Scope.{Scope}
use Rattle.vlog_elab.specs.vlog_size.Table.{Named}
use Rattle.net_design.specs.declared.design.DesignMemory.{DesignMemory}
use Rattle.net_design.specs.declared.design.Design.{Design}
use Rattle.net_design.specs.declared.values.Values.{Values}
use Rattle.net_design.specs.Names.{net_names}
use Rattle.net_design.specs.Settled.{initial, word_count}
use Rattle.vlog_elab.specs.vlog_scope.Scope.{words_of}
use Rattle.vlog_elab.specs.Instances.{ModuleInstance, instances}
use Rattle.vlog_driver.specs.Names.{Full, State, numbers_at}
use Rattle.vlog_driver.specs.Settled.{is_held}
use Rattle.vlog_driver.specs.Next.{initial_number, IsInitial}
use Rattle.flat_parts.specs.Seats.{Seat, seats_of}
use Rattle.flat_parts.specs.Nets.{flat_nets}
use Rattle.flat_parts.specs.Built.{IsBuilt}
use Rattle.flat_parts.specs.Meaning.{memory_words, state_of}
use Rattle.flat_parts.specs.Laws.{InstancesAreAll, BuiltNumbers, SeatsStand, NetsHaveSeats, IsNetOf, InitialAlike, numbers_of}
use Rattle.flat_parts.specs.Next.{InitialStateAlike}
use Rattle.flat_parts.proofs.Joined.{AreZero, are_zero, zeros_are, parts_zero, zero_in_parts, of_each, each_of, parts_long}
use Rattle.flat_parts.proofs.Clocked.{own_part, words_as_many}
use Rattle.flat_parts.proofs.Instances.{instance_of, of_listed, of_seated, number_there}
use Rattle.flat_parts.proofs.Next.{values_same}

-- the file's initial numbers of an instance
abbrev HasNumbers : State → Full → ModuleOf ℕ → Scope → Type 0
HasNumbers s path m c =
    (j k : ℕ) (n : Named ScopeNet) → slice_get c.nets j ≡ Some n
    → bit_at (s.nets (path ++ n.name ∷ [])) k
    ≡ (if nat_lt k n.value.width && is_held m c n.name j k then bit_at (initial_number m c n.name) k else 0)

abbrev HasZeros : State → Full → ModuleOf ℕ → Scope → Type 0
HasZeros s path m c = (numbers_at s.nets s.words path c).words ≡ replicate (words_of c.memories) 0

module _ (modules : List (ModuleOf ℕ)) (top : ModuleOf ℕ) (is : List ModuleInstance) (d : Design) (numbers : BuiltNumbers)
    (stand : SeatsStand) (begins : InitialAlike) (built : IsBuilt modules top is d) (s : State) where
  -- the number of a net of the state
  state_there : (x : Seat) (j : ℕ) (n : Named ScopeNet) → Contains (seats_of is) x → slice_get x.instance.scope.nets j ≡ Some n
      → slice_index (state_of d s).nets (x.base.net + j) ≡ s.nets (x.instance.path ++ n.name ∷ [])
  state_there x j n c h =
      ap (λ (v : Values). slice_index v.nets (x.base.net + j)) (numbers modules top is d built s.nets s.words)
      ∙ number_there s.nets s.words is stand x j n c h

  -- ---- from the design
  seat_begins : initial d ≡ state_of d s → (x : Seat) → Contains (seats_of is) x
      → HasNumbers s x.instance.path x.instance.tree x.instance.scope
  seat_begins h x c j k n at =
      ap (λ y. bit_at y k) (sym (state_there x j n c at))
      ∙ ap (λ (v : Values). bit_at (slice_index v.nets (x.base.net + j)) k) (sym h)
      ∙ begins modules top is d built x j k n c at

  state_words : (state_of d s).words ≡ (numbers_of s.nets s.words is).words
  state_words = ap (λ (v : Values). v.words) (numbers modules top is d built s.nets s.words)

  instance_zero : initial d ≡ state_of d s → (i : ModuleInstance) → Contains is i → HasZeros s i.path i.tree i.scope
  instance_zero h i c =
      let words : List ℕ = (own_part s.nets s.words i).words in
      let all : replicate (word_count d) 0 ≡ (numbers_of s.nets s.words is).words = ap (λ (v : Values). v.words) h ∙ state_words in
      let zeros : AreZero words = of_each (λ j. AreZero (own_part s.nets s.words j).words) is
      (zero_in_parts (λ j. (own_part s.nets s.words j).words) is (subst AreZero all (are_zero (word_count d)))) i c in
      zeros_are words zeros ∙ ap (λ n. replicate n 0) (words_as_many s.nets s.words i)

  -- ---- from the file
  words_begin : ((i : ModuleInstance) → Contains is i → HasZeros s i.path i.tree i.scope) → (initial d).words ≡ (state_of d s).words
  words_begin h =
      let each : (i : ModuleInstance) → Contains is i → AreZero (own_part s.nets s.words i).words =
      λ i c. subst AreZero (sym (h i c)) (are_zero (words_of i.scope.memories)) in
      let zeros : AreZero (numbers_of s.nets s.words is).words =
      parts_zero (λ j. (own_part s.nets s.words j).words) is (each_of (λ j. AreZero (own_part s.nets s.words j).words) is each) in
      let long : length (state_of d s).words ≡ word_count d =
      parts_long (memory_words d s.words) (λ (a : DesignMemory). a.room.length) (λ a. length-words _ 0 a.room.length) d.memories in
      sym (ap (λ n. replicate n 0) long) ∙ sym (zeros_are (state_of d s).words (subst AreZero (sym state_words) zeros))

  nets_long : length (initial d).nets ≡ length d.nets
  nets_long = length-map (enumerate_from 0 d.nets) _ ∙ length-enumerate_from 0 d.nets

  numbers_long : length (state_of d s).nets ≡ length d.nets
  numbers_long = length-map (net_names d) s.nets ∙ length-map d.nets _

  number_begins : ((x : Seat) → Contains (seats_of is) x → HasNumbers s x.instance.path x.instance.tree x.instance.scope)
      → (x : Seat) (j : ℕ) → Contains (seats_of is) x → j < length x.instance.scope.nets
      → slice_index (initial d).nets (x.base.net + j) ≡ slice_index (state_of d s).nets (x.base.net + j)
  number_begins h x j c l =
      let none : Named ScopeNet = record { name = []; value = record { width = 0 } } in
      let n : Named ScopeNet = get_or x.instance.scope.nets j none in
      let at : slice_get x.instance.scope.nets j ≡ Some n = slice_get-get_or x.instance.scope.nets j none l in
      same_from_bits (slice_index (initial d).nets (x.base.net + j)) (s.nets (x.instance.path ++ n.name ∷ []))
      (λ k. begins modules top is d built x j k n c at ∙ sym (h x c j k n at))
      ∙ sym (state_there x j n c at)

  nets_begin : NetsHaveSeats
      → ((x : Seat) → Contains (seats_of is) x → HasNumbers s x.instance.path x.instance.tree x.instance.scope)
      → (initial d).nets ≡ (state_of d s).nets
  nets_begin seat h =
      same_number_lists (initial d).nets (state_of d s).nets (nets_long ∙ sym numbers_long)
      (λ m l.
      let there : m < length (flat_nets (seats_of is)) =
      subst (λ n. m < n) (nets_long ∙ ap length built.nets) l in
      let found = seat is m there in
      let net : IsNetOf (seats_of is) m found.0 found.1 = found.2 in
      subst (λ p. slice_index (initial d).nets p ≡ slice_index (state_of d s).nets p) (sym net.place)
      (number_begins h found.0 found.1 net.seat net.there))

pub initial_alike : InstancesAreAll → BuiltNumbers → SeatsStand → NetsHaveSeats → InitialAlike → InitialStateAlike
initial_alike all numbers stand seat begins file name top d clear is_top built s =
    let is : List ModuleInstance = instances file name in (
      (λ (h : initial d ≡ state_of d s). record {
        nets = λ path m c j k n at e.
            of_seated (HasNumbers s) is
            (λ x here. seat_begins file.modules top is d numbers stand begins built s h x here) path m c
            ((all file name top clear is_top path m c).1 at) j k n e;
        words = λ path m c at.
            of_listed (HasZeros s) is
            (λ i here. instance_zero file.modules top is d numbers stand begins built s h i here) path m c
            ((all file name top clear is_top path m c).1 at);
      }),
      (λ (h : IsInitial file.modules top s).
          values_same (initial d) (state_of d s)
          (nets_begin file.modules top is d numbers stand begins built s seat
          (λ x here j k n e. h.nets x.instance.path x.instance.tree x.instance.scope j k n
          ((all file name top clear is_top x.instance.path x.instance.tree x.instance.scope).0
          (x.instance, instance_of is x here, refl, refl, refl)) e))
          (words_begin file.modules top is d numbers stand begins built s
          (λ i here. h.words i.path i.tree i.scope
          ((all file name top clear is_top i.path i.tree i.scope).0 (i, here, refl, refl, refl))))),
    )
