-- The nets and memories of scopes, as those of the design.
use Rattle.std.proofs.Common.{◌≡◌, ℕ, zero, suc, ◌+◌, ◌≤◌, List, [], ◌∷◌, ◌++◌, map, length, drop, refl, sym, ap, ◌∙◌, arith}
use Rattle.std.proofs.Common.{append_assoc, Some, slice_get, option_map, subst}
use Rattle.std.specs.List.{flat_map}
use Rattle.std.proofs.lemmas.List.{append-nil, drop_all}
use Rattle.std.proofs.lemmas.List.Sums.{sum_by-cons}
use Rattle.std.proofs.lemmas.Option.{same_Some}
use Rattle.flat_parts.specs.vlog_names.Entries.{entry}
use Rattle.flat_parts.specs.vlog_size.declared.scope.ScopeNet.{ScopeNet}
use Rattle.flat_parts.specs.vlog_size.declared.scope.ScopeMemory.{ScopeMemory}
use Rattle.flat_parts.specs.vlog_size.Table.{Named}
use Rattle.flat_parts.specs.vlog_scope.Scope.{words_of}
use Rattle.net_design.specs.declared.design.DesignMemory.{DesignMemory}
use Rattle.net_design.specs.declared.design.Net.{Net}
use Rattle.flat_parts.specs.vlog_elab.Instances.{ModuleInstance}
use Rattle.flat_parts.specs.vlog_elab.declared.instance.ModuleInstance as code
use Rattle.flat_parts.specs.vlog_elab.Plain.{plain_instances}
use Rattle.flat_parts.specs.Seats.{seats_from, seats_of}
use Rattle.flat_parts.specs.Nets.{net_of, seat_nets, flat_nets, memories_from, seat_memories, flat_memories}
use Rattle.flat_layout.specs.Layout.{memory_of}
use Rattle.flat_layout.proofs.Lists.{given, one_less}

-- ---- an entry of a table, by its name and its value

some_entry : {V : Type 0} (x : Named V) (name : List ℕ) (v : V) → name ≡ x.name → v ≡ x.value → Some x ≡ Some (entry name v)
some_entry x name v n e =
    ap (λ z. Some (entry z x.value)) (sym n) ∙ ap (λ z. Some (entry name z)) (sym e)

entry_there : {V : Type 0} (xs : List (Named V)) (k : ℕ) (name : List ℕ) (v : V)
    → Some name ≡ slice_get (map (λ (x : Named V). x.name) xs) k → Some v ≡ slice_get (map (λ (x : Named V). x.value) xs) k
    → slice_get xs k ≡ Some (record { name = name; value = v })
entry_there [] k name v h g = absurd (cc)
entry_there (x ∷ xs) zero name v h g = some_entry x name v (same_Some name x.name h) (same_Some v x.value g)
entry_there (x ∷ xs) (suc k) name v h g = entry_there xs k name v h g

pub net_there : (number : ℕ) (ns : List (Named ScopeNet)) (k : ℕ) (name : List ℕ) (v : ScopeNet)
    → Some name ≡ slice_get (map (λ (x : Named ScopeNet). x.name) ns) k → Some v ≡ slice_get (map (λ (x : Named ScopeNet). x.value) ns) k
    → option_map (net_of number) (slice_get ns k) ≡ Some (record { instance = number; name = name; width = v.width })
net_there number ns k name v h g = ap (option_map (net_of number)) (entry_there ns k name v h g)

pub memory_there : (number word : ℕ) (ms : List (Named ScopeMemory)) (k : ℕ) (name : List ℕ) (v : ScopeMemory)
    → Some name ≡ slice_get (map (λ (x : Named ScopeMemory). x.name) ms) k
    → Some v ≡ slice_get (map (λ (x : Named ScopeMemory). x.value) ms) k
    → option_map (memory_of number word) (slice_get ms k)
    ≡ Some (record { instance = number; name = name; width = v.width; room = record { first = word; length = v.length } })
memory_there number word ms k name v h g = ap (option_map (memory_of number word)) (entry_there ms k name v h g)

-- ---- instance by instance

abbrev pub numbered_nets : ℕ → List ModuleInstance → List Net
numbered_nets number [] = []
numbered_nets number (i ∷ is) = map (net_of number) i.scope.nets ++ numbered_nets (number + 1) is

pub nets_numbered : (number net word : ℕ) (is : List ModuleInstance)
    → numbered_nets number is ≡ flat_map seat_nets (seats_from number net word is)
nets_numbered number net word [] = refl
nets_numbered number net word (i ∷ is) =
    ap (λ (l : List Net). map (net_of number) i.scope.nets ++ l)
    (nets_numbered (number + 1) (net + length i.scope.nets) (word + words_of i.scope.memories) is)

abbrev pub numbered_memories : ℕ → ℕ → List ModuleInstance → List DesignMemory
numbered_memories number word [] = []
numbered_memories number word (i ∷ is) =
    memories_from number word i.scope.memories ++ numbered_memories (number + 1) (word + words_of i.scope.memories) is

pub memories_numbered : (number net word : ℕ) (is : List ModuleInstance)
    → numbered_memories number word is ≡ flat_map seat_memories (seats_from number net word is)
memories_numbered number net word [] = refl
memories_numbered number net word (i ∷ is) =
    ap (λ (l : List DesignMemory). memories_from number word i.scope.memories ++ l)
    (memories_numbered (number + 1) (net + length i.scope.nets) (word + words_of i.scope.memories) is)

-- ---- the memories of one instance

-- where the loop stands: the words and the memories that are left
pub record IsBefore (number first word : ℕ) (all rest : List (Named ScopeMemory)) (start now : List DesignMemory) : Type 0 where
  pub words : word + words_of rest ≡ first + words_of all
  pub value : now ++ memories_from number word rest ≡ start ++ memories_from number first all

next_at : (number first word : ℕ) (all rest : List (Named ScopeMemory)) (start now : List DesignMemory) (x : Named ScopeMemory)
    → IsBefore number first word all (x ∷ rest) start now
    → IsBefore number first (word + x.value.length) all rest start (now ++ memory_of number word x ∷ [])
next_at number first word all rest start now x h = record {
  words =
      let s = sum_by-cons (λ (m : Named ScopeMemory). m.value.length) x rest in
      let w = h.words in
      omega (arith, s, w);
  value = append_assoc now (memory_of number word x ∷ []) (memories_from number (word + x.value.length) rest) ∙ h.value;
}

memory_added : (number first word place : ℕ) (all : List (Named ScopeMemory)) (start now : List DesignMemory) (m : DesignMemory)
    → IsBefore number first word all (drop place all) start now → option_map (memory_of number word) (slice_get all place) ≡ Some m
    → IsBefore number first (word + m.room.length) all (drop (place + 1) all) start (now ++ m ∷ [])
memory_added number first word place all start now m h e =
    let (x, there, same) = given (memory_of number word) (slice_get all place) m e in
    subst (λ (a : DesignMemory). IsBefore number first (word + a.room.length) all (drop (place + 1) all) start (now ++ a ∷ [])) same
    (next_at number first word all (drop (place + 1) all) start now x
    (subst (λ (l : List (Named ScopeMemory)). IsBefore number first word all l start now) (one_less all place x there) h))

pub next_memory : (number first word place after : ℕ) (all : List (Named ScopeMemory)) (start now new : List DesignMemory)
    (m : DesignMemory) → IsBefore number first word all (drop place all) start now
    → option_map (memory_of number word) (slice_get all place) ≡ Some m → after ≡ word + m.room.length → new ≡ now ++ m ∷ []
    → IsBefore number first after all (drop (place + 1) all) start new
next_memory number first word place after all start now new m h e past grew =
    subst (λ k. IsBefore number first k all (drop (place + 1) all) start new) (sym past)
    (subst (λ (l : List DesignMemory). IsBefore number first (word + m.room.length) all (drop (place + 1) all) start l) (sym grew)
    (memory_added number first word place all start now m h e))

-- ---- all of them

pub all_nets : (is : List code.ModuleInstance) (i : ℕ) (ns : List Net) → length is ≤ i
    → ns ++ numbered_nets i (plain_instances (drop i is)) ≡ numbered_nets 0 (plain_instances is)
    → ns ≡ flat_nets (seats_of (plain_instances is))
unfolding flat_nets seats_of
all_nets is i ns past h =
    sym (append-nil ns)
    ∙ (ap (λ (l : List code.ModuleInstance). ns ++ numbered_nets i (plain_instances l)) (sym (drop_all i is past))
    ∙ (h ∙ nets_numbered 0 0 0 (plain_instances is)))

pub all_memories : (is : List code.ModuleInstance) (i word : ℕ) (ms : List DesignMemory) → length is ≤ i
    → ms ++ numbered_memories i word (plain_instances (drop i is)) ≡ numbered_memories 0 0 (plain_instances is)
    → ms ≡ flat_memories (seats_of (plain_instances is))
unfolding flat_memories seats_of
all_memories is i word ms past h =
    sym (append-nil ms)
    ∙ (ap (λ (l : List code.ModuleInstance). ms ++ numbered_memories i word (plain_instances l)) (sym (drop_all i is past))
    ∙ (h ∙ memories_numbered 0 0 0 (plain_instances is)))
