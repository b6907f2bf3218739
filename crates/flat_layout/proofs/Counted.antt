-- How many nets and words there are.
use Rattle.std.proofs.Common.{◌≡◌, ℕ, ◌+◌, List, [], ◌∷◌, map, length, refl, arith, length-append}
use Rattle.std.specs.List.{flat_map, sum_by}
use Rattle.std.proofs.lemmas.List.{length-map}
use Rattle.std.proofs.lemmas.List.Sums.{sum_by-cons, sum_by-append}
use Rattle.net_design.specs.Settled.{room_length}
use Rattle.flat_parts.specs.vlog_size.declared.scope.ScopeMemory.{ScopeMemory}
use Rattle.flat_parts.specs.vlog_size.Table.{Named}
use Rattle.flat_parts.specs.vlog_scope.Scope.{words_of}
use Rattle.flat_parts.specs.vlog_elab.Instances.{ModuleInstance}
use Rattle.flat_parts.specs.vlog_elab.Reasons.{word_total}
use Rattle.flat_parts.specs.Seats.{seats_from, seats_of}
use Rattle.flat_parts.specs.Nets.{net_of, seat_nets, flat_nets, memories_from, seat_memories, flat_memories}
use Rattle.flat_layout.specs.Layout.{memory_of}
use Rattle.flat_layout.specs.Laws.{NetsAreCounted, WordsAreCounted}

abbrev own_nets : ModuleInstance → ℕ
own_nets i = length i.scope.nets

abbrev own_words : ModuleInstance → ℕ
own_words i = words_of i.scope.memories

abbrev pub own_length : Named ScopeMemory → ℕ
own_length m = m.value.length

nets_from : (number net word : ℕ) (is : List ModuleInstance)
    → length (flat_map seat_nets (seats_from number net word is)) ≡ sum_by own_nets is
nets_from number net word [] = refl
nets_from number net word (i ∷ is) =
    let rest = flat_map seat_nets (seats_from (number + 1) (net + length i.scope.nets) (word + words_of i.scope.memories) is) in
    let a = length-append (map (net_of number) i.scope.nets) rest in
    let b = length-map i.scope.nets (net_of number) in
    let r = nets_from (number + 1) (net + length i.scope.nets) (word + words_of i.scope.memories) is in
    let s = sum_by-cons own_nets i is in
    omega (arith, a, b, r, s)

pub nets_counted : NetsAreCounted
unfolding flat_nets seats_of
nets_counted is = nets_from 0 0 0 is

words_in_one : (number word : ℕ) (ms : List (Named ScopeMemory)) → sum_by room_length (memories_from number word ms) ≡ words_of ms
words_in_one number word [] = refl
words_in_one number word (m ∷ ms) =
    let a = sum_by-cons room_length (memory_of number word m) (memories_from number (word + m.value.length) ms) in
    let r = words_in_one number (word + m.value.length) ms in
    let s = sum_by-cons own_length m ms in
    omega (arith, a, r, s)

words_from_seats : (number net word : ℕ) (is : List ModuleInstance)
    → sum_by room_length (flat_map seat_memories (seats_from number net word is)) ≡ word_total is
words_from_seats number net word [] = refl
words_from_seats number net word (i ∷ is) =
    let rest = flat_map seat_memories (seats_from (number + 1) (net + length i.scope.nets) (word + words_of i.scope.memories) is) in
    let a = sum_by-append room_length (memories_from number word i.scope.memories) rest in
    let b = words_in_one number word i.scope.memories in
    let r = words_from_seats (number + 1) (net + length i.scope.nets) (word + words_of i.scope.memories) is in
    let s = sum_by-cons own_words i is in
    omega (arith, a, b, r, s)

pub words_counted : WordsAreCounted
unfolding flat_memories seats_of
words_counted is = words_from_seats 0 0 0 is
