-- What is found in the flat design is what is found in the instances.
use Rattle.std.proofs.Math.Nat.{zero-add}
use Rattle.std.proofs.Common.{◌≡◌, ℕ, zero, suc, ◌+◌, ◌==◌, min, not, nat_lt, Bool, true, false, List, [], ◌∷◌, ◌++◌, map, length}
use Rattle.std.proofs.Common.{refl, ap, sym, ◌∙◌, append_assoc, arith}
use Rattle.std.specs.List.{AllZip, flat_map}
use Rattle.std.proofs.lemmas.List.{map-append, length-map}
use Rattle.flat_parts.specs.vidi_bits.Findings.{told_if}
use Rattle.flat_parts.specs.vlog_size.declared.scope.ScopeNet.{ScopeNet}
use Rattle.flat_parts.specs.vlog_size.declared.scope.ScopeMemory.{ScopeMemory}
use Rattle.flat_parts.specs.vlog_size.Table.{Named}
use Rattle.flat_parts.specs.vlog_elab.Scope.{words_of}
use Rattle.net_design.specs.declared.act.Code.{Code}
use Rattle.net_design.specs.declared.act.Place.{Place}
use Rattle.net_design.specs.declared.design.Net.{Net}
use Rattle.net_design.specs.declared.design.DesignMemory.{DesignMemory}
use Rattle.net_design.specs.declared.design.Driver.{Driver}
use Rattle.flat_parts.specs.net_drive.declared.findings.NetKind.{NetKind}
use Rattle.flat_parts.specs.net_drive.declared.findings.NetKind.TheVariants.{Pin, Wire, Reg}
use Rattle.flat_parts.specs.net_drive.declared.findings.Misdriven.{Misdriven}
use Rattle.flat_parts.specs.net_drive.declared.findings.Misdriven.TheVariants as what
use Rattle.flat_parts.specs.net_code.Targets.{nets_named, rooms_named, bit_count}
use Rattle.flat_parts.specs.net_drive.Drive.{block_count, bit_faults, reg_faults, kind_faults, kind_at, nets_from, memory_at, wire_places}
use Rattle.flat_parts.specs.net_drive.Drive.{block_names, memories_from as memories_past, net_faults, memory_faults}
use Rattle.flat_parts.specs.vlog_block.Naming.{Naming}
use Rattle.flat_parts.specs.vlog_driver.Duties.{Duty, Does}
use Rattle.flat_parts.specs.vlog_elab.declared.error.ElabError.{ElabError}
use Rattle.flat_parts.specs.vlog_elab.declared.error.ElabError.TheVariants as e
use Rattle.flat_parts.specs.vlog_elab.Instances.{ModuleInstance}
use Rattle.flat_parts.specs.vlog_driver.Names.{Full}
use Rattle.flat_parts.specs.Seats.{Seat, seats_from, seats_of}
use Rattle.flat_parts.specs.Nets.{net_of, seat_nets, flat_nets, memories_from, seat_memories, flat_memories}
use Rattle.flat_parts.specs.Drivers.{all_duties, all_blocks, IsBlockOf}
use Rattle.flat_drive.specs.Kinds.{kind_of, seat_kinds, flat_kinds}
use Rattle.flat_drive.specs.Reasons.{dotted, dotted_all, instance_nets, instance_memories, net_texts, memory_texts, text_at, drivers_told}
use Rattle.flat_drive.specs.Reasons.{error_of, flat_findings}
use Rattle.flat_drive.specs.Findings.{driver_count, blocks_name, net_blocks, room_blocks, bit_findings, block_findings, net_findings}
use Rattle.flat_drive.specs.Findings.{nets_findings, memories_findings, seat_net_findings, seat_memory_findings, drive_findings}
use Rattle.flat_drive.proofs.Counted.{wires_counted, nets_counted, rooms_counted}

-- ---- lists

told_map : (f : Misdriven → ElabError) (b : Bool) (x : Misdriven) → map f (told_if b x) ≡ told_if b (f x)
told_map f true x = refl
told_map f false x = refl

text_behind : (xs ys : List (List ℕ)) (i : ℕ) → text_at (xs ++ ys) (length xs + i) ≡ text_at ys i
text_behind [] ys i = let same : 0 + i ≡ i = omega arith in ap (text_at ys) same
text_behind (x ∷ xs) ys i =
    let same : length (x ∷ xs) + i ≡ suc (length xs + i) = omega arith in ap (text_at (x ∷ xs ++ ys)) same ∙ text_behind xs ys i

kind_behind : (xs ys : List NetKind) (i : ℕ) → kind_at (xs ++ ys) (length xs + i) ≡ kind_at ys i
kind_behind [] ys i = let same : 0 + i ≡ i = omega arith in ap (kind_at ys) same
kind_behind (x ∷ xs) ys i =
    let same : length (x ∷ xs) + i ≡ suc (length xs + i) = omega arith in ap (kind_at (x ∷ xs ++ ys)) same ∙ kind_behind xs ys i

module _ (is : List ModuleInstance) (places : List Place) (in_nets in_rooms : List (List ℕ)) (duties : List Duty)
    (names : List (List Naming))
    (bits : (m k : ℕ) → bit_count places m k ≡ driver_count duties m k)
    (nets : (m : ℕ) → block_count in_nets m ≡ net_blocks names m)
    (rooms : (m : ℕ) → block_count in_rooms m ≡ room_blocks names m) where
  -- ---- one net, one memory

  bits_told : (text : List ℕ) (m pins k n : ℕ) → text_at (net_texts is) m ≡ text
      → map (error_of is) (bit_faults places m pins k n) ≡ bit_findings text (λ j. pins + driver_count duties m j) k n
  bits_told text m pins k zero t = refl
  bits_told text m pins k (suc n) t =
      let c = pins + bit_count places m k in
      let same : c ≡ pins + driver_count duties m k = ap (λ x. pins + x) (bits m k) in
      let rest = bit_faults places m pins (k + 1) n in
      map-append (error_of is) (told_if (not (c == 1)) (what.Net m k c)) rest
      ∙ ap (λ xs. xs ++ map (error_of is) rest) (told_map (error_of is) (not (c == 1)) (what.Net m k c)
      ∙ ap (λ x. told_if (not (c == 1)) (e.Drive x k (drivers_told c))) t
      ∙ ap (λ x. told_if (not (x == 1)) (e.Drive text k (drivers_told x))) same)
      ∙ ap (λ xs.
      told_if (not (pins + driver_count duties m k == 1)) (e.Drive text k (drivers_told (pins + driver_count duties m k))) ++ xs)
      (bits_told text m pins (k + 1) n t)

  reg_told : (text : List ℕ) (m : ℕ) → text_at (net_texts is) m ≡ text
      → map (error_of is) (reg_faults in_nets m) ≡ block_findings text (net_blocks names m)
  reg_told text m t =
      let c = block_count in_nets m in
      told_map (error_of is) (nat_lt 1 c) (what.Net m 0 c) ∙ ap (λ x. told_if (nat_lt 1 c) (e.Drive x 0 (drivers_told c))) t
      ∙ ap (λ x. told_if (nat_lt 1 x) (e.Drive text 0 (drivers_told x))) (nets m)

  memory_told : (text : List ℕ) (i word : ℕ) → text_at (memory_texts is) i ≡ text
      → map (error_of is) (memory_at in_rooms i word) ≡ block_findings text (room_blocks names word)
  memory_told text i word t =
      let c = block_count in_rooms word in
      told_map (error_of is) (nat_lt 1 c) (what.Memory i c) ∙ ap (λ x. told_if (nat_lt 1 c) (e.Drive x 0 (drivers_told c))) t
      ∙ ap (λ x. told_if (nat_lt 1 x) (e.Drive text 0 (drivers_told x))) (rooms word)

  kind_told : (text : List ℕ) (m width : ℕ) (kind : NetKind) → text_at (net_texts is) m ≡ text
      → map (error_of is) (kind_faults places in_nets m width kind) ≡ net_findings duties names m text width kind
  kind_told text m width Pin t = bits_told text m 1 0 (min width 128) t
  kind_told text m width Wire t = bits_told text m 0 0 (min width 128) t
  kind_told text m width Reg t = reg_told text m t

  -- ---- nets

  nets_told : (kinds : List NetKind) (x : Seat) (m : ℕ) (ns : List (Named ScopeNet)) (texts : List (List ℕ)) (others : List NetKind)
      (rest : List Net) → ((j : ℕ) → text_at (net_texts is) (m + j) ≡ text_at (dotted_all x.instance.path ns ++ texts) j)
      → ((j : ℕ) → kind_at kinds (m + j) ≡ kind_at (map (kind_of x) ns ++ others) j)
      → map (error_of is) (nets_from places in_nets kinds m (map (net_of x.number) ns ++ rest))
      ≡ nets_findings duties names x m ns ++ map (error_of is) (nets_from places in_nets kinds (m + length ns) rest)
  nets_told kinds x m [] texts others rest at_text at_kind =
      let same : m ≡ m + 0 = omega arith in ap (λ i. map (error_of is) (nets_from places in_nets kinds i rest)) same
  nets_told kinds x m (n ∷ ns) texts others rest at_text at_kind =
      let here : m ≡ m + 0 = omega arith in
      let next : m + 1 + length ns ≡ m + length (n ∷ ns) = omega arith in
      let text = dotted x.instance.path n.name in
      let mine : text_at (net_texts is) m ≡ text = ap (text_at (net_texts is)) here ∙ at_text 0 in
      let own : kind_at kinds m ≡ kind_of x n = ap (kind_at kinds) here ∙ at_kind 0 in
      let later = nets_from places in_nets kinds (m + 1) (map (net_of x.number) ns ++ rest) in
      map-append (error_of is) (kind_faults places in_nets m n.value.width (kind_at kinds m)) later
      ∙ ap (λ k. map (error_of is) (kind_faults places in_nets m n.value.width k) ++ map (error_of is) later) own
      ∙ ap (λ xs. xs ++ map (error_of is) later) (kind_told text m n.value.width (kind_of x n) mine)
      ∙ ap (λ xs. net_findings duties names m text n.value.width (kind_of x n) ++ xs)
      (nets_told kinds x (m + 1) ns texts others rest
      (λ j. let past : m + 1 + j ≡ m + suc j = omega arith in ap (text_at (net_texts is)) past ∙ at_text (suc j))
      (λ j. let past : m + 1 + j ≡ m + suc j = omega arith in ap (kind_at kinds) past ∙ at_kind (suc j)))
      ∙ sym (append_assoc (net_findings duties names m text n.value.width (kind_of x n)) (nets_findings duties names x (m + 1) ns)
      (map (error_of is) (nets_from places in_nets kinds (m + 1 + length ns) rest)))
      ∙ ap (λ i. nets_findings duties names x m (n ∷ ns) ++ map (error_of is) (nets_from places in_nets kinds i rest)) next

  past_text : (path : Full) (ns : List (Named ScopeNet)) (net i : ℕ) (texts : List (List ℕ))
      → ((j : ℕ) → text_at (net_texts is) (net + j) ≡ text_at (dotted_all path ns ++ texts) j)
      → text_at (net_texts is) (net + length ns + i) ≡ text_at texts i
  past_text path ns net i texts h =
      let long : length (dotted_all path ns) ≡ length ns = length-map ns (λ (n : Named ScopeNet). dotted path n.name) in
      let same : net + length ns + i ≡ net + (length (dotted_all path ns) + i) = omega (arith, long) in
      ap (text_at (net_texts is)) same ∙ h (length (dotted_all path ns) + i) ∙ text_behind (dotted_all path ns) texts i

  past_kind : (kinds : List NetKind) (x : Seat) (ns : List (Named ScopeNet)) (net i : ℕ) (others : List NetKind)
      → ((j : ℕ) → kind_at kinds (net + j) ≡ kind_at (map (kind_of x) ns ++ others) j)
      → kind_at kinds (net + length ns + i) ≡ kind_at others i
  past_kind kinds x ns net i others h =
      let long : length (map (kind_of x) ns) ≡ length ns = length-map ns (kind_of x) in
      let same : net + length ns + i ≡ net + (length (map (kind_of x) ns) + i) = omega (arith, long) in
      ap (kind_at kinds) same ∙ h (length (map (kind_of x) ns) + i) ∙ kind_behind (map (kind_of x) ns) others i

  seats_told : (kinds : List NetKind) (number net word : ℕ) (js : List ModuleInstance)
      → ((j : ℕ) → text_at (net_texts is) (net + j) ≡ text_at (flat_map instance_nets js) j)
      → ((j : ℕ) → kind_at kinds (net + j) ≡ kind_at (flat_map seat_kinds (seats_from number net word js)) j)
      → map (error_of is) (nets_from places in_nets kinds net (flat_map seat_nets (seats_from number net word js)))
      ≡ flat_map (seat_net_findings duties names) (seats_from number net word js)
  seats_told kinds number net word [] at_text at_kind = refl
  seats_told kinds number net word (i ∷ js) at_text at_kind =
      let x : Seat = record { number = number; base = record { net = net; word = word }; instance = i } in
      let after = seats_from (number + 1) (net + length i.scope.nets) (word + words_of i.scope.memories) js in
      nets_told kinds x net i.scope.nets (flat_map instance_nets js) (flat_map seat_kinds after) (flat_map seat_nets after) at_text at_kind
      ∙ ap (λ xs. nets_findings duties names x net i.scope.nets ++ xs)
      (seats_told kinds (number + 1) (net + length i.scope.nets) (word + words_of i.scope.memories) js
      (λ j. past_text i.path i.scope.nets net j (flat_map instance_nets js) at_text)
      (λ j. past_kind kinds x i.scope.nets net j (flat_map seat_kinds after) at_kind))

  -- ---- memories

  memories_told : (x : Seat) (i word : ℕ) (ms : List (Named ScopeMemory)) (texts : List (List ℕ)) (rest : List DesignMemory)
      → ((j : ℕ) → text_at (memory_texts is) (i + j) ≡ text_at (dotted_all x.instance.path ms ++ texts) j)
      → map (error_of is) (memories_past in_rooms i (memories_from x.number word ms ++ rest))
      ≡ memories_findings duties names x word ms ++ map (error_of is) (memories_past in_rooms (i + length ms) rest)
  memories_told x i word [] texts rest at_text =
      let same : i ≡ i + 0 = omega arith in ap (λ k. map (error_of is) (memories_past in_rooms k rest)) same
  memories_told x i word (a ∷ ms) texts rest at_text =
      let here : i ≡ i + 0 = omega arith in
      let next : i + 1 + length ms ≡ i + length (a ∷ ms) = omega arith in
      let text = dotted x.instance.path a.name in
      let mine : text_at (memory_texts is) i ≡ text = ap (text_at (memory_texts is)) here ∙ at_text 0 in
      let later = memories_past in_rooms (i + 1) (memories_from x.number (word + a.value.length) ms ++ rest) in
      map-append (error_of is) (memory_at in_rooms i word) later
      ∙ ap (λ xs. xs ++ map (error_of is) later) (memory_told text i word mine)
      ∙ ap (λ xs. block_findings text (room_blocks names word) ++ xs)
      (memories_told x (i + 1) (word + a.value.length) ms texts rest
      (λ j. let past : i + 1 + j ≡ i + suc j = omega arith in ap (text_at (memory_texts is)) past ∙ at_text (suc j)))
      ∙ sym (append_assoc (block_findings text (room_blocks names word)) (memories_findings duties names x (word + a.value.length) ms)
      (map (error_of is) (memories_past in_rooms (i + 1 + length ms) rest)))
      ∙ ap (λ k. memories_findings duties names x word (a ∷ ms) ++ map (error_of is) (memories_past in_rooms k rest)) next

  past_memory : (path : Full) (ms : List (Named ScopeMemory)) (at i : ℕ) (texts : List (List ℕ))
      → ((j : ℕ) → text_at (memory_texts is) (at + j) ≡ text_at (dotted_all path ms ++ texts) j)
      → text_at (memory_texts is) (at + length ms + i) ≡ text_at texts i
  past_memory path ms at i texts h =
      let long : length (dotted_all path ms) ≡ length ms = length-map ms (λ (n : Named ScopeMemory). dotted path n.name) in
      let same : at + length ms + i ≡ at + (length (dotted_all path ms) + i) = omega (arith, long) in
      ap (text_at (memory_texts is)) same ∙ h (length (dotted_all path ms) + i) ∙ text_behind (dotted_all path ms) texts i

  rooms_told : (at number net word : ℕ) (js : List ModuleInstance)
      → ((j : ℕ) → text_at (memory_texts is) (at + j) ≡ text_at (flat_map instance_memories js) j)
      → map (error_of is) (memories_past in_rooms at (flat_map seat_memories (seats_from number net word js)))
      ≡ flat_map (seat_memory_findings duties names) (seats_from number net word js)
  rooms_told at number net word [] at_text = refl
  rooms_told at number net word (i ∷ js) at_text =
      let x : Seat = record { number = number; base = record { net = net; word = word }; instance = i } in
      let after = seats_from (number + 1) (net + length i.scope.nets) (word + words_of i.scope.memories) js in
      memories_told x at word i.scope.memories (flat_map instance_memories js) (flat_map seat_memories after) at_text
      ∙ ap (λ xs. memories_findings duties names x word i.scope.memories ++ xs)
      (rooms_told (at + length i.scope.memories) (number + 1) (net + length i.scope.nets) (word + words_of i.scope.memories) js
      (λ j. past_memory i.path i.scope.memories at j (flat_map instance_memories js) at_text))

-- ---- all

pub all_told : (is : List ModuleInstance) (drivers : List Driver) (blocks : List Code) → AllZip Does (all_duties (seats_of is)) drivers
    → AllZip IsBlockOf (all_blocks (seats_of is)) blocks → flat_findings is drivers blocks ≡ drive_findings (seats_of is)
unfolding flat_findings drive_findings flat_nets flat_kinds flat_memories seats_of net_texts memory_texts
all_told is drivers blocks h k =
    let xs = seats_from 0 0 0 is in
    let duties = all_duties xs in
    let clocked = all_blocks xs in
    let names = blocks_name duties clocked in
    let places = wire_places drivers in
    let in_nets = block_names nets_named drivers blocks in
    let in_rooms = block_names rooms_named drivers blocks in
    let bits = wires_counted duties drivers h in
    let nets = λ (m : ℕ). nets_counted m duties drivers clocked blocks h k in
    let rooms = λ (m : ℕ). rooms_counted m duties drivers clocked blocks h k in
    map-append (error_of is) (net_faults (flat_nets xs) (flat_kinds xs) drivers blocks) (memory_faults (flat_memories xs) drivers blocks)
    ∙ ap (λ zs. zs ++ map (error_of is) (memory_faults (flat_memories xs) drivers blocks))
    (seats_told is places in_nets in_rooms duties names bits nets rooms (flat_kinds xs) 0 0 0 is
    (λ j. ap (text_at (net_texts is)) (zero-add j)) (λ j. ap (kind_at (flat_kinds xs)) (zero-add j)))
    ∙ ap (λ zs. flat_map (seat_net_findings duties names) xs ++ zs)
    (rooms_told is places in_nets in_rooms duties names bits nets rooms 0 0 0 0 is
    (λ j. ap (text_at (memory_texts is)) (zero-add j)))
