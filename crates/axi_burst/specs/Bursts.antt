-- *Bursts* (AMBA AXI4 IHI 0022: A3.4.1 the 4 KB boundary, lengths and wrapping, A3.3 order of data and responses, A5.3 order by ID; this
-- project's profile): the list of all places where rules 1 to 4 are broken, in their order, and the bursts.
use Rattle.std.specs.Prelude.{ℕ, ◌+◌, ◌-◌, ◌*◌, ◌/◌, ◌%◌, ◌==◌, ◌&&◌, ◌||◌, not, Bool, true, false, if◌then◌else◌, nat_le}
use Rattle.std.specs.Prelude.{List, [], ◌∷◌, ◌++◌, map, take, replicate, sum_by, count_by, slice_get, Option, None, Some}
use Rattle.std.specs.List.{flat_map, filter, zip, enumerate_from}
use Rattle.trace_model.specs.vidi_bits.Findings.{told_if}
use Rattle.trace_model.specs.declared.trace.Trace.{Trace}
use Rattle.axi_burst.specs.declared.axi.Axi.{Axi}
use Rattle.axi_burst.specs.declared.axi.Broken.{Broken}
use Rattle.axi_burst.specs.declared.axi.Burst.{Burst}
use Rattle.axi_burst.specs.declared.axi.Reads.{Reads}
use Rattle.axi_burst.specs.declared.axi.Writes.{Writes}
use Rattle.axi_burst.specs.Kinds.{same}
use Rattle.axi_burst.specs.declared.transfers.Address.{Address}
use Rattle.axi_burst.specs.declared.transfers.Beat.{Beat}
use Rattle.axi_burst.specs.Transfers.{addresses, beats}

abbrev pub broken : ℕ → ℕ → ℕ → Broken
broken rule channel index = record { rule = rule; channel = channel; index = index }

-- where the items of a list, numbered from n, don't pass
abbrev pub broken_from : {X : Type 0} → ℕ → ℕ → (ℕ → X → Bool) → ℕ → List X → List Broken
broken_from {X} rule channel passes n xs = flat_map (λ (x : ℕ × X). told_if (not (passes x.0 x.1)) (broken rule channel x.0)) (enumerate_from n xs)

abbrev pub broken_where : {X : Type 0} → ℕ → ℕ → (ℕ → X → Bool) → List X → List Broken
broken_where {X} rule channel passes xs = broken_from rule channel passes 0 xs

-- ---- rule 1: an address
abbrev pub implies : Bool → Bool → Bool
implies a b = not a || b

-- the beats of an incrementing burst lie in one block of 4,096 bytes
abbrev pub is_in_block : Address → Bool
is_in_block a = (a.addr - a.addr % a.size) / 4096 == (a.addr - a.addr % a.size + a.beats * a.size - 1) / 4096

abbrev pub is_lawful : ℕ → Address → Bool
is_lawful beat a =
    not (a.burst == 3) && (nat_le a.size beat
    && (implies (a.burst == 0) (nat_le a.beats 16)
    && (implies (a.burst == 2) (((a.beats == 2) || ((a.beats == 4) || ((a.beats == 8) || (a.beats == 16)))) && (a.addr % a.size == 0))
    && implies (a.burst == 1) (is_in_block a))))

abbrev pub is_lawful_at : ℕ → ℕ → Address → Bool
is_lawful_at beat index a = is_lawful beat a

abbrev pub address_faults : ℕ → ℕ → List Address → List Broken
address_faults channel beat asks = broken_where 1 channel (is_lawful_at beat) asks

-- ---- rule 2: LAST of each beat whose address has come
abbrev pub is_last : ℕ → List Bool
is_last beats = replicate (beats - 1) false ++ true ∷ []

-- of all beats of these bursts, whether it is a burst's last
abbrev pub all_lasts : List Address → List Bool
all_lasts asks = flat_map (λ (a : Address). is_last a.beats) asks

abbrev pub shows_last : ℕ → Beat × Bool → Bool
shows_last index x = same x.0.last x.1

abbrev pub last_faults : ℕ → List Address → List Beat → List Broken
last_faults channel asks sent = broken_where 2 channel shows_last (zip sent (all_lasts asks))

-- ---- rule 3: the y-th response with an ID is that of the y-th address with it
abbrev pub count_with : ℕ → List Beat → ℕ
count_with id xs = count_by (λ (x : Beat). x.id == id) xs

-- how many of the beats before number n have this ID
abbrev pub before_with : ℕ → ℕ → List Beat → ℕ
before_with id n xs = count_with id (take n xs)

-- the numbers of the addresses with this ID
abbrev pub numbers_with : ℕ → List Address → List ℕ
numbers_with id asks = map (λ (x : ℕ × Address). x.0) (filter (λ (x : ℕ × Address). x.1.id == id) (enumerate_from 0 asks))

-- there, and completed in no later packet
abbrev pub is_by : ℕ → Option ℕ → Bool
is_by at None = false
is_by at (Some before) = nat_le before at

abbrev pub at_of : Option Beat → Option ℕ
at_of None = None
at_of (Some x) = Some x.at

abbrev pub time_of : Option Address → Option ℕ
time_of None = None
time_of (Some a) = Some a.at

-- the number of the first beat behind burst m
abbrev pub beats_to : ℕ → List Address → ℕ
beats_to m asks = sum_by (λ (a : Address). a.beats) (take m asks)

abbrev pub answers_burst : List Address → List Beat → ℕ → Option ℕ → Bool
answers_burst asks sent at None = false
answers_burst asks sent at (Some m) = is_by at (time_of (slice_get asks m)) && is_by at (at_of (slice_get sent (beats_to (m + 1) asks - 1)))

abbrev pub is_answer : List Address → List Beat → List Beat → ℕ → Beat → Bool
is_answer asks sent answers index x = answers_burst asks sent x.at (slice_get (numbers_with x.id asks) (before_with x.id index answers))

abbrev pub response_faults : ℕ → List Address → List Beat → List Beat → List Broken
response_faults channel asks sent answers = broken_where 3 channel (is_answer asks sent answers) answers

-- ---- rule 4: the y-th read beat with an ID is the y-th beat of the addresses with it
-- of all read beats with this ID, when its address came, and whether it is a burst's last
abbrev pub turns : ℕ → List Address → List (ℕ × Bool)
turns id asks = flat_map (λ (a : Address). if a.id == id then map (λ last. (a.at, last)) (is_last a.beats) else []) asks

abbrev pub is_turn : ℕ → Bool → Option (ℕ × Bool) → Bool
is_turn at last None = false
is_turn at last (Some turn) = nat_le turn.0 at && same last turn.1

abbrev pub is_in_turn : List Address → List Beat → ℕ → Beat → Bool
is_in_turn asks got index x = is_turn x.at x.last (slice_get (turns x.id asks) (before_with x.id index got))

abbrev pub read_faults : ℕ → List Address → List Beat → List Broken
read_faults channel asks got = broken_where 4 channel (is_in_turn asks got) got

-- ---- all of them, in their order
abbrev pub of_some : {X Y : Type 0} → (X → List Y) → Option X → List Y
of_some f None = []
of_some f (Some x) = f x

-- the transfers of the data and of the responses of a port
abbrev pub sent_on : Writes → Trace → List Beat
sent_on ws t = beats None ws.last t ws.w

abbrev pub responses : Writes → Trace → List Beat
responses ws t = beats ws.id None t ws.b

abbrev pub got_on : Reads → Trace → List Beat
got_on rs t = beats rs.id rs.last t rs.r

abbrev pub faults : Axi → Trace → List Broken
faults axi t = of_some (λ (ws : Writes). address_faults ws.aw.channel axi.beat (addresses axi.beat ws.aw t)) axi.writes
    ++ (of_some (λ (rs : Reads). address_faults rs.ar.channel axi.beat (addresses axi.beat rs.ar t)) axi.reads
    ++ (of_some (λ (ws : Writes). last_faults ws.w (addresses axi.beat ws.aw t) (sent_on ws t)) axi.writes
    ++ (of_some (λ (ws : Writes). response_faults ws.b (addresses axi.beat ws.aw t) (sent_on ws t) (responses ws t)) axi.writes
    ++ of_some (λ (rs : Reads). read_faults rs.r (addresses axi.beat rs.ar t) (got_on rs t)) axi.reads)))

-- ---- the bursts
abbrev pub burst_of : Bool → Address → Bool → Burst
burst_of write a done = record { write = write; id = a.id; addr = a.addr; beats = a.beats; done = done }

-- how many responses or beats end a burst: the response of a write, all beats of a read
abbrev pub needed : Bool → Address → ℕ
needed write a = if write then 1 else a.beats

abbrev pub needed_with : Bool → ℕ → List Address → ℕ
needed_with write id asks = sum_by (λ (a : Address). if a.id == id then needed write a else 0) asks

-- burst m is done where those are there which it and the bursts with its ID before it need
abbrev pub is_done : Bool → List Address → List Beat → ℕ → Address → Bool
is_done write asks answers m a = nat_le (needed_with write a.id (take (m + 1) asks)) (count_with a.id answers)

abbrev pub bursts_from : Bool → List Address → List Beat → ℕ → List Address → List Burst
bursts_from write asks answers n rest = map (λ (x : ℕ × Address). burst_of write x.1 (is_done write asks answers x.0 x.1)) (enumerate_from n rest)

-- of each address a burst
abbrev pub bursts_of : Bool → List Address → List Beat → List Burst
bursts_of write asks answers = bursts_from write asks answers 0 asks

-- those of writes and then those of reads
abbrev pub bursts : Axi → Trace → List Burst
bursts axi t = of_some (λ (ws : Writes). bursts_of true (addresses axi.beat ws.aw t) (responses ws t)) axi.writes
    ++ of_some (λ (rs : Reads). bursts_of false (addresses axi.beat rs.ar t) (got_on rs t)) axi.reads
