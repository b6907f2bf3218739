-- What a `MemoryEnv` keeps of the rows, and how it goes on by a row.
use Rattle.std.specs.Prelude.{◌≡◌, ℕ, ◌+◌, ◌==◌, ◌<◌, ◌≤◌, ◌||◌, nat_le, nat_lt, Bool, true, false, if◌then◌else◌, List, [], ◌∷◌, ◌++◌}
use Rattle.std.specs.Prelude.{length, slice_get}
use Rattle.std.specs.Prelude.{Option, None, Some, is_none, is_some}
use Rattle.std.specs.Option.{option_map}
use Rattle.axi_burst.specs.declared.axi.AddressPorts.{AddressPorts}
use Rattle.axi_burst.specs.declared.axi.Axi.{Axi}
use Rattle.axi_burst.specs.declared.axi.DataPorts.{DataPorts}
use Rattle.axi_burst.specs.declared.axi.Reads.{Reads}
use Rattle.axi_burst.specs.declared.axi.Writes.{Writes}
use Rattle.axi_burst.specs.declared.axi_text.Role.{Role}
use Rattle.axi_burst.specs.declared.axi_text.Role.TheVariants.{WriteResponse, ReadData}
use Rattle.axi_burst.specs.declared.transfers.Address.{Address}
use Rattle.axi_burst.specs.Binding.{is_inward}
use Rattle.axi_burst.specs.Passes.{IsAddress, places_of}
use Rattle.axi_burst.specs.Ports.{address_fits}
use Rattle.axi_burst.specs.Forms.{is_beat}
use Rattle.axi_burst.specs.Transfers.{begun_address}
use Rattle.env_script.specs.trace_model.declared.channel.Channel.{Channel}
use Rattle.env_script.specs.trace_model.declared.channel.Dir.{Dir}
use Rattle.env_script.specs.trace_model.declared.channel.Dir.TheVariants.{Inward, Outward}
use Rattle.env_script.specs.trace_model.declared.row.Row.{Row}
use Rattle.env_script.specs.trace_model.Packet.{widths_of}
use Rattle.env_script.specs.trace_model.Row.{completes, content_at}
use Rattle.env_script.specs.trace_model.vidi_bits.Number.{has}
use Rattle.axi_memory.specs.declared.served.Ports.{Ports}
use Rattle.axi_memory.specs.declared.served.Served.{Served}
use Rattle.axi_memory.specs.declared.turn.Turn.{Turn}
use Rattle.axi_memory.specs.Memory.{Standing, done, memory_after, memory_offer, offer_of, read_asks, read_number, response, standing_after, turns}
use Rattle.axi_memory.specs.Memory.{word_under, write_asks, written}

abbrev pub served : List Channel → Ports → Served
served channels ports = record { channels = channels; ports = ports }

-- of a file that lacks nothing the size and the ports
abbrev pub ports_from : ℕ → Option ℕ → Option Writes → Option Reads → Option DataPorts → Option Ports
ports_from beat (Some words) (Some writes) (Some reads) (Some places) =
    Some (record { beat = beat; words = words; writes = writes; reads = reads; places = places })
ports_from beat words writes reads places = None

abbrev pub ports_of : Axi → Option Ports
ports_of axi = ports_from axi.beat axi.memory axi.writes axi.reads axi.places

-- ---- the ports
abbrev pub has_dir : Dir → Option Channel → Bool
has_dir dir None = false
has_dir Inward (Some x) = is_inward x.dir
has_dir Outward (Some x) = if is_inward x.dir then false else true

-- the words of an address have ports in its channel
abbrev pub has_address : List Channel → AddressPorts → Bool
has_address channels ports = address_fits (widths_of (slice_get channels ports.channel)) (places_of ports)

-- five channels, each in its direction, no two of them one; addresses that fit their ports; and words of at most 16 bytes
pub record AreServed (channels : List Channel) (ports : Ports) : Type 0 where
  pub aw : has_dir Outward (slice_get channels ports.writes.aw.channel) ≡ true
  pub w : has_dir Outward (slice_get channels ports.writes.w) ≡ true
  pub b : has_dir Inward (slice_get channels ports.writes.b) ≡ true
  pub ar : has_dir Outward (slice_get channels ports.reads.ar.channel) ≡ true
  pub r : has_dir Inward (slice_get channels ports.reads.r) ≡ true
  pub w_aw : (ports.writes.w == ports.writes.aw.channel) ≡ false
  pub ar_aw : (ports.reads.ar.channel == ports.writes.aw.channel) ≡ false
  pub ar_w : (ports.reads.ar.channel == ports.writes.w) ≡ false
  pub r_b : (ports.reads.r == ports.writes.b) ≡ false
  pub writes : has_address channels ports.writes.aw ≡ true
  pub reads : has_address channels ports.reads.ar ≡ true
  pub beat : is_beat ports.beat ≡ true
  pub small : ports.beat ≤ 16

-- ---- how the memory stands, by what is kept: the next beat of the write burst that is out, the read beat that is offered, and its word
abbrev pub wants : Option Turn → Bool
wants None = false
wants (Some t) = nat_lt t.beat t.ask.beats

abbrev pub answers : Option Turn → Bool
answers None = false
answers (Some t) = nat_le t.ask.beats t.beat

abbrev pub id_of : Option Turn → ℕ
id_of None = 0
id_of (Some t) = t.ask.id

abbrev pub standing : Option Turn → Option Turn → ℕ → Standing
standing writing reading shown = record {
  free = is_none writing;
  wants = wants writing;
  answers = answers writing;
  id = id_of writing;
  turn = reading;
  word = shown;
}

-- the number of a port on a channel, before upper bits are lost; 0 while no content is offered
abbrev pub number_of : Served → Standing → Option Role → ℕ → ℕ
number_of p s (Some WriteResponse) port = if s.answers then response p s port else 0
number_of p s (Some ReadData) port = read_number p s.turn s.word port
number_of p s role port = 0

-- a beat of a burst that may be asked for, or the place behind its last one
pub record IsTurn (t : Turn) : Type 0 where
  pub ask : IsAddress t.ask
  pub within : t.beat ≤ t.ask.beats

abbrev pub AreTurns : Option Turn → Type 0
AreTurns turn = (t : Turn) → turn ≡ Some t → IsTurn t

-- a beat of a burst that may be asked for
pub record IsBeat (t : Turn) : Type 0 where
  pub ask : IsAddress t.ask
  pub within : t.beat < t.ask.beats

abbrev pub AreBeats : Option Turn → Type 0
AreBeats turn = (t : Turn) → turn ≡ Some t → IsBeat t

-- ---- a row takes what is offered alone
pub record Obeys (p : Served) (s : Standing) (row : Row) : Type 0 where
  pub aw : completes row p.ports.writes.aw.channel ≡ true → s.free ≡ true
  pub w : completes row p.ports.writes.w ≡ true → s.wants ≡ true
  pub b : completes row p.ports.writes.b ≡ true → s.answers ≡ true
  pub ar : completes row p.ports.reads.ar.channel ≡ true → is_none s.turn ≡ true
  pub r : completes row p.ports.reads.r ≡ true → is_some s.turn ≡ true

-- ---- how a row moves it
abbrev pub first_turn : Served → AddressPorts → Row → Turn
first_turn p ports row = record { ask = begun_address p.ports.beat ports (content_at p.channels row.contents ports.channel); beat = 0 }

abbrev pub moved : Turn → Turn
moved t = record { ask = t.ask; beat = t.beat + 1 }

abbrev pub next_write : Served → Row → Option Turn → Option Turn
next_write p row turn =
    if has row.ends p.ports.writes.b then None else
    (if has row.ends p.ports.writes.aw.channel then Some (first_turn p p.ports.writes.aw row) else
    (if has row.ends p.ports.writes.w then option_map moved turn else turn))

-- the beat behind one, where its burst has more
abbrev pub later : Option Turn → Option Turn
later None = None
later (Some t) = if t.beat + 1 == t.ask.beats then None else Some (moved t)

abbrev pub next_read : Served → Row → Option Turn → Option Turn
next_read p row turn =
    if has row.ends p.ports.reads.ar.channel then Some (first_turn p p.ports.reads.ar row) else
    (if has row.ends p.ports.reads.r then later turn else turn)

abbrev pub written_under : Served → List ℕ → List ℕ → Option Turn → List ℕ
written_under p words content None = words
written_under p words content (Some t) = written p words (content, t)

abbrev pub next_words : Served → Row → Option Turn → List ℕ → List ℕ
next_words p row turn words =
    if has row.ends p.ports.writes.w then written_under p words (content_at p.channels row.contents p.ports.writes.w) turn else words

abbrev pub next_shown : Served → Row → Option Turn → List ℕ → ℕ → ℕ
next_shown p row turn words shown =
    if has row.ends p.ports.reads.ar.channel || has row.ends p.ports.reads.r then word_under p words turn else shown

-- ---- it stands for rows
-- the last burst is out, or all are answered
abbrev pub IsWriting : List Address → ℕ → ℕ → Option Turn → Type 0
IsWriting asks beats answered None = (answered ≡ length asks) × (beats ≡ length (turns asks))
IsWriting asks beats answered (Some t) = (before : List Address) × (asks ≡ before ++ t.ask ∷ []) × (answered ≡ length before)
    × (beats ≡ length (turns before) + t.beat) × (t.beat ≤ t.ask.beats)

-- the last burst has a beat to come, or all have come
abbrev pub IsReading : List Address → ℕ → Option Turn → Type 0
IsReading asks beats None = beats ≡ length (turns asks)
IsReading asks beats (Some t) = (before : List Address) × (asks ≡ before ++ t.ask ∷ []) × (beats ≡ length (turns before) + t.beat)
    × (t.beat < t.ask.beats)

pub record StandsFor (p : Served) (writing reading : Option Turn) (shown : ℕ) (words : List ℕ) (cycle : ℕ) (rows : List Row) : Type 0 where
  pub cycle_is : cycle ≡ length rows
  pub writes : IsWriting (write_asks p rows) (done p p.ports.writes.w rows) (done p p.ports.writes.b rows) writing
  pub reads : IsReading (read_asks p rows) (done p p.ports.reads.r rows) reading
  pub words_are : words ≡ memory_after p rows
  pub shown_is : shown ≡ (standing_after p rows).word

-- what is kept offers what the memory offers
abbrev pub OffersAsKept : Served → Type 0
OffersAsKept p = (writing reading : Option Turn) (shown : ℕ) (words : List ℕ) (cycle : ℕ) (rows : List Row)
    → StandsFor p writing reading shown words cycle rows → (c : ℕ) → offer_of p (standing writing reading shown) c ≡ memory_offer p rows c
