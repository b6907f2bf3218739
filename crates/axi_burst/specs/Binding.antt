-- A2: how the lines of an AXI file don't fit a table of channels, and what they say where they do (AMBA AXI4 IHI 0022, A1.2; this
-- project's profile).
use Rattle.std.specs.Prelude.{◌≡◌, ℕ, ◌*◌, ◌==◌, ◌&&◌, not, Bool, true, false, if◌then◌else◌, List, [], ◌∷◌, take, find, position}
use Rattle.std.specs.Prelude.{Option, None, Some, Result, Ok, Err, is_some, slice_get, option_and_then}
use Rattle.std.specs.List.{flat_map, list_any, enumerate_from}
use Rattle.std.specs.Option.{option_map}
use Rattle.std.specs.Str.{bytes_eq}
use Rattle.vidi_lines.specs.vidi_bits.Findings.{first, told_if}
use Rattle.trace_model.specs.declared.channel.Channel.{Channel}
use Rattle.trace_model.specs.declared.channel.Dir.{Dir}
use Rattle.trace_model.specs.declared.channel.Dir.TheVariants.{Inward, Outward}
use Rattle.axi_burst.specs.declared.axi.Axi.{Axi}
use Rattle.axi_burst.specs.declared.axi.AddressPorts.{AddressPorts}
use Rattle.axi_burst.specs.declared.axi.DataPorts.{DataPorts}
use Rattle.axi_burst.specs.declared.axi.Reads.{Reads}
use Rattle.axi_burst.specs.declared.axi.Writes.{Writes}
use Rattle.axi_burst.specs.declared.axi_text.AxiLine.{AxiLine}
use Rattle.axi_burst.specs.declared.axi_text.AxiText.{AxiText}
use Rattle.axi_burst.specs.declared.axi_text.Entry.{Entry}
use Rattle.axi_burst.specs.declared.axi_text.Entry.TheVariants as E
use Rattle.axi_burst.specs.declared.axi_text.Role.{Role}
use Rattle.axi_burst.specs.declared.axi_text.Role.TheVariants.{WriteAddress, WriteData, WriteResponse, ReadAddress, ReadData}
use Rattle.axi_burst.specs.declared.error.AxiError.{AxiError}
use Rattle.axi_burst.specs.declared.error.AxiError.TheVariants as e
use Rattle.axi_burst.specs.declared.ports.End.{End}
use Rattle.axi_burst.specs.declared.ports.Ends.{Ends}
use Rattle.axi_burst.specs.Kinds.{has_role, is_of, same}
use Rattle.axi_burst.specs.Ports.{differ, no_ends, same_place, with_channel, words_fit}

-- the number of the channel of this name
abbrev pub channel_named : List Channel → List ℕ → Option ℕ
channel_named channels name = position (λ (c : Channel). bytes_eq name c.name) channels

abbrev pub channel_at : List Channel → List ℕ → Option Channel
channel_at channels name = option_and_then (λ c. slice_get channels c) (channel_named channels name)

-- ---- the side of the port: whether the design is where requests (`aw`, `w`, `ar`) come in, and responses (`b`, `r`) go out
abbrev pub is_request : Role → Bool
is_request WriteResponse = false
is_request ReadData = false
is_request role = true

abbrev pub is_inward : Dir → Bool
is_inward Inward = true
is_inward Outward = false

abbrev pub side : Role → Dir → Bool
side role dir = same (is_request role) (is_inward dir)

abbrev pub side_of : List Channel → Entry → Option Bool
side_of channels (E.Channel role name places) = option_map (λ (c : Channel). side role c.dir) (channel_at channels name)
side_of channels entry = None

abbrev pub is_channel : Entry → Bool
is_channel (E.Channel role name places) = true
is_channel entry = false

abbrev pub side_under : List Channel → Option AxiLine → Option Bool
side_under channels None = None
side_under channels (Some l) = side_of channels l.entry

-- that of the first channel line, where its channel is there
abbrev pub first_side : List Channel → List AxiLine → Option Bool
first_side channels lines = side_under channels (find (λ (l : AxiLine). is_channel l.entry) lines)

abbrev pub is_side : Option Bool → Bool → Bool
is_side None own = true
is_side (Some first) own = same first own

-- ---- whether a line fits
abbrev pub names_channel : List ℕ → Entry → Bool
names_channel name (E.Channel role own places) = bytes_eq name own
names_channel name entry = false

abbrev pub is_named : List AxiLine → List ℕ → Bool
is_named lines name = list_any (λ (l : AxiLine). names_channel name l.entry) lines

abbrev pub row_fits : Option Bool → Role → List (Option ℕ) → Option Channel → Bool
row_fits first role places None = false
row_fits first role places (Some c) = is_side first (side role c.dir) && (differ places && words_fit role c.widths places)

-- the channel is there and wasn't named before, it has the side of the first one, and the places have ports that fit their words
abbrev pub channel_fits : List Channel → List AxiLine → List AxiLine → Role → List ℕ → List (Option ℕ) → Bool
channel_fits channels lines before role name places =
    not (is_named before name) && row_fits (first_side channels lines) role places (channel_at channels name)

abbrev pub is_exactly : ℕ → Option ℕ → Bool
is_exactly width None = false
is_exactly width (Some own) = own == width

abbrev pub has_width : ℕ → ℕ → Option Channel → Bool
has_width width place None = false
has_width width place (Some c) = is_exactly width (slice_get c.widths place)

-- the channel of a line has a port of this width at this place, which the line doesn't name
abbrev pub is_free : List Channel → ℕ → ℕ → Entry → Bool
is_free channels width place (E.Channel role name places) =
    has_width width place (channel_at channels name) && not (list_any (same_place (Some place)) places)
is_free channels width place entry = false

abbrev pub is_free_under : List Channel → ℕ → ℕ → Option AxiLine → Bool
is_free_under channels width place None = false
is_free_under channels width place (Some l) = is_free channels width place l.entry

abbrev pub entry_under : Option AxiLine → Option Entry
entry_under None = None
entry_under (Some l) = Some l.entry

abbrev pub line_of : List AxiLine → Role → Option AxiLine
line_of lines role = find (λ (l : AxiLine). is_of role l.entry) lines

-- data and strobes in `w`, data in `r`
abbrev pub data_fits : ℕ → List Channel → List AxiLine → List ℕ → Bool
data_fits beat channels lines (wdata ∷ wstrb ∷ rdata ∷ []) =
    is_free_under channels (8 * beat) wdata (line_of lines WriteData)
    && (is_free_under channels beat wstrb (line_of lines WriteData)
    && is_free_under channels (8 * beat) rdata (line_of lines ReadData))
data_fits beat channels lines places = false

abbrev pub line_fits : ℕ → List Channel → List AxiLine → List AxiLine → Entry → Bool
line_fits beat channels lines before (E.Channel role name places) = channel_fits channels lines before role name places
line_fits beat channels lines before (E.Memory words) = true
line_fits beat channels lines before (E.Data places) = data_fits beat channels lines places

-- A2: the lines that don't fit, in the order of the text
abbrev pub faults_from : ℕ → List Channel → List AxiLine → ℕ → List AxiLine → List AxiError
faults_from beat channels lines n rest =
    flat_map (λ (x : ℕ × AxiLine). told_if (not (line_fits beat channels lines (take x.0 lines) x.1.entry)) (e.Port x.1.line)) (enumerate_from n rest)

abbrev pub port_faults : ℕ → List Channel → List AxiLine → List AxiError
port_faults beat channels lines = faults_from beat channels lines 0 lines

-- ---- what lines that fit say
abbrev pub with_found : Ends → Role → List (Option ℕ) → Option ℕ → Ends
with_found ends role places None = ends
with_found ends role places (Some c) = with_channel ends role c places

abbrev pub data_ports : List ℕ → Option DataPorts
data_ports (wdata ∷ wstrb ∷ rdata ∷ []) = Some (record { wdata = wdata; wstrb = wstrb; rdata = rdata })
data_ports places = None

abbrev pub with_entry : List Channel → Ends → Entry → Ends
with_entry channels ends (E.Channel role name places) = with_found ends role places (channel_named channels name)
with_entry channels ends (E.Memory words) = record ends { memory = Some words }
with_entry channels ends (E.Data places) = record ends { places = data_ports places }

abbrev pub ends_from : List Channel → Ends → List AxiLine → Ends
ends_from channels ends [] = ends
ends_from channels ends (l ∷ lines) = ends_from channels (with_entry channels ends l.entry) lines

abbrev pub ends_of : List Channel → List AxiLine → Ends
ends_of channels lines = ends_from channels no_ends lines

abbrev pub writes_from : Option AddressPorts → Option End → Option End → Option Writes
writes_from (Some aw) (Some w) (Some b) = Some (record { aw = aw; w = w.channel; last = w.last; b = b.channel; id = b.id })
writes_from aw w b = None

abbrev pub reads_from : Option AddressPorts → Option End → Option Reads
reads_from (Some ar) (Some r) = Some (record { ar = ar; r = r.channel; id = r.id; last = r.last })
reads_from ar r = None

abbrev pub axi_from : ℕ → Ends → Axi
axi_from beat ends = record {
  beat = beat;
  writes = writes_from ends.aw ends.w ends.b;
  reads = reads_from ends.ar ends.r;
  memory = ends.memory;
  places = ends.places;
}

-- what a file says over channels, each of whose lines fits them
pub record IsBound (text : AxiText) (channels : List Channel) (axi : Axi) : Type 0 where
  pub fits : port_faults text.beat channels text.lines ≡ []
  pub axi_is : axi ≡ axi_from text.beat (ends_of channels text.lines)
  -- nothing that the file says of writes or of reads is left out
  pub writes : is_some axi.writes ≡ has_role text.lines WriteAddress
  pub reads : is_some axi.reads ≡ has_role text.lines ReadAddress

-- an answer exactly where no line is at fault, else the first one
abbrev pub BindsAxi : AxiText → List Channel → Result Axi AxiError → Type 0
BindsAxi text channels (Ok axi) = IsBound text channels axi
BindsAxi text channels (Err error) = first (port_faults text.beat channels text.lines) ≡ Some error

-- ---- what one line does to what is said
abbrev pub row_with : List Channel → List AxiLine → Ends → Role → List ℕ → List (Option ℕ) → Option Ends
row_with channels lines ends role name places =
    if row_fits (first_side channels lines) role places (channel_at channels name)
    then Some (with_found ends role places (channel_named channels name)) else None

abbrev pub line_with : ℕ → List Channel → List AxiLine → List AxiLine → Ends → Entry → Option Ends
line_with beat channels lines before ends entry =
    if line_fits beat channels lines before entry then Some (with_entry channels ends entry) else None

-- what all lines say
abbrev pub BindsEnds : ℕ → List Channel → List AxiLine → Result Ends AxiError → Type 0
BindsEnds beat channels lines (Ok ends) = (port_faults beat channels lines ≡ []) × (ends ≡ ends_of channels lines)
BindsEnds beat channels lines (Err error) = first (port_faults beat channels lines) ≡ Some error
