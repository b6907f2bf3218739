-- The ports of a channel that a line names, and what the line says of them (AMBA AXI4 IHI 0022, A2.2 to A2.6: the signals and their
-- widths; this project's profile).
use Rattle.std.specs.Prelude.{ℕ, ◌==◌, ◌&&◌, not, nat_le, Bool, true, false, if◌then◌else◌, List, [], ◌∷◌, Option, None, Some, slice_get}
use Rattle.std.specs.List.{list_any}
use Rattle.axi_burst.specs.declared.axi.AddressPorts.{AddressPorts}
use Rattle.axi_burst.specs.declared.ports.End.{End}
use Rattle.axi_burst.specs.declared.ports.Ends.{Ends}
use Rattle.axi_burst.specs.declared.ports.Word.{Word}
use Rattle.axi_burst.specs.declared.ports.Word.TheVariants.{Id, Addr, Len, Size, Burst, Last}
use Rattle.axi_burst.specs.declared.axi_text.Role.{Role}
use Rattle.axi_burst.specs.declared.axi_text.Role.TheVariants.{WriteAddress, WriteData, WriteResponse, ReadAddress, ReadData}

-- ---- whether a port has the width of its word
abbrev pub is_wide : Word → ℕ → Bool
is_wide Id width = nat_le width 32
is_wide Addr width = nat_le width 64
is_wide Len width = width == 8
is_wide Size width = width == 3
is_wide Burst width = width == 2
is_wide Last width = width == 1

abbrev pub is_port : Word → Option ℕ → Bool
is_port word None = false
is_port word (Some width) = is_wide word width

-- a place has a port, of these widths, that is as wide as the word; `none` has none
abbrev pub place_fits : List ℕ → Word → Option ℕ → Bool
place_fits widths word None = true
place_fits widths word (Some place) = is_port word (slice_get widths place)

-- ID, ADDR, LEN, SIZE and BURST
abbrev pub address_fits : List ℕ → List (Option ℕ) → Bool
address_fits widths (id ∷ Some addr ∷ len ∷ size ∷ burst ∷ []) =
    place_fits widths Id id && (place_fits widths Addr (Some addr)
    && (place_fits widths Len len && (place_fits widths Size size && place_fits widths Burst burst)))
address_fits widths places = false

-- the places of a line of this role have ports that fit their words
abbrev pub words_fit : Role → List ℕ → List (Option ℕ) → Bool
words_fit WriteAddress widths places = address_fits widths places
words_fit ReadAddress widths places = address_fits widths places
words_fit WriteData widths (last ∷ []) = place_fits widths Last last
words_fit WriteResponse widths (id ∷ []) = place_fits widths Id id
words_fit ReadData widths (id ∷ last ∷ []) = place_fits widths Id id && place_fits widths Last last
words_fit role widths places = false

-- ---- no place stands twice
abbrev pub same_place : Option ℕ → Option ℕ → Bool
same_place (Some a) (Some b) = a == b
same_place a b = false

abbrev pub differ : List (Option ℕ) → Bool
differ [] = true
differ (place ∷ places) = not (list_any (same_place place) places) && differ places

-- ---- what a line says, over channel number c
abbrev pub address_ports : ℕ → List (Option ℕ) → Option AddressPorts
address_ports c (id ∷ Some addr ∷ len ∷ size ∷ burst ∷ []) =
    Some (record { channel = c; id = id; addr = addr; len = len; size = size; burst = burst })
address_ports c places = None

abbrev pub end_ports : ℕ → Option ℕ → Option ℕ → Option End
end_ports c id last = Some (record { channel = c; id = id; last = last })

abbrev pub no_ends : Ends
no_ends = record { aw = None; w = None; b = None; ar = None; r = None; memory = None; places = None }

-- the channels of a port, one more being said
abbrev pub with_channel : Ends → Role → ℕ → List (Option ℕ) → Ends
with_channel ends WriteAddress c places = record ends { aw = address_ports c places }
with_channel ends ReadAddress c places = record ends { ar = address_ports c places }
with_channel ends WriteData c (last ∷ []) = record ends { w = end_ports c None last }
with_channel ends WriteResponse c (id ∷ []) = record ends { b = end_ports c id None }
with_channel ends ReadData c (id ∷ last ∷ []) = record ends { r = end_ports c id last }
with_channel ends role c places = ends

-- and where its words fit
abbrev pub with_fitting : Ends → Role → ℕ → List ℕ → List (Option ℕ) → Option Ends
with_fitting ends role c widths places = if words_fit role widths places then Some (with_channel ends role c places) else None
