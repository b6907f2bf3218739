-- What a line of an AXI file says: the channels of an AXI4 port (AMBA AXI4 IHI 0022, A1.2), and where the signals of each (A2.2 to A2.6)
-- stand among the content ports (this project's profile).
use Rattle.std.specs.Prelude.{ℕ, ◌==◌, ◌&&◌, ◌||◌, nat_lt, Bool, true, false, if◌then◌else◌, List, [], ◌∷◌, Option, Some, None, codes}
use Rattle.std.specs.Str.{bytes_eq}
use Rattle.std.specs.Option.{option_map}
use Rattle.vidi_lines.specs.Number.{number_of}
use Rattle.axi_burst.specs.declared.axi_text.Entry.{Entry}
use Rattle.axi_burst.specs.declared.axi_text.Entry.TheVariants as E
use Rattle.axi_burst.specs.declared.axi_text.Role.{Role}
use Rattle.axi_burst.specs.declared.axi_text.Role.TheVariants.{WriteAddress, WriteData, WriteResponse, ReadAddress, ReadData}
use Rattle.axi_burst.specs.declared.forms.Keyword.{Keyword}
use Rattle.axi_burst.specs.declared.forms.Keyword.TheVariants as K

-- the first word of a line
unfoldable pub keyword_of : List ℕ → Option Keyword
keyword_of word =
    if bytes_eq word (codes "aw") then Some (K.Channel WriteAddress) else
    (if bytes_eq word (codes "w") then Some (K.Channel WriteData) else
    (if bytes_eq word (codes "b") then Some (K.Channel WriteResponse) else
    (if bytes_eq word (codes "ar") then Some (K.Channel ReadAddress) else
    (if bytes_eq word (codes "r") then Some (K.Channel ReadData) else
    (if bytes_eq word (codes "memory") then Some K.Memory else
    (if bytes_eq word (codes "data") then Some K.Data else None))))))

-- a place, or `none`; None for another word
abbrev pub place_of : List ℕ → Option (Option ℕ)
place_of word = if bytes_eq word (codes "none") then Some None else option_map (λ (n : ℕ). Some n) (number_of word)

abbrev pub put_front : {X : Type 0} → Option X → Option (List X) → Option (List X)
put_front None xs = None
put_front {X} (Some x) xs = option_map (λ (ys : List X). x ∷ ys) xs

-- the places that words say, None where one of them says none
abbrev pub places_of : List (List ℕ) → Option (List (Option ℕ))
places_of [] = Some []
places_of (word ∷ words) = put_front (place_of word) (places_of words)

-- the numbers that words write, None where one of them is no number
abbrev pub numbers_of : List (List ℕ) → Option (List ℕ)
numbers_of [] = Some []
numbers_of (word ∷ words) = put_front (number_of word) (numbers_of words)

-- `aw` and `ar` have ID, ADDR, LEN, SIZE and BURST, and ADDR isn't `none`; `w` has LAST, `b` has ID, `r` has ID and LAST
abbrev pub fits_role : Role → List (Option ℕ) → Bool
fits_role WriteAddress (id ∷ Some addr ∷ len ∷ size ∷ burst ∷ []) = true
fits_role ReadAddress (id ∷ Some addr ∷ len ∷ size ∷ burst ∷ []) = true
fits_role WriteData (last ∷ []) = true
fits_role WriteResponse (id ∷ []) = true
fits_role ReadData (id ∷ last ∷ []) = true
fits_role role places = false

abbrev pub channel_from : Role → List ℕ → Option (List (Option ℕ)) → Option Entry
channel_from role channel None = None
channel_from role channel (Some places) = if fits_role role places then Some (E.Channel role channel places) else None

-- `CH` and the places, behind the role
abbrev pub channel_of : Role → List (List ℕ) → Option Entry
channel_of role [] = None
channel_of role (channel ∷ words) = channel_from role channel (places_of words)

abbrev pub memory_from : Option ℕ → Option Entry
memory_from None = None
memory_from (Some n) = if nat_lt n 1 || nat_lt 65536 n then None else Some (E.Memory n)

-- the 1 to 65,536 words of a memory
abbrev pub memory_of : List (List ℕ) → Option Entry
memory_of (word ∷ []) = memory_from (number_of word)
memory_of words = None

-- the three places of data and strobes
abbrev pub data_of : List (List ℕ) → Option Entry
data_of (wdata ∷ wstrb ∷ rdata ∷ []) = option_map (λ (places : List ℕ). E.Data places) (numbers_of (wdata ∷ wstrb ∷ rdata ∷ []))
data_of words = None

-- the words behind the first one; `data` has a form only in a file with all five channels
abbrev pub form_of : Bool → Keyword → List (List ℕ) → Option Entry
form_of five (K.Channel role) words = channel_of role words
form_of five K.Memory words = memory_of words
form_of five K.Data words = if five then data_of words else None

abbrev pub form_under : Bool → Option Keyword → List (List ℕ) → Option Entry
form_under five None words = None
form_under five (Some keyword) words = form_of five keyword words

-- what the words of a line behind `beat N` say, None where they have no listed form
abbrev pub entry_of : Bool → List (List ℕ) → Option Entry
entry_of five [] = None
entry_of five (first ∷ words) = form_under five (keyword_of first) words

-- a power of two from 1 to 128
abbrev pub is_beat : ℕ → Bool
is_beat n = (n == 1) || ((n == 2) || ((n == 4) || ((n == 8) || ((n == 16) || ((n == 32) || ((n == 64) || (n == 128)))))))

abbrev pub beat_from : Bool → Option ℕ → Option ℕ
beat_from named None = None
beat_from named (Some n) = if named && is_beat n then Some n else None

-- `beat N`, the data bus's bytes
abbrev pub beat_of : List (List ℕ) → Option ℕ
beat_of (first ∷ word ∷ []) = beat_from (bytes_eq first (codes "beat")) (number_of word)
beat_of words = None
