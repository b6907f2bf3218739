-- What a line of a map says (this project's profile).
use Rattle.std.specs.Prelude.{ℕ, ◌==◌, ◌&&◌, Bool, nat_le, if◌then◌else◌, List, [], ◌∷◌, length, Option, Some, None, codes, false}
use Rattle.std.specs.List.{list_all}
use Rattle.std.specs.Str.{bytes_eq}
use Rattle.trace_model.specs.declared.channel.Dir.{Dir}
use Rattle.trace_model.specs.declared.channel.Dir.TheVariants.{Inward, Outward}
use Rattle.trace_model.specs.Channel.{is_letter, is_letter_or_digit}
use Rattle.vidi_lines.specs.Number.{number_of}
use Rattle.chan_map.specs.declared.forms.Keyword.{Keyword}
use Rattle.chan_map.specs.declared.forms.Keyword.TheVariants as K
use Rattle.chan_map.specs.declared.map_text.Entry.{Entry}
use Rattle.chan_map.specs.declared.map_text.Entry.TheVariants.{Top, Clock, Tie, Reset, Ignore, Channel}

-- the first word of a line
unfoldable pub keyword_of : List ℕ → Option Keyword
keyword_of word =
    if bytes_eq word (codes "top") then Some K.Top else
    (if bytes_eq word (codes "clock") then Some K.Clock else
    (if bytes_eq word (codes "tie") then Some K.Tie else
    (if bytes_eq word (codes "reset") then Some K.Reset else
    (if bytes_eq word (codes "ignore") then Some K.Ignore else
    (if bytes_eq word (codes "in") then Some K.In else
    (if bytes_eq word (codes "out") then Some K.Out else None))))))

-- the name of a channel: a letter or `_`, then letters, digits and `_`, at most 64 bytes
abbrev pub is_channel_name : List ℕ → Bool
is_channel_name [] = false
is_channel_name (b ∷ bs) = is_letter b && (list_all is_letter_or_digit bs && nat_le (length bs) 63)

-- `tie PORT NUMBER`
abbrev pub tie_of : List ℕ → Option ℕ → Option Entry
tie_of port None = None
tie_of port (Some n) = Some (Tie port n)

-- `reset PORT ACTIVE CYCLES`: active 0 or 1, 1 to 1,000 cycles
abbrev pub reset_of : List ℕ → Option ℕ → Option ℕ → Option Entry
reset_of port (Some active) (Some cycles) =
    if nat_le active 1 && (nat_le 1 cycles && nat_le cycles 1000) then Some (Reset port (active == 1) cycles) else None
reset_of port active cycles = None

-- `in NAME VALID READY PORT ..` and `out NAME VALID READY PORT ..`
abbrev pub channel_of : Dir → List (List ℕ) → Option Entry
channel_of dir (name ∷ valid ∷ ready ∷ contents) =
    if is_channel_name name
    then Some (Channel record { dir = dir; name = name; valid = valid; ready = ready; contents = contents }) else None
channel_of dir words = None

-- the words behind the first one
unfoldable pub form_of : Keyword → List (List ℕ) → Option Entry
form_of K.Top (name ∷ []) = Some (Top name)
form_of K.Clock (port ∷ []) = Some (Clock port)
form_of K.Tie (port ∷ number ∷ []) = tie_of port (number_of number)
form_of K.Reset (port ∷ active ∷ cycles ∷ []) = reset_of port (number_of active) (number_of cycles)
form_of K.Ignore (port ∷ []) = Some (Ignore port)
form_of K.In words = channel_of Inward words
form_of K.Out words = channel_of Outward words
form_of keyword words = None

abbrev pub form_under : Option Keyword → List (List ℕ) → Option Entry
form_under None words = None
form_under (Some keyword) words = form_of keyword words

-- what the words of a line say, None where they have no listed form
abbrev pub entry_of : List (List ℕ) → Option Entry
entry_of [] = None
entry_of (keyword ∷ words) = form_under (keyword_of keyword) words
