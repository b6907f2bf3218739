-- Which lines of a map may follow which (this project's profile).
use Rattle.std.specs.Prelude.{ℕ, ◌&&◌, not, Bool, true, false, if◌then◌else◌, List, [], ◌∷◌, ◌++◌, map}
use Rattle.std.specs.List.{list_any, flat_map}
use Rattle.std.specs.Str.{bytes_eq}
use Rattle.vidi_lines.specs.vidi_bits.Findings.{is_nil}
use Rattle.chan_map.specs.declared.map_text.Entry.{Entry}
use Rattle.chan_map.specs.declared.map_text.Entry.TheVariants.{Top, Clock, Reset, Channel}
use Rattle.chan_map.specs.declared.map_text.MapLine.{MapLine}
use Rattle.chan_map.specs.Forms.{is_channel_name}

abbrev pub entries : List MapLine → List Entry
entries lines = map (λ (l : MapLine). l.entry) lines

abbrev pub is_top : Entry → Bool
is_top (Top name) = true
is_top entry = false

abbrev pub clock_name : Entry → List (List ℕ)
clock_name (Clock port) = port ∷ []
clock_name entry = []

abbrev pub is_reset : Entry → Bool
is_reset (Reset port active cycles) = true
is_reset entry = false

abbrev pub top_name : Entry → List (List ℕ)
top_name (Top name) = name ∷ []
top_name entry = []

abbrev pub channel_name : Entry → List (List ℕ)
channel_name (Channel c) = c.name ∷ []
channel_name entry = []

abbrev pub channel_names : List Entry → List (List ℕ)
channel_names entries = flat_map channel_name entries

-- a second `clock` or `reset`, or a channel with a name that was there
abbrev pub repeats : List Entry → Entry → Bool
repeats before (Clock port) = not (is_nil (flat_map clock_name before))
repeats before (Reset port active cycles) = list_any is_reset before
repeats before (Channel c) = list_any (bytes_eq c.name) (channel_names before)
repeats before entry = false

-- the first line with words is `top`, and no other is
abbrev pub may_follow : List Entry → Entry → Bool
may_follow before entry = if is_nil before then is_top entry else not (is_top entry) && not (repeats before entry)

-- the entries follow one another, behind those before
abbrev pub follow : List Entry → List Entry → Bool
follow before [] = true
follow before (entry ∷ more) = may_follow before entry && follow (before ++ entry ∷ []) more

-- the name of a channel is one
abbrev pub is_named : Entry → Bool
is_named (Channel c) = is_channel_name c.name
is_named entry = true
