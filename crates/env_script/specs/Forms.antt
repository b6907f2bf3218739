-- What a line of a script says (this project's profile).
use Rattle.std.specs.Prelude.{ℕ, ◌+◌, ◌&&◌, Bool, false, if◌then◌else◌, List, [], ◌∷◌, Option, Some, None, codes}
use Rattle.std.specs.Str.{bytes_eq}
use Rattle.std.specs.Option.{option_map}
use Rattle.run_model.specs.trace_model.declared.channel.Channel.{Channel}
use Rattle.run_model.specs.chan_map.vidi_lines.Number.{number_of}
use Rattle.env_script.specs.declared.forms.Keyword.{Keyword}
use Rattle.env_script.specs.declared.forms.Keyword.TheVariants as K
use Rattle.env_script.specs.declared.said.Said.{Said}
use Rattle.env_script.specs.declared.said.Said.TheVariants.{Send, Take, TakeAll, Wait, After}
use Rattle.env_script.specs.declared.said.StepLine.{StepLine}
use Rattle.env_script.specs.declared.said.ScriptLine.{ScriptLine}
use Rattle.env_script.specs.declared.said.ScriptLine.TheVariants as L

-- the word behind a channel's name
unfoldable pub keyword_of : List ℕ → Option Keyword
keyword_of word =
    if bytes_eq word (codes "send") then Some K.Send else
    (if bytes_eq word (codes "take") then Some K.Take else
    (if bytes_eq word (codes "wait") then Some K.Wait else
    (if bytes_eq word (codes "after") then Some K.After else None)))

-- the number of the channel with this name, where the first of these channels has number c
abbrev pub channel_named : ℕ → List Channel → List ℕ → Option ℕ
channel_named c [] name = None
channel_named c (channel ∷ channels) name = if bytes_eq name channel.name then Some c else channel_named (c + 1) channels name

abbrev pub put_front : Option ℕ → Option (List ℕ) → Option (List ℕ)
put_front None ns = None
put_front (Some n) ns = option_map (λ (xs : List ℕ). n ∷ xs) ns

-- the numbers that words write, None where one of them is no number
abbrev pub numbers_of : List (List ℕ) → Option (List ℕ)
numbers_of [] = Some []
numbers_of (word ∷ words) = put_front (number_of word) (numbers_of words)

-- `send N ..`
abbrev pub send_of : List (List ℕ) → Option Said
send_of words = option_map (λ (ns : List ℕ). Send ns) (numbers_of words)

-- `take all` and `take N`
abbrev pub take_of : List ℕ → Option Said
take_of word = if bytes_eq word (codes "all") then Some TakeAll else option_map (λ (n : ℕ). Take n) (number_of word)

-- `wait N`
abbrev pub wait_of : List ℕ → Option Said
wait_of word = option_map (λ (n : ℕ). Wait n) (number_of word)

-- `after CH N`
abbrev pub after_of : List Channel → List ℕ → List ℕ → Option Said
after_of channels name word = option_map (λ (n : ℕ). After (channel_named 0 channels name) n) (number_of word)

-- what the words behind the keyword say
abbrev pub said_of : List Channel → Keyword → List (List ℕ) → Option Said
said_of channels K.Send words = send_of words
said_of channels K.Take (n ∷ []) = take_of n
said_of channels K.Wait (n ∷ []) = wait_of n
said_of channels K.After (name ∷ n ∷ []) = after_of channels name n
said_of channels keyword words = None

abbrev pub said_under : List Channel → Option Keyword → List (List ℕ) → Option Said
said_under channels None words = None
said_under channels (Some keyword) words = said_of channels keyword words

-- `CH send N ..`, `CH take N`, `CH take all`, `CH wait N` and `CH after CH N`, in the line with number n; None for other words
abbrev pub line_of : List Channel → ℕ → List (List ℕ) → Option StepLine
line_of channels n (name ∷ keyword ∷ words) =
    option_map (λ (said : Said). record { line = n; channel = channel_named 0 channels name; said = said })
    (said_under channels (keyword_of keyword) words)
line_of channels n words = None

-- a line whose first word is `reset` and whose second is `at` is a reset line, also where it is then of no form
abbrev pub is_reset : List (List ℕ) → Bool
is_reset (first ∷ second ∷ words) = bytes_eq first (codes "reset") && bytes_eq second (codes "at")
is_reset words = false

-- `reset at T`, which has three words, in the line with number n
abbrev pub reset_of : ℕ → List (List ℕ) → Option ScriptLine
reset_of n (reset ∷ at ∷ word ∷ []) = option_map (λ (time : ℕ). L.Reset n time) (number_of word)
reset_of n words = None

-- a reset line or a step, in the line with number n; None for words of no form
abbrev pub script_line : List Channel → ℕ → List (List ℕ) → Option ScriptLine
script_line channels n words =
    if is_reset words then reset_of n words else option_map (λ (l : StepLine). L.Step l) (line_of channels n words)
