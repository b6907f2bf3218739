-- The lines of a replay that is short (this project's profile). Every line ends with a newline, and numbers are decimal.
use Rattle.std.specs.Prelude.{ℕ, List, [], ◌∷◌, ◌++◌, codes, decimal}
use Rattle.std.specs.List.{flat_map}
use Rattle.run_model.specs.trace_model.declared.channel.Channel.{Channel}
use Rattle.run_model.specs.trace_model.declared.event.Event.{Event}
use Rattle.run_model.specs.trace_model.declared.event.Kind.{Kind}
use Rattle.run_model.specs.trace_model.declared.event.Kind.TheVariants.{Start, End, Reset}
use Rattle.run_model.specs.declared.held.Await.{Await}
use Rattle.run_model.specs.declared.held.Held.{Held}
use Rattle.report_text.specs.Report.{epoch_line, name_of}
use Rattle.report_text.specs.Text.{newline}

abbrev pub kind_text : Kind → List ℕ
kind_text Start = codes " start "
kind_text End = codes " end "
kind_text Reset = codes "reset "

-- the channel of an event, which a reset hasn't
abbrev pub source : List Channel → ℕ → Kind → List ℕ
source channels c Start = name_of channels c
source channels c End = name_of channels c
source channels c Reset = []

-- `CH start J`, `CH end J` or `reset J`
abbrev pub event_line : List Channel → Event → List ℕ
event_line channels e = source channels e.channel e.kind ++ (kind_text e.kind ++ (decimal e.index ++ newline))

-- `awaits CH have N need N`
abbrev pub await_line : List Channel → Await → List ℕ
await_line channels a = codes "awaits " ++ (name_of channels a.channel ++ (codes " have " ++ (decimal a.have
    ++ (codes " need " ++ (decimal a.need ++ newline)))))

-- `held CH start J`, `held CH end J` or `held reset J`, and a line for each channel that it awaits
abbrev pub held_lines : List Channel → Held → List ℕ
held_lines channels h = codes "held " ++ (event_line channels h.event ++ flat_map (await_line channels) h.awaits)

-- `waits CH start J`, `waits CH end J` or `waits reset J`
abbrev pub wait_line : List Channel → Event → List ℕ
wait_line channels e = codes "waits " ++ event_line channels e

-- the epoch of the events that are listed, that of the first one
abbrev pub listed_epoch : List Held → List Event → ℕ
listed_epoch [] [] = 0
listed_epoch [] (e ∷ events) = e.epoch
listed_epoch (h ∷ helds) events = h.event.epoch

-- what `replay` prints where it is short after all its cycles: the epoch where it is above 0, what is held back, and what is waited for
abbrev pub short_lines : List Held → List Event → ℕ → List Channel → List ℕ
short_lines helds events cycles channels = codes "short after " ++ (decimal cycles ++ (codes " cycles" ++ (newline
    ++ (epoch_line 0 (listed_epoch helds events)
    ++ (flat_map (held_lines channels) helds ++ flat_map (wait_line channels) events)))))
