-- What `move TRACE CH J before|after CH K OUT` owes.
use Rattle.std.specs.Prelude.{ℕ, Bool, List, Option, None, Some, Ok, Err, length, position, unwrap_or}
use Rattle.std.specs.Str.{bytes_eq}
use Rattle.vidi_answer.specs.trace_code.trace_model.declared.channel.Channel.{Channel}
use Rattle.vidi_answer.specs.trace_code.trace_model.declared.event.Event.{Event}
use Rattle.vidi_answer.specs.trace_code.trace_model.declared.event.Kind.TheVariants.{End}
use Rattle.vidi_answer.specs.trace_code.trace_model.declared.trace.Trace.{Trace}
use Rattle.vidi_answer.specs.trace_code.Encoding.{Encodes}
use Rattle.vidi_answer.specs.vidi_io.Shelf.{Files}
use Rattle.vidi_answer.specs.report_text.declared.reason.Word.TheVariants as words
use Rattle.vidi_answer.specs.report_text.declared.reason.Reason.{Reason}
use Rattle.vidi_answer.specs.report_text.declared.reason.Reason.TheVariants as reasons
use Rattle.vidi_answer.specs.declared.status.Status.{Status}
use Rattle.vidi_answer.specs.Reading.{IsRead, Reading}
use Rattle.vidi_answer.specs.Steps.{Ending, IsRefusalFor}
use Rattle.vidi_answer.specs.Traces.{trace_limit, Decoding}
use Rattle.trace_edit.specs.declared.error.EditError.{EditError}
use Rattle.trace_edit.specs.declared.error.EditError.TheVariants as edits
use Rattle.trace_edit.specs.Moved.{Moves}
use Rattle.trace_commands.specs.declared.moving.Wish as declared
use Rattle.trace_commands.specs.Said.{moved_line}
use Rattle.trace_commands.specs.Written.{StopsWriting, Writes}

-- what the words ask for: completion `index` of the channel of this name, right after or right before the other one
pub record Wanted : Type 0 where
  pub channel : List ℕ
  pub index : ℕ
  pub after : Bool
  pub other : List ℕ
  pub other_index : ℕ

abbrev pub wanted : declared.Wish → Wanted
wanted w = record { channel = w.end.channel.now; index = w.end.index; after = w.after; other = w.other.channel.now; other_index = w.other.index }

-- a completion by its channel's name and its number in the whole trace; a name that no channel has stands for none
abbrev pub end_named : List Channel → List ℕ → ℕ → Event
end_named channels name index = record {
  channel = unwrap_or (position (λ (c : Channel). bytes_eq name c.name) channels) (length channels);
  kind = End;
  index = index;
  epoch = 0;
}

abbrev pub reason_of : EditError → Option Reason
reason_of (edits.NoEnd which) = Some (reasons.NoEnd which)
reason_of edits.SameEnd = Some reasons.SameEnd
reason_of (edits.Blocked packet) = Some (reasons.Blocked packet)
reason_of edits.Memory = None

-- this completion of the trace isn't moved
abbrev pub Refuses : Wanted → Trace → Ending
Refuses w t status text = (error : EditError)
    × Moves t (end_named t.channels w.channel w.index) (end_named t.channels w.other w.other_index) w.after (Err error)
    × IsRefusalFor words.Trace (reason_of error) status text

-- the bytes are no trace's, or it isn't moved
abbrev pub IsUnmovedIn : Wanted → List ℕ → Ending
IsUnmovedIn w file = Decoding words.Trace file (Refuses w)

-- u is the trace of the bytes with the completion moved
abbrev pub IsMovedIn : Wanted → List ℕ → Trace → Type 0
IsMovedIn w file u = (t : Trace) × Encodes t file
    × Moves t (end_named t.channels w.channel w.index) (end_named t.channels w.other w.other_index) w.after (Ok u)

abbrev pub IsUnmoved : List ℕ → Wanted → Option Files → (List ℕ → Type 0) → Ending
IsUnmoved trace w files ReadFailed = Reading trace_limit words.Trace trace files ReadFailed (IsUnmovedIn w)

abbrev pub IsMovedOf : List ℕ → Wanted → Option Files → Trace → Type 0
IsMovedOf trace w files u = (file : List ℕ) × IsRead trace_limit trace files file × IsMovedIn w file u

abbrev pub MovesEnd : List ℕ → Wanted → List ℕ → Option Files → (List ℕ → Type 0) → (Bool → Type 0) → Status → List ℕ → Option Files → Type 0
MovesEnd trace w out files ReadFailed = Writes (IsUnmoved trace w files ReadFailed) (IsMovedOf trace w files) moved_line out files

abbrev pub StopsMoving : List ℕ → Wanted → List ℕ → Option Files → (Bool → Type 0) → Option Files → Type 0
StopsMoving trace w out files = StopsWriting (IsMovedOf trace w files) out files
